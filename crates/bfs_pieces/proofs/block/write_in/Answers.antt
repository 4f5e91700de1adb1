use Rattle.std.proofs.Common.{◌≡◌, ◌≤◌, ◌+◌, ⊎_elim, length, refl, arith}
use Rattle.bfs_device.specs.Layouts.{layout_of}
use Rattle.bfs_pieces.proofs.Parting.{put_patched}
use Rattle.bfs_pieces.proofs.Writing.{part_read, patch_may, whole_may}
use Rattle.bfs_pieces.proofs.block.write_in.Goals as goal

pub returns-then-from-block-clause-core : goal.returns-then-from-block-clause-core
returns-then-from-block-clause-core g c = λ t0 adopted sp core behind may read.
    let old = c.args.device.now in
    let from = c.args.from.now in
    let long : length from ≡ old.books.sup.block_size = omega (arith, c.if-from-block.true, c.requires.buffer) in
    let none : c.args.skip ≡ 0 = omega (arith, long, c.requires.inside) in
    c.write_whole.ensures.core t0 adopted sp core behind
    (whole_may t0 adopted sp old.books (g.D.Disk.state old.disk) (g.D.Disk.clock old.disk) (g.D.Disk.since old.disk) c.args.place core c.args.skip from none long may)

pub returns-clause-bytes : goal.returns-clause-bytes
returns-clause-bytes g c = λ st is.
    let block = c.args.block.now in
    let from = c.args.from.now in
    let fits : c.args.skip + length from ≤ length block = omega (arith, c.requires.inside, c.requires.buffer) in
    part_read (g.D.Disk.state c.write_whole-2.new.device.disk) (layout_of c.args.device.now.books.sup).sectors c.args.place block from _ c.args.skip fits c.write_whole-2.result (put_patched block from c.args.skip fits c.copy_from_slice.new.self c.copy_from_slice.ensures.after) c.write_whole-2.ensures.bytes st is

pub returns-clause-core : goal.returns-clause-core
returns-clause-core g c = λ t0 adopted sp core behind may read.
    let old = c.args.device.now in
    let block = c.args.block.now in
    let from = c.args.from.now in
    let fits : c.args.skip + length from ≤ length block = omega (arith, c.requires.inside, c.requires.buffer) in
    ⊎_elim
    (λ whole. absurd (omega (arith, whole, c.if-from-block.false, c.requires.buffer)))
    (λ was.
    c.write_whole-2.ensures.core t0 adopted sp core behind
    (patch_may t0 adopted sp old.books (g.D.Disk.state old.disk) (g.D.Disk.clock old.disk) (g.D.Disk.since old.disk) c.args.place core old.books (g.D.Disk.state old.disk) c.args.skip block from _ refl refl fits was (put_patched block from c.args.skip fits c.copy_from_slice.new.self c.copy_from_slice.ensures.after) may))
    read
