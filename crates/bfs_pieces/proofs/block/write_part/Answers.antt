use Rattle.std.proofs.Common.{◌≡◌, length, arith}
use Rattle.bfs_pieces.proofs.Writing.{whole_may}
use Rattle.bfs_pieces.proofs.block.write_part.Goals as goal

pub returns-then-from-block-clause-core : goal.returns-then-from-block-clause-core
returns-then-from-block-clause-core g c = λ t0 adopted sp core behind may.
    let old = c.args.device.now in
    let from = c.args.from.now in
    let long : length from ≡ old.books.sup.block_size = omega (arith, c.if-from-block.true, c.requires.buffer) in
    let none : c.args.skip ≡ 0 = omega (arith, long, c.requires.inside) in
    c.write_whole.ensures.core t0 adopted sp core behind
    (whole_may t0 adopted sp old.books (g.D.Disk.state old.disk) (g.D.Disk.clock old.disk) (g.D.Disk.since old.disk) c.args.place core c.args.skip from none long may)
