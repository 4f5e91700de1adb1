use Rattle.bfs_device.specs.Layouts.{layout_of}
use Rattle.bfs_pieces.proofs.Stepping.{block_written, others_block}
use Rattle.bfs_pieces.proofs.piece.write_block.Goals as goal

pub returns-clause-written : goal.returns-clause-written
returns-clause-written g c = λ t0 adopted sp id at core behind held unknown read.
    let old = c.args.device.now in
    let new = c.write_in.new.device in
    let e = c.write_in.ensures in
    block_written t0 adopted sp old.books (g.D.Disk.state old.disk) (g.D.Disk.clock old.disk) (g.D.Disk.since old.disk) core id at c.args.skip c.args.place c.args.from.now held c.requires.some c.requires.inside unknown new.books (g.D.Disk.state new.disk) (g.D.Disk.clock new.disk) (g.D.Disk.since new.disk) c.write_in.result
    (λ before may. e.core t0 adopted sp before behind may read) e.others e.bytes

pub returns-clause-others : goal.returns-clause-others
returns-clause-others g c = others_block (g.D.Disk.state c.args.device.now.disk) (g.D.Disk.state c.write_in.new.device.disk) (layout_of c.args.device.now.books.sup).sectors c.args.place c.write_in.ensures.silent c.write_in.ensures.others
