use Rattle.std.proofs.Common.{◌∙◌}
use Rattle.std.proofs.lemmas.List.{length-take-le}
use Rattle.bfs_file_io.proofs.Making.{loaded_told}
use Rattle.bfs_file_io.proofs.open.load_block.Goals as goal

pub returns-clause-told : goal.returns-clause-told
returns-clause-told g c = λ st is.
    let old = c.args.device.now in
    let new = c.read_block.new.device in
    let e = c.read_block.ensures in
    loaded_told old.books new.books (g.D.Disk.state old.disk) (g.D.Disk.state new.disk) c.args.place c.args.size c.read_block.new.into c.args.block.now c.read_block.result e.rests e.state c.steady.ensures.steady c.requires.data c.requires.apart
    (c.read_block.auto.into ∙ length-take-le c.args.size c.args.block.now c.requires.room) e.bytes st is

pub returns-clause-core : goal.returns-clause-core
returns-clause-core g c = λ t0 adopted sp core. c.read_block.ensures.core t0 adopted sp.view core
