use Rattle.bfs_tree.specs.declared.call.Call.TheVariants.{Hold}
use Rattle.bfs_volume.proofs.Happens.{asked_by, replied_by, stopped_by, wanted_by}
use Rattle.bfs_volume.proofs.event.hold_event.Goals as goal

pub returns-clause-asked : goal.returns-clause-asked
returns-clause-asked g c = asked_by c.args.space.now c.hold_open.new.space c.args.device.now.books.stop (g.D.Disk.faults c.args.device.now.disk) (g.D.Disk.faults c.hold_open.new.device.disk) c.args.piece.session c.args.piece.tag (Hold c.args.piece.id c.args.piece.at c.args.piece.length c.args.piece.write) c.hold_open.result c.as_happened.result c.as_happened.ensures.ok c.as_happened.ensures.err c.hold_open.ensures.entry c.hold_open.ensures.noted

pub returns-clause-no_memory : goal.returns-clause-no_memory
returns-clause-no_memory g c = wanted_by _ c.hold_open.result c.as_happened.result c.as_happened.ensures.ok c.as_happened.ensures.err c.hold_open.ensures.no_memory

pub returns-clause-replied : goal.returns-clause-replied
returns-clause-replied g c = λ t0 adopted core.
    replied_by t0 c.args.space.now c.hold_open.new.space c.args.device.now.books c.hold_open.new.device.books (g.D.Disk.state c.hold_open.new.device.disk) (g.D.Disk.faults c.args.device.now.disk) (g.D.Disk.faults c.hold_open.new.device.disk) c.args.piece.session c.args.piece.tag (Hold c.args.piece.id c.args.piece.at c.args.piece.length c.args.piece.write) c.hold_open.result c.as_happened.result c.as_happened.ensures.ok c.as_happened.ensures.err c.hold_open.ensures.entry
    (c.hold_open.ensures.answered t0 adopted core)

pub returns-clause-stopped : goal.returns-clause-stopped
returns-clause-stopped g c = λ s is.
    stopped_by c.args.space.now.view.history c.hold_open.new.space.view.history c.args.piece.session c.args.piece.tag (Hold c.args.piece.id c.args.piece.at c.args.piece.length c.args.piece.write) s c.hold_open.result c.as_happened.result c.as_happened.ensures.ok c.as_happened.ensures.err (c.hold_open.ensures.stopped s is)
