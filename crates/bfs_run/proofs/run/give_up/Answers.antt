use Rattle.std.proofs.Common.{[], None, refl, ap}
use Rattle.bfs_device.specs.Books.{durable_of}
use Rattle.bfs_volume.proofs.Failed.{counts_same, failed_none}
use Rattle.bfs_run.proofs.Ends.{early_failures, early_run}
use Rattle.bfs_run.proofs.run.give_up.Goals as goal

pub returns-clause-run : goal.returns-clause-run
returns-clause-run g c t0 adopted first lines begins core going =
    early_run t0 first c.args.end lines (g.D.Disk.state c.abandon-disk.result.0) adopted.begun (g.D.Disk.since c.abandon-disk.result.0) (g.C.Clock.stands c.args.volume.clock) c.args.volume.space.view.history (durable_of c.args.volume.device.books) (g.D.Disk.faults c.args.volume.device.disk) (g.D.Disk.faults c.abandon-disk.result.0) (g.D.Disk.stops c.args.volume.device.disk) (g.D.Disk.stops c.abandon-disk.result.0) c.requires.early c.requires.fresh (λ image left. c.abandon-disk.ensures.held t0 adopted core image left) (λ image left. c.abandon-disk.ensures.since t0 adopted core image left)
    (failed_none [] [] None None (g.D.Disk.faults c.args.volume.device.disk) (g.D.Disk.faults c.abandon-disk.result.0) (g.D.Disk.stops c.args.volume.device.disk) (g.D.Disk.stops c.abandon-disk.result.0) refl (counts_same None None (g.D.Disk.faults c.args.volume.device.disk) (g.D.Disk.faults c.abandon-disk.result.0) (g.D.Disk.stops c.args.volume.device.disk) (g.D.Disk.stops c.abandon-disk.result.0) refl (ap g.D.Disk.faults c.abandon-disk.ensures.disk) (ap g.D.Disk.stops c.abandon-disk.ensures.disk))) (c.abandon-disk.ensures.chained t0 adopted core first begins) (λ image left. c.abandon-disk.ensures.keeps t0 adopted core first begins image left)

pub returns-clause-failures : goal.returns-clause-failures
returns-clause-failures g c = λ going.
    early_failures c.args.end (g.D.Disk.faults c.args.volume.device.disk) (g.D.Disk.faults c.abandon-disk.result.0) (g.D.Disk.stops c.args.volume.device.disk) (g.D.Disk.stops c.abandon-disk.result.0) c.requires.early (failed_none [] [] None None (g.D.Disk.faults c.args.volume.device.disk) (g.D.Disk.faults c.abandon-disk.result.0) (g.D.Disk.stops c.args.volume.device.disk) (g.D.Disk.stops c.abandon-disk.result.0) refl (counts_same None None (g.D.Disk.faults c.args.volume.device.disk) (g.D.Disk.faults c.abandon-disk.result.0) (g.D.Disk.stops c.args.volume.device.disk) (g.D.Disk.stops c.abandon-disk.result.0) refl (ap g.D.Disk.faults c.abandon-disk.ensures.disk) (ap g.D.Disk.stops c.abandon-disk.ensures.disk)))
