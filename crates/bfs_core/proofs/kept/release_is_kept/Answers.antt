use Rattle.bfs_core.proofs.Events.{release_event}
use Rattle.bfs_core.proofs.kept.release_is_kept.Goals as goal

pub returns : goal.returns
returns g c =
    λ t0 adopted sp b core. release_event t0 adopted sp b (g.D.Disk.state c.args.disk.now) (g.D.Disk.clock c.args.disk.now) (g.D.Disk.since c.args.disk.now) core
