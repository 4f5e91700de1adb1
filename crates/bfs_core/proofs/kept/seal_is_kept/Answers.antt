use Rattle.bfs_core.proofs.Events.{seal_event}
use Rattle.bfs_core.proofs.kept.seal_is_kept.Goals as goal

pub returns : goal.returns
returns g c =
    λ t0 adopted sp b gr group core. seal_event t0 adopted sp b gr (g.D.Disk.state c.args.disk.now) (g.D.Disk.clock c.args.disk.now) (g.D.Disk.since c.args.disk.now) group core
