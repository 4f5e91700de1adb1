use Rattle.bfs_core.proofs.Events.{entry_event}
use Rattle.bfs_core.proofs.kept.entry_is_kept.Goals as goal

pub returns : goal.returns
returns g c =
    λ t0 adopted sp new b e entered known core. entry_event t0 adopted sp new b (g.D.Disk.state c.args.disk.now) (g.D.Disk.clock c.args.disk.now) (g.D.Disk.since c.args.disk.now) e entered known core
