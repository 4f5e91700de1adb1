use Rattle.bfs_core.proofs.Mounts.{mount_event}
use Rattle.bfs_core.proofs.kept.mount_is_kept.Goals as goal

pub returns : goal.returns
returns g c =
    λ t0 begun first image result early kept recovers replayed holds on. mount_event t0 first image result (g.D.Disk.state c.args.disk.now) (g.D.Disk.size c.args.disk.now) begun (g.D.Disk.clock c.args.disk.now) (g.D.Disk.since c.args.disk.now) early kept recovers replayed holds (g.met.D.Disk.filled c.args.disk.now) (g.met.D.Disk.sized c.args.disk.now) on
