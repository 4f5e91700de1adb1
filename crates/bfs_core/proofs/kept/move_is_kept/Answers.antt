use Rattle.bfs_core.proofs.Events.{move_event}
use Rattle.bfs_core.proofs.kept.move_is_kept.Goals as goal

pub returns : goal.returns
returns g c =
    λ t0 adopted sp b next moves core. move_event t0 adopted sp b next (g.D.Disk.state c.args.old.now) (g.D.Disk.state c.args.new.now) (g.D.Disk.clock c.args.old.now) (g.D.Disk.clock c.args.new.now) (g.D.Disk.since c.args.old.now) (g.D.Disk.since c.args.new.now) moves core
