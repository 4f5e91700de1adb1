use Rattle.bfs_core.proofs.Fitting.{fit_written}
use Rattle.bfs_core.proofs.kept.fit_is_written.Goals as goal

pub returns : goal.returns
returns g c =
    λ y w s adopted block b next story covered marked apart writes fits. fit_written y w s adopted block b next (g.D.Disk.state c.args.old.now) (g.D.Disk.state c.args.new.now) (g.D.Disk.clock c.args.old.now) (g.D.Disk.clock c.args.new.now) (g.D.Disk.since c.args.old.now) (g.D.Disk.since c.args.new.now) story covered marked apart writes fits
