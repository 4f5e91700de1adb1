use Rattle.bfs_core.proofs.Fitting.{fit_moved}
use Rattle.bfs_core.proofs.kept.fit_is_moved.Goals as goal

pub returns : goal.returns
returns g c =
    λ y w s adopted b next story covered moves fits. fit_moved y w s adopted b next (g.D.Disk.state c.args.old.now) (g.D.Disk.state c.args.new.now) (g.D.Disk.clock c.args.old.now) (g.D.Disk.clock c.args.new.now) (g.D.Disk.since c.args.old.now) (g.D.Disk.since c.args.new.now) story covered moves fits
