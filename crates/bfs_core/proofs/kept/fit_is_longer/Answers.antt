use Rattle.bfs_core.proofs.Fitting.{fit_longer}
use Rattle.bfs_core.proofs.kept.fit_is_longer.Goals as goal

pub returns : goal.returns
returns g c =
    λ y z w s adopted b e longer known covered fits. fit_longer y z w s adopted b (g.D.Disk.state c.args.disk.now) (g.D.Disk.clock c.args.disk.now) (g.D.Disk.since c.args.disk.now) e longer known covered fits
