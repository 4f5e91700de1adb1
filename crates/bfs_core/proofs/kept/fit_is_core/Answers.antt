use Rattle.bfs_core.proofs.Fitting.{fit_core}
use Rattle.bfs_core.proofs.kept.fit_is_core.Goals as goal

pub returns : goal.returns
returns g c =
    λ y w sp adopted b story space fits. fit_core y w sp adopted b (g.D.Disk.state c.args.disk.now) (g.D.Disk.clock c.args.disk.now) (g.D.Disk.since c.args.disk.now) story space fits
