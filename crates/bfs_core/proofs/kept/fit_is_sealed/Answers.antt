use Rattle.bfs_core.proofs.Fitting.{fit_sealed}
use Rattle.bfs_core.proofs.kept.fit_is_sealed.Goals as goal

pub returns : goal.returns
returns g c =
    λ y w sp adopted b gr story space group fits. fit_sealed y w sp adopted b gr (g.D.Disk.state c.args.disk.now) (g.D.Disk.clock c.args.disk.now) (g.D.Disk.since c.args.disk.now) story space group fits
