use Rattle.std.proofs.Common.{ℕ, subst}
use Rattle.bfs_core.specs.Cores.{RecoversWithin}
use Rattle.bfs_device.specs.Books.{durable_of}
use Rattle.bfs_core.proofs.Together.{device_recovers}
use Rattle.bfs_core.proofs.pairs.device_recovers.Goals as goal

pub returns : goal.returns
returns c = λ y w s b t st story covered fits image one.
    subst (λ (n : ℕ). RecoversWithin y.t0 y.history n w.sealed image) fits.durable
    (subst (λ (n : ℕ). RecoversWithin y.t0 y.history (durable_of b) n image) fits.sealed (device_recovers y w s b t st story covered fits image one))
