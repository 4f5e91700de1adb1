use Rattle.std.proofs.Common.{ℕ, List, Bool, subst}
use Rattle.bfs_disk.specs.State.{Tells}
use Rattle.bfs_disk.specs.Disk.{MayLeave}
use Rattle.bfs_device.specs.Books.{View, books_of, IsRight, RecoversOne}
use Rattle.bfs_device.proofs.Stepping.{known_of, now_right}
use Rattle.bfs_device.proofs.device.Device.durable.Goals as goal

pub returns-clause-recovers : goal.returns-clause-recovers
returns-clause-recovers g c =
    let inside = c.self.inside in
    subst (λ (x : View g.row.D.Denot). (t : ℕ → Bool) (right : Tells (g.D.Disk.state x.disk) (IsRight x.books t)) (image : List ℕ) → MayLeave (g.D.Disk.state x.disk) image → RecoversOne x.books t right.0 image) c.self.view_is
    (λ t right image left. now_right (books_of inside.journal) (known_of inside.journal c.self.invariant.0) (g.D.Disk.size inside.disk) c.self.invariant.1 t (g.D.Disk.state inside.disk) (g.met.D.Disk.sized inside.disk) right image left)
