use Rattle.std.proofs.Common.{ℕ, Bool, subst, sym, ap, Option}
use Rattle.bfs_base.specs.Moments.{Passed}
use Rattle.bfs_disk.specs.State.{State, Tells}
use Rattle.bfs_device.specs.Books.{View, books_of, IsRight, RecoversOne, IsOnDisk}
use Rattle.bfs_device.specs.Layouts.{Layout, layout_of}
use Rattle.bfs_device.proofs.Stepping.{on_layout}
use Rattle.bfs_device.proofs.Keeping.{agrees_as}
use Rattle.bfs_device.proofs.device.Device.block.Goals as goal

pub invariant_of-self : goal.invariant_of-self
invariant_of-self g c =
    let inside = c.self.inside in
    (c.read_newest.ensures.ready, on_layout (g.D.Disk.size c.read_newest.new.disk) inside.journal.sup c.read_newest.new.journal.sup (ap layout_of c.read_newest.ensures.sup) (subst (λ (o : Option ℕ). IsOnDisk o inside.journal.sup) (sym c.read_newest.ensures.size) c.self.invariant.1), agrees_as (layout_of inside.journal.sup).sectors (layout_of c.read_newest.new.journal.sup).sectors (g.D.Disk.state inside.disk) (g.D.Disk.state c.read_newest.new.disk) c.read_newest.new.cache.kept (ap (λ (l : Layout). l.sectors) (ap layout_of c.read_newest.ensures.sup)) c.read_newest.ensures.state c.read_newest.ensures.agrees)

pub returns-clause-right : goal.returns-clause-right
returns-clause-right g c =
    let new = c.read_newest.new in
    subst (λ (x : View g.row.D.Denot). (t : ℕ → Bool) (s : State) → IsRight x.books t s → IsRight (books_of new.journal) t s) c.self.view_is c.read_newest.ensures.right

pub returns-clause-moments : goal.returns-clause-moments
returns-clause-moments g c =
    let new = c.read_newest.new in
    subst (λ (x : View g.row.D.Denot). (t : ℕ → Bool) → Tells (g.D.Disk.state x.disk) (IsRight x.books t) → Passed (g.D.Disk.clock x.disk) (g.D.Disk.clock new.disk) (g.D.Disk.since x.disk) (g.D.Disk.since new.disk) (λ i. Tells (g.D.Disk.state x.disk) (λ s. RecoversOne x.books t s i))) c.self.view_is c.read_newest.ensures.moments
