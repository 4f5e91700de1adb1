use Rattle.std.proofs.Common.{◌≡◌, Some, ℕ, Bool, subst, sym, ap, refl, Option, OnOk, OnErr, IfOk}
use Rattle.bfs_base.specs.Moments.{Passed}
use Rattle.bfs_disk.specs.State.{State, Tells}
use Rattle.bfs_device.specs.Layouts.{IsSameVolume, Layout, layout_of}
use Rattle.bfs_device.specs.Books.{View, books_of, IsRight, RecoversOne, AreSame, IsOnDisk}
use Rattle.bfs_device.specs.Steps.{still_touched}
use Rattle.bfs_device.specs.Told.{HasCalled}
use Rattle.bfs_device.proofs.Stepping.{on_layout}
use Rattle.bfs_device.proofs.Keeping.{agrees_as}
use Rattle.bfs_device.specs.Ahead.{GoesOn}
use Rattle.bfs_device.specs.Contents.{KeepsContents}
use Rattle.bfs_device.proofs.device.Device.step.Goals as goal

pub invariant_of-self : goal.invariant_of-self
invariant_of-self g c =
    let inside = c.self.inside in (
      c.step_of.ensures.ready,
      on_layout (g.D.Disk.size c.step_of.new.disk) inside.journal.sup c.step_of.new.journal.sup c.step_of.ensures.volume.layout (subst (λ (o : Option ℕ). IsOnDisk o inside.journal.sup) (sym c.step_of.ensures.size) c.self.invariant.1),
      agrees_as (layout_of inside.journal.sup).sectors (layout_of c.step_of.new.journal.sup).sectors (g.D.Disk.state c.step_of.new.disk) (g.D.Disk.state c.step_of.new.disk) c.forget_next.new.cache.kept (ap (λ (l : Layout). l.sectors) c.step_of.ensures.volume.layout) refl
          (c.step_of.ensures.agrees c.forget_next.new.cache.kept c.forget_next.ensures.out (c.forget_next.ensures.agrees (g.D.Disk.state inside.disk) (layout_of inside.journal.sup).sectors c.self.invariant.2)),
    )

pub returns-clause-right : goal.returns-clause-right
returns-clause-right g c =
    let new = c.step_of.new in
    subst (λ (x : View g.row.D.Denot). (t : ℕ → Bool) (right : Tells (g.D.Disk.state x.disk) (IsRight x.books t)) → OnOk c.step_of.result (Tells (g.D.Disk.state new.disk) (λ s. IsRight (books_of new.journal) (still_touched x.books t) s × AreSame x.books right.0 (books_of new.journal) s))) c.self.view_is c.step_of.ensures.right

pub returns-clause-still_right : goal.returns-clause-still_right
returns-clause-still_right g c =
    let new = c.step_of.new in
    subst (λ (x : View g.row.D.Denot). (t : ℕ → Bool) (right : Tells (g.D.Disk.state x.disk) (IsRight x.books t)) → OnErr c.step_of.result (Tells (g.D.Disk.state new.disk) (λ s. IsRight (books_of new.journal) t s × AreSame x.books right.0 (books_of new.journal) s))) c.self.view_is c.step_of.ensures.still_right

pub returns-clause-moments : goal.returns-clause-moments
returns-clause-moments g c =
    let new = c.step_of.new in
    subst (λ (x : View g.row.D.Denot). (t : ℕ → Bool) → Tells (g.D.Disk.state x.disk) (IsRight x.books t) → Passed (g.D.Disk.clock x.disk) (g.D.Disk.clock new.disk) (g.D.Disk.since x.disk) (g.D.Disk.since new.disk) (λ i. Tells (g.D.Disk.state x.disk) (λ s. RecoversOne x.books t s i))) c.self.view_is c.step_of.ensures.moments

pub returns-clause-called : goal.returns-clause-called
returns-clause-called g c =
    let new = c.step_of.new in
    subst (λ (x : View g.row.D.Denot). IfOk c.step_of.result (HasCalled (layout_of x.books.sup) (g.D.Disk.state x.disk) (g.D.Disk.state new.disk))) c.self.view_is c.step_of.ensures.called

pub returns-clause-volume : goal.returns-clause-volume
returns-clause-volume g c = subst (λ (x : View g.row.D.Denot). IsSameVolume x.books.sup c.step_of.new.journal.sup) c.self.view_is c.step_of.ensures.volume

pub returns-clause-ahead : goal.returns-clause-ahead
returns-clause-ahead g c =
    let new = c.step_of.new in
    subst (λ (x : View g.row.D.Denot). GoesOn x.books (books_of new.journal)) c.self.view_is c.step_of.ensures.ahead

pub returns-clause-contents : goal.returns-clause-contents
returns-clause-contents g c =
    let new = c.step_of.new in
    subst (λ (x : View g.row.D.Denot). (st next : State) → g.D.Disk.state x.disk ≡ Some st → g.D.Disk.state new.disk ≡ Some next → KeepsContents x.books (books_of new.journal) st next) c.self.view_is c.step_of.ensures.contents
