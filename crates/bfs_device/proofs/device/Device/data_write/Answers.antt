use Rattle.std.proofs.Common.{ℕ, Bool, subst, sym, ap, refl, Option, OnOk, OnErr}
use Rattle.bfs_base.specs.Moments.{Passed}
use Rattle.bfs_disk.specs.State.{Tells}
use Rattle.bfs_device.specs.Books.{View, books_of, IsRight, RecoversOne, IsOnDisk}
use Rattle.bfs_device.specs.Data.{touching, AreSameBut}
use Rattle.bfs_device.specs.Layouts.{Layout, layout_of}
use Rattle.bfs_device.proofs.Stepping.{on_layout}
use Rattle.bfs_device.proofs.Keeping.{agrees_as}
use Rattle.bfs_device.proofs.device.Device.data_write.Goals as goal

pub invariant_of-self : goal.invariant_of-self
invariant_of-self g c =
    let inside = c.self.inside in (
      c.write_data.ensures.ready,
      on_layout (g.D.Disk.size c.write_data.new.disk) inside.journal.sup c.write_data.new.journal.sup (ap layout_of c.write_data.ensures.sup) (subst (λ (o : Option ℕ). IsOnDisk o inside.journal.sup) (sym c.write_data.ensures.size) c.self.invariant.1),
      agrees_as (layout_of inside.journal.sup).sectors (layout_of c.write_data.new.journal.sup).sectors (g.D.Disk.state c.write_data.new.disk) (g.D.Disk.state c.write_data.new.disk) c.forget.new.self.kept (ap (λ (l : Layout). l.sectors) (ap layout_of c.write_data.ensures.sup)) refl
          (c.write_data.ensures.agrees c.forget.new.self.kept c.forget.ensures.gone (c.forget.ensures.agrees (g.D.Disk.state inside.disk) (layout_of inside.journal.sup).sectors (λ k other. c.self.invariant.2 k))),
    )

pub returns-clause-right : goal.returns-clause-right
returns-clause-right g c =
    let new = c.write_data.new in
    subst (λ (x : View g.row.D.Denot). (t : ℕ → Bool) (right : Tells (g.D.Disk.state x.disk) (IsRight x.books t)) → OnOk c.write_data.result (Tells (g.D.Disk.state new.disk) (λ s. IsRight (books_of new.journal) (touching c.args.block t) s × AreSameBut c.args.block x.books right.0 (books_of new.journal) s))) c.self.view_is c.write_data.ensures.right

pub returns-clause-still_right : goal.returns-clause-still_right
returns-clause-still_right g c =
    let new = c.write_data.new in
    subst (λ (x : View g.row.D.Denot). (t : ℕ → Bool) (right : Tells (g.D.Disk.state x.disk) (IsRight x.books t)) → OnErr c.write_data.result (Tells (g.D.Disk.state new.disk) (λ s. IsRight (books_of new.journal) (touching c.args.block t) s × AreSameBut c.args.block x.books right.0 (books_of new.journal) s))) c.self.view_is c.write_data.ensures.still_right

pub returns-clause-moments : goal.returns-clause-moments
returns-clause-moments g c =
    let new = c.write_data.new in
    subst (λ (x : View g.row.D.Denot). (t : ℕ → Bool) → Tells (g.D.Disk.state x.disk) (IsRight x.books t) → Passed (g.D.Disk.clock x.disk) (g.D.Disk.clock new.disk) (g.D.Disk.since x.disk) (g.D.Disk.since new.disk) (λ i. Tells (g.D.Disk.state x.disk) (λ s. RecoversOne x.books (touching c.args.block t) s i))) c.self.view_is c.write_data.ensures.moments
