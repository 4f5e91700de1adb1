use Rattle.std.proofs.Common.{◌≤◌, ◌<◌, ◌+◌, ◌-◌, ℕ, List, refl, ◌∙◌, arith}
use Rattle.bfs_pages.specs.Trees.{page_in}
use Rattle.bfs_pages.proofs.Later.{later-twice}
use Rattle.bfs_pages.proofs.OfKind.{if_some}
use Rattle.bfs_values.specs.declared.link.Link.TheVariants.{Chain}
use Rattle.bfs_values.specs.Values.{page_count, values_in}
use Rattle.bfs_dups.proofs.Answered.{linked-numbers}
use Rattle.bfs_dups.proofs.Composed.{told-whole, told-some}
use Rattle.bfs_dups_remove.specs.Shortened.{IsFolded}
use Rattle.bfs_dups_remove.proofs.Folded.{the-first, unchanged-row}
use Rattle.bfs_dups_remove.proofs.Forms.{folded-full, six-more, one-less, none-left}
use Rattle.bfs_dups_remove.proofs.Lesser.{stored-row, revalued-twice}
use Rattle.bfs_values.specs.Chained.{IsLinked}
use Rattle.bfs_dups_remove.proofs.shrinking.fold_all.Goals as goal

pub loop-left-init : goal.loop-left-init
loop-left-init g c = record {
  size = refl;
  kept = record { counts = record { faults = omega arith; stops = refl; stop = refl }; frame_is = refl; goes_on = g.met.P.Pages.goes_on_same c.args.pages.now };
  folded = λ b t front back key value e s link. (b, e, unchanged-row c.args.kind b t front key back value s);
  full = λ b t front back key value e s link.
      let w = told-whole (g.P.Pages.told c.args.pages.now) (g.P.Pages.size c.args.pages.now) b (g.met.P.Pages.sized c.args.pages.now) (g.met.P.Pages.whole c.args.pages.now) e in
      let f = the-first b c.args.first w (linked-numbers b value (Chain c.args.first) link (stored-row c.args.kind b t front key back value s)) in
      told-some (λ (d : List ℕ). 7 ≤ 6 + page_count (page_in d c.args.first)) (g.P.Pages.told c.args.pages.now) b e (six-more (page_count (page_in b c.args.first)) f.good.some);
  linked = λ b t front back key value e s link k. told-some (λ (d : List ℕ). IsLinked d (Chain c.args.first)) (g.P.Pages.told c.args.pages.now) b e k;
}

pub returns-in-Err-clause-folded : goal.returns-in-Err-clause-folded
returns-in-Err-clause-folded g c b t front back key value e s link =
    let x = c.loop-left.invariant.folded b t front back key value e s link in
    c.in-Err.ensures.folded x.0 t front back key value x.1 x.2.stored link

pub returns-then-not-more-clause-folded : goal.returns-then-not-more-clause-folded
returns-then-not-more-clause-folded g c b t front back key value e s link =
    let x = c.loop-left.invariant.folded b t front back key value e s link in
    let y = c.in-Ok.ensures.folded x.0 t front back key value x.1 x.2.stored link in
    (y.0, y.1, revalued-twice c.args.kind b x.0 y.0 t front key back value value (values_in b value) x.2 y.2)

pub loop-left-preserved : goal.loop-left-preserved
loop-left-preserved g c = record {
  size = c.in-Ok.ensures.size ∙ c.loop-left.invariant.size;
  kept = record {
    counts = later-twice c.loop-left.invariant.kept.counts c.in-Ok.ensures.kept.counts;
    frame_is = c.in-Ok.ensures.kept.frame_is ∙ c.loop-left.invariant.kept.frame_is;
    goes_on = g.met.P.Pages.goes_on_twice c.args.pages.now c.loop-left.pages c.fold_next.new.pages c.loop-left.invariant.kept.goes_on c.in-Ok.ensures.kept.goes_on;
  };
  folded = λ b t front back key value e s link.
      let x = c.loop-left.invariant.folded b t front back key value e s link in
      let y = c.in-Ok.ensures.folded x.0 t front back key value x.1 x.2.stored link in
      (y.0, y.1, revalued-twice c.args.kind b x.0 y.0 t front key back value value (values_in b value) x.2 y.2);
  full = λ b t front back key value e s link.
      let x = c.loop-left.invariant.folded b t front back key value e s link in
      let y = c.in-Ok.ensures.folded x.0 t front back key value x.1 x.2.stored link in
      let before : 7 ≤ c.loop-left.left + page_count (page_in x.0 c.args.first) = if_some (λ (d : List ℕ). 7 ≤ c.loop-left.left + page_count (page_in d c.args.first)) (g.P.Pages.told c.loop-left.pages) x.0 (c.loop-left.invariant.full b t front back key value e s link) x.1 in
      let more : page_count (page_in x.0 c.args.first) < page_count (page_in y.0 c.args.first) = if_some (λ (d : List ℕ). page_count (page_in x.0 c.args.first) < page_count (page_in d c.args.first)) (g.P.Pages.told c.fold_next.new.pages) y.0 (c.in-Ok.ensures.grown x.0 t front back key value x.1 x.2.stored link c.if-not-more.false) y.1 in
      told-some (λ (d : List ℕ). 7 ≤ (c.loop-left.left - 1) + page_count (page_in d c.args.first)) (g.P.Pages.told c.fold_next.new.pages) y.0 y.1 (one-less c.loop-left.left (page_count (page_in x.0 c.args.first)) (page_count (page_in y.0 c.args.first)) before more);
  linked = λ b t front back key value e s link k.
      let x = c.loop-left.invariant.folded b t front back key value e s link in
      c.in-Ok.ensures.linked x.0 t front back key value x.1 x.2.stored link (if_some (λ (d : List ℕ). IsLinked d (Chain c.args.first)) (g.P.Pages.told c.loop-left.pages) x.0 (c.loop-left.invariant.linked b t front back key value e s link k) x.1);
}

pub returns-clause-folded : goal.returns-clause-folded
returns-clause-folded g c b t front back key value e s link = c.loop-left.invariant.folded b t front back key value e s link

pub returns-then-not-more-clause-formed : goal.returns-then-not-more-clause-formed
returns-then-not-more-clause-formed g c b t front back key value e s link =
    let x = c.loop-left.invariant.folded b t front back key value e s link in
    c.in-Ok.ensures.done x.0 x.1 (linked-numbers x.0 value (Chain c.args.first) link (stored-row c.args.kind x.0 t front key back value x.2.stored)) c.if-not-more.true

pub returns-clause-formed : goal.returns-clause-formed
returns-clause-formed g c b t front back key value e s link =
    let x = c.loop-left.invariant.folded b t front back key value e s link in
    let w = told-whole (g.P.Pages.told c.loop-left.pages) (g.P.Pages.size c.loop-left.pages) x.0 (g.met.P.Pages.sized c.loop-left.pages) (g.met.P.Pages.whole c.loop-left.pages) x.1 in
    let full : 7 ≤ c.loop-left.left + page_count (page_in x.0 c.args.first) = if_some (λ (d : List ℕ). 7 ≤ c.loop-left.left + page_count (page_in d c.args.first)) (g.P.Pages.told c.loop-left.pages) x.0 (c.loop-left.invariant.full b t front back key value e s link) x.1 in
    told-some (λ (d : List ℕ). IsFolded d c.args.first) (g.P.Pages.told c.loop-left.pages) x.0 x.1
    (folded-full x.0 c.args.first w (linked-numbers x.0 value (Chain c.args.first) link (stored-row c.args.kind x.0 t front key back value x.2.stored)) (none-left c.loop-left.left (page_count (page_in x.0 c.args.first)) full c.loop-left-test.false))

pub returns-then-not-more-clause-linked : goal.returns-then-not-more-clause-linked
returns-then-not-more-clause-linked g c b t front back key value e s link k =
    let x = c.loop-left.invariant.folded b t front back key value e s link in
    c.in-Ok.ensures.linked x.0 t front back key value x.1 x.2.stored link (if_some (λ (d : List ℕ). IsLinked d (Chain c.args.first)) (g.P.Pages.told c.loop-left.pages) x.0 (c.loop-left.invariant.linked b t front back key value e s link k) x.1)

pub returns-clause-linked : goal.returns-clause-linked
returns-clause-linked g c b t front back key value e s link k = c.loop-left.invariant.linked b t front back key value e s link k
