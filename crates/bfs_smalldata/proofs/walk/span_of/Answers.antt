use Rattle.std.proofs.Common.{◌≡◌, ◌+◌, ◌∙◌, ℕ, List, Option, refl, sym, subst, ap, arith}
use Rattle.std.specs.Prelude.{IfSome}
use Rattle.std.proofs.lemmas.Bool.{true≢false}
use Rattle.bfs_smalldata.specs.Items.{Item, sizes_of}
use Rattle.bfs_smalldata.proofs.Walking.{here_inside, spans_from}
use Rattle.bfs_smalldata.proofs.walk.span_of.Goals as goal

pub overflow_add-next : goal.overflow_add-next
overflow_add-next c =
    let inside = here_inside c.args.area.now c.args.name.now c.seek-at.result c.seek-at.ensures.stops (c.goes_on.ensures.0 c.if-goes_on.true) in
    omega (arith, inside, c.size_at.ensures)

pub returns-then-goes_on : goal.returns-then-goes_on
returns-then-goes_on c =
    spans_from c.args.area.now c.args.name.now c.seek-at.result (c.seek-at.result + c.size_at.result) c.end_of-end.result
    (λ items is. subst (λ (o : Option (List Item)). IfSome o (λ xs. c.end_of-end.result ≡ sizes_of xs)) is c.end_of-end.ensures)
    (λ more. ap (λ (k : ℕ). c.seek-at.result + k) c.size_at.ensures)
    (λ over. absurd (over (c.goes_on.ensures.0 c.if-goes_on.true)))
    c.seek-at.ensures.stops

pub returns-else-goes_on : goal.returns-else-goes_on
returns-else-goes_on c =
    spans_from c.args.area.now c.args.name.now c.seek-at.result c.seek-at.result c.end_of-end.result
    (λ items is. subst (λ (o : Option (List Item)). IfSome o (λ xs. c.end_of-end.result ≡ sizes_of xs)) is c.end_of-end.ensures)
    (λ more. absurd (true≢false (sym (c.goes_on.ensures.1 more) ∙ c.if-goes_on.false)))
    (λ over. refl)
    c.seek-at.ensures.stops
