use Rattle.std.proofs.Common.{◌+◌, ℕ, sym, subst, ◌∙◌, arith}
use Rattle.std.proofs.lemmas.Bool.{true≢false}
use Rattle.bfs_smalldata.specs.Walk.{Passes}
use Rattle.bfs_smalldata.proofs.Listing.{ends_or}
use Rattle.bfs_smalldata.proofs.Walking.{passes_start, passes_next, passes_more, next_inside, stops_here, stops_end}
use Rattle.bfs_smalldata.proofs.walk.seek.Goals as goal

pub loop-at-init : goal.loop-at-init
loop-at-init c = record { inside = omega arith; passes = passes_start c.args.area.now c.args.name.now c.requires }

pub is_named-requires-clause-inside : goal.is_named-requires-clause-inside
is_named-requires-clause-inside c =
    next_inside _ _ _ (passes_next c.args.area.now c.args.name.now c.loop-at.at c.loop-at.invariant.passes (c.goes_on.ensures.0 c.loop-at-test.true))

pub returns-then-is_named-clause-stops : goal.returns-then-is_named-clause-stops
returns-then-is_named-clause-stops c =
    stops_here c.args.area.now c.args.name.now c.loop-at.at
    (passes_next c.args.area.now c.args.name.now c.loop-at.at c.loop-at.invariant.passes (c.goes_on.ensures.0 c.loop-at-test.true))
    (sym c.is_named.ensures ∙ c.if-is_named.true)

pub overflow_add-at : goal.overflow_add-at
overflow_add-at c =
    let inside = next_inside _ _ _ (passes_next c.args.area.now c.args.name.now c.loop-at.at c.loop-at.invariant.passes (c.goes_on.ensures.0 c.loop-at-test.true)) in
    omega (arith, inside, c.size_at-at.ensures)

pub loop-at-preserved : goal.loop-at-preserved
loop-at-preserved c =
    let next = passes_next c.args.area.now c.args.name.now c.loop-at.at c.loop-at.invariant.passes (c.goes_on.ensures.0 c.loop-at-test.true) in
    record {
      inside = omega (arith, next_inside _ _ _ next, c.size_at-at.ensures);
      passes = subst (λ (k : ℕ). Passes c.args.area.now c.args.name.now (c.loop-at.at + k)) (sym c.size_at-at.ensures)
          (passes_more c.args.area.now c.args.name.now c.loop-at.at next (sym c.is_named.ensures ∙ c.if-is_named.false));
    }

pub returns-clause-stops : goal.returns-clause-stops
returns-clause-stops c =
    stops_end c.args.area.now c.args.name.now c.loop-at.at c.loop-at.invariant.passes
    (ends_or _ (λ more. true≢false (sym (c.goes_on.ensures.1 more) ∙ c.loop-at-test.false)))
