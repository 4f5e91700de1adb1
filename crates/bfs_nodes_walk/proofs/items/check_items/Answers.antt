use Rattle.std.proofs.Common.{◌+◌, ◌∙◌, ℕ, List, refl, sym, subst, arith, Option}
use Rattle.std.proofs.lemmas.Bool.{true≢false}
use Rattle.std.specs.Prelude.{IsSome}
use Rattle.bfs_smalldata.specs.Items.{Item}
use Rattle.bfs_smalldata.specs.Edits.{named}
use Rattle.bfs_nodes_walk.proofs.Repeats.{Apart, apart_start, item_here, rest_items, apart_more, twice_here, apart_end}
use Rattle.bfs_nodes_walk.proofs.items.check_items.Goals as goal

pub loop-alloc-init : goal.loop-alloc-init
loop-alloc-init c = record { inside = omega arith; apart = apart_start c.args.area.now c.requires }

pub is_again-again-requires-clause-rest : goal.is_again-again-requires-clause-rest
is_again-again-requires-clause-rest c =
    let area = c.args.area.now in
    let at = c.loop-alloc.at in
    let p = c.loop-alloc.invariant.apart in
    let r = item_here area at p (c.goes_on.ensures.0 c.loop-alloc-test.true) in
    subst (λ (o : Option (List Item)). IsSome o) (sym (rest_items area at p r)) refl

pub is_again-again-requires-clause-inside : goal.is_again-again-requires-clause-inside
is_again-again-requires-clause-inside c = (item_here c.args.area.now c.loop-alloc.at c.loop-alloc.invariant.apart (c.goes_on.ensures.0 c.loop-alloc-test.true)).inside

pub name_at-requires-clause-inside : goal.name_at-requires-clause-inside
name_at-requires-clause-inside c = (item_here c.args.area.now c.loop-alloc.at c.loop-alloc.invariant.apart (c.goes_on.ensures.0 c.loop-alloc-test.true)).inside

pub returns-then-again-clause-wrong : goal.returns-then-again-clause-wrong
returns-then-again-clause-wrong c v same reached =
    let area = c.args.area.now in
    let at = c.loop-alloc.at in
    let p = c.loop-alloc.invariant.apart in
    let r = item_here area at p (c.goes_on.ensures.0 c.loop-alloc-test.true) in
    let again = (c.is_again-again.ensures r.rest (rest_items area at p r)).0 c.if-again.true in
    c.repeated.ensures v (twice_here area at p r v c.args.id c.name_at.result.now same reached c.name_at.ensures (subst (λ (i : Item). IsSome (named i.name r.rest)) (sym r.begins.same) again))

pub overflow_add-at : goal.overflow_add-at
overflow_add-at c =
    let inside = (item_here c.args.area.now c.loop-alloc.at c.loop-alloc.invariant.apart (c.goes_on.ensures.0 c.loop-alloc-test.true)).inside in
    omega (arith, inside, c.size_at-size.ensures)

pub loop-alloc-preserved : goal.loop-alloc-preserved
loop-alloc-preserved c =
    let area = c.args.area.now in
    let at = c.loop-alloc.at in
    let p = c.loop-alloc.invariant.apart in
    let r = item_here area at p (c.goes_on.ensures.0 c.loop-alloc-test.true) in
    let none = λ (s : IsSome (named r.item.name r.rest)). true≢false (sym ((c.is_again-again.ensures r.rest (rest_items area at p r)).1 (subst (λ (i : Item). IsSome (named i.name r.rest)) r.begins.same s)) ∙ c.if-again.false) in
    record {
      inside = (let inside = r.inside in omega (arith, inside, c.size_at-size.ensures));
      apart = subst (λ (k : ℕ). Apart area (at + k)) (sym c.size_at-size.ensures) (apart_more area at p r none);
    }

pub returns-clause-distinct : goal.returns-clause-distinct
returns-clause-distinct c =
    apart_end c.args.area.now c.loop-alloc.at c.loop-alloc.invariant.apart (λ more. true≢false (sym (c.goes_on.ensures.1 more) ∙ c.loop-alloc-test.false))
