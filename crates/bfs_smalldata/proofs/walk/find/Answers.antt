use Rattle.std.proofs.Common.{◌∙◌, Option, Some, None, refl, sym, subst}
use Rattle.std.proofs.lemmas.Bool.{true≢false}
use Rattle.bfs_smalldata.specs.Items.{Item}
use Rattle.bfs_smalldata.specs.Edits.{Finds}
use Rattle.bfs_smalldata.proofs.Walking.{here_inside, found_here, found_none}
use Rattle.bfs_smalldata.proofs.walk.find.Goals as goal

pub item_at-requires-clause-inside : goal.item_at-requires-clause-inside
item_at-requires-clause-inside c = here_inside c.args.area.now c.args.name.now c.seek-at.result c.seek-at.ensures.stops (c.goes_on.ensures.0 c.if-goes_on.true)

pub returns-then-goes_on : goal.returns-then-goes_on
returns-then-goes_on c =
    subst (λ (o : Option Item). Finds c.args.area.now o (Some c.item_at.result))
    (sym (found_here c.args.area.now c.args.name.now c.seek-at.result c.seek-at.ensures.stops (c.goes_on.ensures.0 c.if-goes_on.true))) c.item_at.ensures

pub returns-else-goes_on : goal.returns-else-goes_on
returns-else-goes_on c =
    subst (λ (o : Option Item). Finds c.args.area.now o None)
    (sym (found_none c.args.area.now c.args.name.now c.seek-at.result c.seek-at.ensures.stops (λ more. true≢false (sym (c.goes_on.ensures.1 more) ∙ c.if-goes_on.false)))) refl
