use Rattle.std.proofs.Common.{◌∙◌, ℕ, Option, subst}
use Rattle.bfs_values.specs.Rows.{rows_in}
use Rattle.bfs_maps.specs.NumberTrees.{IsNumberAt}
use Rattle.bfs_maps.proofs.Changed.{remove_result, take_refusal}
use Rattle.bfs_maps.proofs.Looked.{of_pages_untaken}
use Rattle.bfs_maps.proofs.over_pages.take_in.Goals as goal

pub returns-in-Ok-clause-taken : goal.returns-in-Ok-clause-taken
returns-in-Ok-clause-taken g c b told d =
    let there = subst (λ (o : Option ℕ). IsNumberAt c.args.kind (rows_in c.args.kind b) c.args.key.now o) c.in-Ok-Some.field-0-is (c.in-Ok-Some.ensures.found b told d) in
    let x = c.in-Ok.ensures.removed b d.tree.reached d.tree.shape d.tree.free (c.in-Ok-Some.ensures.told ∙ told) d.tree.tree in
    remove_result c.args.kind b c.args.key.now _ d (g.P.Pages.told c.remove.new.pages) (g.P.Pages.size c.remove.new.pages) (g.met.P.Pages.sized c.remove.new.pages) (g.met.P.Pages.whole c.remove.new.pages) there x.0 x.1 x.2 x.3

pub returns-in-Err-remove-clause-taken : goal.returns-in-Err-remove-clause-taken
returns-in-Err-remove-clause-taken g c b told d =
    take_refusal c.args.kind b c.args.key.now d c.in-Err-remove.fault (c.in-Err-remove.ensures.removed b d.tree.reached d.tree.shape d.tree.free (c.in-Ok-Some.ensures.told ∙ told) d.tree.tree)

pub returns-in-Ok-None-clause-taken : goal.returns-in-Ok-None-clause-taken
returns-in-Ok-None-clause-taken g c b told d =
    subst (λ (o : Option ℕ). IsNumberAt c.args.kind (rows_in c.args.kind b) c.args.key.now o) c.in-Ok-None.field-0-is (c.in-Ok-None.ensures.found b told d)

pub returns-in-Err-clause-taken : goal.returns-in-Err-clause-taken
returns-in-Err-clause-taken g c b told d = of_pages_untaken c.args.kind (rows_in c.args.kind b) c.args.key.now c.in-Err.fault (c.in-Err.ensures.found b told d)

pub returns-in-Ok-clause-number : goal.returns-in-Ok-clause-number
returns-in-Ok-clause-number g c b told d =
    subst (λ (o : Option ℕ). IsNumberAt c.args.kind (rows_in c.args.kind b) c.args.key.now o) c.in-Ok-Some.field-0-is (c.in-Ok-Some.ensures.found b told d)
