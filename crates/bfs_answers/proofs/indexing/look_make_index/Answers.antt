use Rattle.std.proofs.Common.{◌∙◌, [], refl, sym, subst}
use Rattle.std.specs.FinMap.{empty}
use Rattle.bfs_bitmap.specs.Runs.{Room}
use Rattle.bfs_super.specs.Geometry.{geometry_of}
use Rattle.bfs_tree.specs.declared.call.Call.TheVariants.{IndexMake}
use Rattle.bfs_tree.specs.States.{State}
use Rattle.bfs_tree.specs.Steps.{ByTree}
use Rattle.bfs_look.specs.Ready.{IsReady, HasReady}
use Rattle.bfs_calls.proofs.Faulting.{undone_unanswered}
use Rattle.bfs_index_make.proofs.Refusing.{new_index}
use Rattle.bfs_answers.proofs.Alike.{allowed_alike}
use Rattle.bfs_answers.proofs.indexing.look_make_index.Goals as goal

pub returns-in-Err-clause-unanswered : goal.returns-in-Err-clause-unanswered
returns-in-Err-clause-unanswered g c m tree lists told ready =
    undone_unanswered c.in-Err.fault (c.in-Err.ensures.refused m tree lists (record { tree = tree; holds = []; known = empty }) told ready refl)

pub returns-in-Some-clause-looked : goal.returns-in-Some-clause-looked
returns-in-Some-clause-looked g c m tree lists holds told ready = λ stamp s same held session.
    (s, same, ByTree.refused (sym (sym c.in-Some.is ∙ c.in-Ok.ensures.refused m tree lists s told ready same)) refl)

pub index_make_allowance-requires-clause-ready : goal.index_make_allowance-requires-clause-ready
index_make_allowance-requires-clause-ready g c m told =
    subst (λ (v : Room). HasReady (geometry_of c.args.sup.now) v m) (sym c.in-Ok.ensures.bitmap) (c.requires.ready m (sym c.in-Ok.ensures.told ∙ told))

pub index_make_allowance-requires-clause-fresh : goal.index_make_allowance-requires-clause-fresh
index_make_allowance-requires-clause-fresh g c m tree lists told ready =
    let st : State = record { tree = tree; holds = []; known = empty } in
    let ready_here = subst (λ (v : Room). IsReady (geometry_of c.args.sup.now) v m tree lists) c.in-Ok.ensures.bitmap ready in
    new_index st c.args.name.now c.args.kind ready.plain.indices (sym (sym c.in-None.is ∙ c.in-Ok.ensures.refused m tree lists st (sym c.in-Ok.ensures.told ∙ told) ready_here refl))

pub returns-in-Ok-index_make_allowance-clause-looked : goal.returns-in-Ok-index_make_allowance-clause-looked
returns-in-Ok-index_make_allowance-clause-looked g c m tree lists holds told ready =
    let ready_here = subst (λ (v : Room). IsReady (geometry_of c.args.sup.now) v m tree lists) (sym c.in-Ok.ensures.bitmap) ready in
    let told_here = c.in-Ok.ensures.told ∙ told in
    allowed_alike (geometry_of c.args.sup.now) m tree holds (IndexMake c.args.name.now c.args.kind) c.in-Ok-index_make_allowance.allowed refl
    (λ s same held. sym (sym c.in-None.is ∙ c.in-Ok.ensures.refused m tree lists s told ready same)) refl
    (c.in-Ok-index_make_allowance.ensures.allowed m tree lists told_here ready_here) (c.in-Ok-index_make_allowance.ensures.within m tree lists told_here ready_here)

pub returns-in-Err-index_make_allowance-clause-unanswered : goal.returns-in-Err-index_make_allowance-clause-unanswered
returns-in-Err-index_make_allowance-clause-unanswered g c m tree lists told ready =
    undone_unanswered c.in-Err-index_make_allowance.fault
    (c.in-Err-index_make_allowance.ensures.allowed m tree lists (c.in-Ok.ensures.told ∙ told) (subst (λ (v : Room). IsReady (geometry_of c.args.sup.now) v m tree lists) (sym c.in-Ok.ensures.bitmap) ready))
