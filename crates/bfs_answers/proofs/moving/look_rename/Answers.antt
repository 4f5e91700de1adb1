use Rattle.std.proofs.Common.{◌∙◌, refl, sym, subst}
use Rattle.std.specs.FinMap.{empty}
use Rattle.bfs_bitmap.specs.Runs.{Room}
use Rattle.bfs_super.specs.Geometry.{geometry_of}
use Rattle.bfs_shift.specs.Shifts.{volume_in}
use Rattle.bfs_tree.specs.declared.call.Call.TheVariants.{Rename}
use Rattle.bfs_tree.specs.States.{State}
use Rattle.bfs_tree.specs.Steps.{ByTree}
use Rattle.bfs_tree.specs.Trees.{child}
use Rattle.bfs_look.specs.Ready.{IsReady, HasReady}
use Rattle.bfs_calls.proofs.Faulting.{undone_unanswered}
use Rattle.bfs_rename.proofs.Renaming.{may_be}
use Rattle.bfs_answers.proofs.Alike.{allowed_alike, renaming_gains}
use Rattle.bfs_answers.proofs.moving.look_rename.Goals as goal

pub returns-in-Err-clause-unanswered : goal.returns-in-Err-clause-unanswered
returns-in-Err-clause-unanswered g c m tree lists told ready =
    undone_unanswered c.in-Err.fault (c.in-Err.ensures.refused m tree lists (record { tree = tree; holds = c.args.holds.now; known = empty }) told ready refl refl)

pub returns-in-Some-clause-looked : goal.returns-in-Some-clause-looked
returns-in-Some-clause-looked g c m tree lists told ready = λ stamp s same held session.
    (s, same, ByTree.refused (sym (sym c.in-Some.is ∙ c.in-Ok.ensures.refused m tree lists s told ready same held)) refl)

pub rename_allowance-requires-clause-ready : goal.rename_allowance-requires-clause-ready
rename_allowance-requires-clause-ready g c m told =
    subst (λ (v : Room). HasReady (geometry_of c.args.sup.now) v m) (sym c.in-Ok.ensures.bitmap) (c.requires.ready m (sym c.in-Ok.ensures.told ∙ told))

pub returns-in-Ok-rename_allowance-clause-looked : goal.returns-in-Ok-rename_allowance-clause-looked
returns-in-Ok-rename_allowance-clause-looked g c m tree lists told ready =
    let ready_here = subst (λ (v : Room). IsReady (geometry_of c.args.sup.now) v m tree lists) (sym c.in-Ok.ensures.bitmap) ready in
    let told_here = c.in-Ok.ensures.told ∙ told in
    allowed_alike (geometry_of c.args.sup.now) m tree c.args.holds.now (Rename c.args.dir c.args.name.now c.args.to_dir c.args.to_name.now) c.in-Ok-rename_allowance.allowed refl
    (λ s same held. sym (sym c.in-None.is ∙ c.in-Ok.ensures.refused m tree lists s told ready same held))
    (renaming_gains (volume_in (geometry_of c.args.sup.now) m) tree c.args.dir c.args.to_dir c.args.to_name.now (child tree c.args.dir c.args.name.now))
    (c.in-Ok-rename_allowance.ensures.allowed m tree lists told_here ready_here) (c.in-Ok-rename_allowance.ensures.within m tree lists told_here ready_here)

pub returns-in-Err-rename_allowance-clause-unanswered : goal.returns-in-Err-rename_allowance-clause-unanswered
returns-in-Err-rename_allowance-clause-unanswered g c m tree lists told ready =
    undone_unanswered c.in-Err-rename_allowance.fault
    (c.in-Err-rename_allowance.ensures.allowed m tree lists (c.in-Ok.ensures.told ∙ told) (subst (λ (v : Room). IsReady (geometry_of c.args.sup.now) v m tree lists) (sym c.in-Ok.ensures.bitmap) ready))

pub rename_allowance-requires-clause-may : goal.rename_allowance-requires-clause-may
rename_allowance-requires-clause-may g c m tree lists told ready =
    let st : State = record { tree = tree; holds = c.args.holds.now; known = empty } in
    let ready_here = subst (λ (v : Room). IsReady (geometry_of c.args.sup.now) v m tree lists) c.in-Ok.ensures.bitmap ready in
    may_be st c.args.dir c.args.name.now c.args.to_dir c.args.to_name.now (sym (sym c.in-None.is ∙ c.in-Ok.ensures.refused m tree lists st (sym c.in-Ok.ensures.told ∙ told) ready_here refl refl))
