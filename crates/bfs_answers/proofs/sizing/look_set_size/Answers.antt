use Rattle.std.proofs.Common.{◌≡◌, ◌∙◌, None, refl, sym, subst}
use Rattle.std.specs.FinMap.{empty}
use Rattle.bfs_bitmap.specs.Runs.{Room}
use Rattle.bfs_super.specs.Geometry.{geometry_of}
use Rattle.bfs_tree.specs.declared.call.Call.TheVariants.{SetSize}
use Rattle.bfs_tree.specs.Refusals.{own_refusal}
use Rattle.bfs_tree.specs.States.{State}
use Rattle.bfs_tree.specs.Steps.{ByTree}
use Rattle.bfs_look.specs.Ready.{IsReady, HasReady}
use Rattle.bfs_calls.proofs.Faulting.{undone_unanswered}
use Rattle.bfs_hold.proofs.SetSizeRefusing.{may_be}
use Rattle.bfs_answers.proofs.sizing.look_set_size.Goals as goal

pub returns-in-Err-clause-unanswered : goal.returns-in-Err-clause-unanswered
returns-in-Err-clause-unanswered g c m tree lists told ready =
    undone_unanswered c.in-Err.fault (c.in-Err.ensures.refused m tree lists (record { tree = tree; holds = c.args.holds.now; known = empty }) told ready refl refl)

pub returns-in-Some-clause-looked : goal.returns-in-Some-clause-looked
returns-in-Some-clause-looked g c m tree lists told ready = λ stamp s same held session.
    (s, same, ByTree.refused (sym (sym c.in-Some.is ∙ c.in-Ok.ensures.refused m tree lists s told ready same held)) refl)

pub set_size_allowance-requires-clause-ready : goal.set_size_allowance-requires-clause-ready
set_size_allowance-requires-clause-ready g c m told =
    subst (λ (v : Room). HasReady (geometry_of c.args.sup.now) v m) (sym c.in-Ok.ensures.bitmap) (c.requires.ready m (sym c.in-Ok.ensures.told ∙ told))

pub set_size_allowance-requires-clause-few : goal.set_size_allowance-requires-clause-few
set_size_allowance-requires-clause-few g c = (c.in-Ok.ensures.may c.in-None.is).few

pub returns-in-Ok-set_size_allowance-clause-looked : goal.returns-in-Ok-set_size_allowance-clause-looked
returns-in-Ok-set_size_allowance-clause-looked g c m tree lists told ready =
    let ready_here = subst (λ (v : Room). IsReady (geometry_of c.args.sup.now) v m tree lists) (sym c.in-Ok.ensures.bitmap) ready in
    let told_here = c.in-Ok.ensures.told ∙ told in
    let fine : (s : State) → s.tree ≡ tree → s.holds ≡ c.args.holds.now → own_refusal (SetSize c.args.id c.args.size) s ≡ None = λ s same held. sym (sym c.in-None.is ∙ c.in-Ok.ensures.refused m tree lists s told ready same held) in
    let file = may_be tree c.args.holds.now c.args.id c.args.size fine in
    let counted = c.in-Ok-set_size_allowance.ensures.allowed m tree lists file.0 told_here ready_here file.1 file.2 in
    let within = c.in-Ok-set_size_allowance.ensures.within m tree lists file.0 told_here ready_here file.1 file.2 in record {
      changes = refl;
      fine = fine;
      logged_is = counted.logged;
      taken_is = counted.taken;
      logged = within.logged;
      taken = within.taken;
    }

pub returns-in-Err-set_size_allowance-clause-unanswered : goal.returns-in-Err-set_size_allowance-clause-unanswered
returns-in-Err-set_size_allowance-clause-unanswered g c m tree lists told ready =
    let fine : (s : State) → s.tree ≡ tree → s.holds ≡ c.args.holds.now → own_refusal (SetSize c.args.id c.args.size) s ≡ None = λ s same held. sym (sym c.in-None.is ∙ c.in-Ok.ensures.refused m tree lists s told ready same held) in
    let file = may_be tree c.args.holds.now c.args.id c.args.size fine in
    undone_unanswered c.in-Err-set_size_allowance.fault
    (c.in-Err-set_size_allowance.ensures.allowed m tree lists file.0 (c.in-Ok.ensures.told ∙ told) (subst (λ (v : Room). IsReady (geometry_of c.args.sup.now) v m tree lists) (sym c.in-Ok.ensures.bitmap) ready) file.1 file.2)
