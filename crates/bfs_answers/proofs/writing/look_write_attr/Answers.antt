use Rattle.std.proofs.Common.{◌∙◌, [], refl, sym, subst}
use Rattle.std.specs.FinMap.{empty}
use Rattle.bfs_bitmap.specs.Runs.{Room}
use Rattle.bfs_super.specs.Geometry.{geometry_of}
use Rattle.bfs_tree.specs.declared.call.Call.TheVariants.{AttrWrite}
use Rattle.bfs_tree.specs.States.{State}
use Rattle.bfs_tree.specs.Steps.{ByTree}
use Rattle.bfs_look.specs.Ready.{IsReady, HasReady}
use Rattle.bfs_calls.proofs.Faulting.{undone_unanswered}
use Rattle.bfs_answers.proofs.Alike.{allowed_alike}
use Rattle.bfs_answers.proofs.Put.{own_written}
use Rattle.bfs_answers.proofs.writing.look_write_attr.Goals as goal

pub returns-in-Err-clause-unanswered : goal.returns-in-Err-clause-unanswered
returns-in-Err-clause-unanswered g c m tree lists told ready =
    undone_unanswered c.in-Err.fault (c.in-Err.ensures.refused m tree lists (record { tree = tree; holds = []; known = empty }) 0 told ready refl)

pub returns-in-Some-clause-looked : goal.returns-in-Some-clause-looked
returns-in-Some-clause-looked g c m tree lists holds kind told ready = λ stamp s same held session.
    (s, same, ByTree.refused (sym (sym c.in-Some.is ∙ c.in-Ok.ensures.refused m tree lists s kind told ready same)) refl)

pub write_attr_allowance-requires-clause-ready : goal.write_attr_allowance-requires-clause-ready
write_attr_allowance-requires-clause-ready g c m told =
    subst (λ (v : Room). HasReady (geometry_of c.args.sup.now) v m) (sym c.in-Ok.ensures.bitmap) (c.requires.ready m (sym c.in-Ok.ensures.told ∙ told))

pub returns-in-Ok-write_attr_allowance-clause-looked : goal.returns-in-Ok-write_attr_allowance-clause-looked
returns-in-Ok-write_attr_allowance-clause-looked g c m tree lists holds kind told ready =
    let ready_here = subst (λ (v : Room). IsReady (geometry_of c.args.sup.now) v m tree lists) (sym c.in-Ok.ensures.bitmap) ready in
    let told_here = c.in-Ok.ensures.told ∙ told in
    allowed_alike (geometry_of c.args.sup.now) m tree holds (AttrWrite c.args.id c.args.name.now kind c.args.bytes.now) c.in-Ok-write_attr_allowance.allowed refl
    (λ s same held. sym (sym c.in-None.is ∙ c.in-Ok.ensures.refused m tree lists s kind told ready same)) refl
    (c.in-Ok-write_attr_allowance.ensures.allowed m tree lists kind told_here ready_here) (c.in-Ok-write_attr_allowance.ensures.within m tree lists kind told_here ready_here)

pub returns-in-Err-write_attr_allowance-clause-unanswered : goal.returns-in-Err-write_attr_allowance-clause-unanswered
returns-in-Err-write_attr_allowance-clause-unanswered g c m tree lists told ready =
    undone_unanswered c.in-Err-write_attr_allowance.fault
    (c.in-Err-write_attr_allowance.ensures.allowed m tree lists 0 (c.in-Ok.ensures.told ∙ told) (subst (λ (v : Room). IsReady (geometry_of c.args.sup.now) v m tree lists) (sym c.in-Ok.ensures.bitmap) ready))

pub write_attr_allowance-requires-clause-there : goal.write_attr_allowance-requires-clause-there
write_attr_allowance-requires-clause-there g c m tree lists told ready =
    let st : State = record { tree = tree; holds = []; known = empty } in
    let ready_here = subst (λ (v : Room). IsReady (geometry_of c.args.sup.now) v m tree lists) c.in-Ok.ensures.bitmap ready in
    own_written st c.args.id c.args.name.now 0 c.args.bytes.now (sym (sym c.in-None.is ∙ c.in-Ok.ensures.refused m tree lists st 0 (sym c.in-Ok.ensures.told ∙ told) ready_here refl))
