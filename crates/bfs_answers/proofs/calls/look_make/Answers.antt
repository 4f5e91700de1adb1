use Rattle.std.proofs.Common.{◌∙◌, [], refl, sym, subst}
use Rattle.std.specs.FinMap.{empty}
use Rattle.bfs_bitmap.specs.Runs.{Room}
use Rattle.bfs_super.specs.Geometry.{geometry_of}
use Rattle.bfs_tree.specs.declared.call.Call.TheVariants.{Make}
use Rattle.bfs_tree.specs.States.{State}
use Rattle.bfs_tree.specs.Steps.{ByTree}
use Rattle.bfs_look.specs.Ready.{IsReady, HasReady}
use Rattle.bfs_look.proofs.Known.{dir_is}
use Rattle.bfs_calls.proofs.Faulting.{undone_unanswered}
use Rattle.bfs_calls.proofs.Refusing.{may_be}
use Rattle.bfs_answers.proofs.Alike.{allowed_alike}
use Rattle.bfs_answers.proofs.calls.look_make.Goals as goal

pub returns-in-Err-clause-unanswered : goal.returns-in-Err-clause-unanswered
returns-in-Err-clause-unanswered g c m tree lists told ready =
    undone_unanswered c.in-Err.fault (c.in-Err.ensures.refused m tree lists (record { tree = tree; holds = []; known = empty }) 0 told ready refl)

pub returns-in-Some-clause-looked : goal.returns-in-Some-clause-looked
returns-in-Some-clause-looked g c m tree lists holds mode told ready = λ stamp s same held session.
    (s, same, ByTree.refused (sym (sym c.in-Some.is ∙ c.in-Ok.ensures.refused m tree lists s mode told ready same)) refl)

pub make_allowance-requires-clause-ready : goal.make_allowance-requires-clause-ready
make_allowance-requires-clause-ready g c m told =
    subst (λ (v : Room). HasReady (geometry_of c.args.sup.now) v m) (sym c.in-Ok.ensures.bitmap) (c.requires.ready m (sym c.in-Ok.ensures.told ∙ told))

pub returns-in-Ok-make_allowance-clause-looked : goal.returns-in-Ok-make_allowance-clause-looked
returns-in-Ok-make_allowance-clause-looked g c m tree lists holds mode told ready =
    let st : State = record { tree = tree; holds = []; known = empty } in
    let ready_here = subst (λ (v : Room). IsReady (geometry_of c.args.sup.now) v m tree lists) (sym c.in-Ok.ensures.bitmap) ready in
    let told_here = c.in-Ok.ensures.told ∙ told in
    let here = may_be st c.args.dir c.args.name.now c.args.kind.now mode (sym (sym c.in-None.is ∙ c.in-Ok.ensures.refused m tree lists st mode told ready refl)) in
    allowed_alike (geometry_of c.args.sup.now) m tree holds (Make c.args.dir c.args.name.now c.args.kind.now mode) c.in-Ok-make_allowance.allowed refl
    (λ s same held. sym (sym c.in-None.is ∙ c.in-Ok.ensures.refused m tree lists s mode told ready same)) refl
    (c.in-Ok-make_allowance.ensures.allowed m tree lists c.args.dir c.args.name.now mode told_here ready_here)
    (c.in-Ok-make_allowance.ensures.within m tree lists c.args.dir here.0 c.args.name.now mode told_here ready_here here.1 (dir_is here.0.kind here.2))

pub returns-in-Err-make_allowance-clause-unanswered : goal.returns-in-Err-make_allowance-clause-unanswered
returns-in-Err-make_allowance-clause-unanswered g c m tree lists told ready =
    undone_unanswered c.in-Err-make_allowance.fault
    (c.in-Err-make_allowance.ensures.allowed m tree lists c.args.dir c.args.name.now 0 (c.in-Ok.ensures.told ∙ told) (subst (λ (v : Room). IsReady (geometry_of c.args.sup.now) v m tree lists) (sym c.in-Ok.ensures.bitmap) ready))
