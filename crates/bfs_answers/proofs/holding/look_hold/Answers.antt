use Rattle.std.proofs.Common.{◌∙◌, refl, sym, subst}
use Rattle.std.specs.FinMap.{empty}
use Rattle.bfs_bitmap.specs.Runs.{Room}
use Rattle.bfs_super.specs.Geometry.{geometry_of}
use Rattle.bfs_tree.specs.Steps.{ByTree}
use Rattle.bfs_look.specs.Ready.{IsReady, HasReady}
use Rattle.bfs_calls.proofs.Faulting.{undone_unanswered}
use Rattle.bfs_answers.proofs.Grants.{reads_held, hold_allowed}
use Rattle.bfs_answers.proofs.holding.look_hold.Goals as goal

pub returns-in-Err-clause-unanswered : goal.returns-in-Err-clause-unanswered
returns-in-Err-clause-unanswered g c m tree lists told ready =
    undone_unanswered c.in-Err.fault (c.in-Err.ensures.refused m tree lists (record { tree = tree; holds = c.args.holds.now; known = empty }) told ready refl refl)

pub returns-in-Some-clause-looked : goal.returns-in-Some-clause-looked
returns-in-Some-clause-looked g c m tree lists told ready = λ stamp s same held session.
    (s, same, ByTree.refused (sym (sym c.in-Some.is ∙ c.in-Ok.ensures.refused m tree lists s told ready same held)) refl)

pub returns-then-not-write-clause-looked : goal.returns-then-not-write-clause-looked
returns-then-not-write-clause-looked g c m tree lists told ready =
    reads_held tree c.args.holds.now c.args.id c.args.at c.args.length c.args.write c.if-not-write.true
    (λ s same held. sym (sym c.in-None.is ∙ c.in-Ok.ensures.refused m tree lists s told ready same held))

pub hold_allowance-requires-clause-ready : goal.hold_allowance-requires-clause-ready
hold_allowance-requires-clause-ready g c m told =
    subst (λ (v : Room). HasReady (geometry_of c.args.sup.now) v m) (sym c.in-Ok.ensures.bitmap) (c.requires.ready m (sym c.in-Ok.ensures.told ∙ told))

pub returns-in-Ok-hold_allowance-clause-looked : goal.returns-in-Ok-hold_allowance-clause-looked
returns-in-Ok-hold_allowance-clause-looked g c m tree lists told ready =
    let ready_here = subst (λ (v : Room). IsReady (geometry_of c.args.sup.now) v m tree lists) (sym c.in-Ok.ensures.bitmap) ready in
    let told_here = c.in-Ok.ensures.told ∙ told in
    hold_allowed tree c.args.holds.now c.args.id c.args.at c.args.length (geometry_of c.args.sup.now) m c.in-Ok-hold_allowance.allowed c.args.write c.if-not-write.false
    (λ s same held. sym (sym c.in-None.is ∙ c.in-Ok.ensures.refused m tree lists s told ready same held))
    (c.in-Ok-hold_allowance.ensures.allowed m tree lists c.args.id c.args.at c.args.length told_here ready_here)
    (c.in-Ok-hold_allowance.ensures.within m tree lists c.args.id c.args.at c.args.length told_here ready_here).0

pub returns-in-Err-hold_allowance-clause-unanswered : goal.returns-in-Err-hold_allowance-clause-unanswered
returns-in-Err-hold_allowance-clause-unanswered g c m tree lists told ready =
    undone_unanswered c.in-Err-hold_allowance.fault
    (c.in-Err-hold_allowance.ensures.allowed m tree lists c.args.id c.args.at c.args.length (c.in-Ok.ensures.told ∙ told) (subst (λ (v : Room). IsReady (geometry_of c.args.sup.now) v m tree lists) (sym c.in-Ok.ensures.bitmap) ready))
