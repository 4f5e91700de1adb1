use Rattle.std.proofs.Common.{◌<◌, ◌∙◌, sym, ap, subst, Option}
use Rattle.std.specs.Prelude.{IfSome}
use Rattle.std.specs.FinMap.{get}
use Rattle.bfs_super.specs.Conditions.{natural}
use Rattle.bfs_tree.specs.Trees.{IsNode}
use Rattle.bfs_tree.specs.declared.call.Kind.{Kind}
use Rattle.bfs_look.specs.Ready.{IsKindOf}
use Rattle.bfs_calls.proofs.Status.{none_there, one_there}
use Rattle.bfs_calls.proofs.setting.set_mode_refusal.Goals as goal

pub returns-in-Err-clause-refused : goal.returns-in-Err-clause-refused
returns-in-Err-clause-refused g c m tree lists s mode uid gid told ready same = c.in-Err.ensures.found m tree lists told ready

pub returns-in-None-clause-refused : goal.returns-in-None-clause-refused
returns-in-None-clause-refused g c m tree lists s mode uid gid told ready same =
    let none = subst (IsKindOf tree c.args.id) c.in-None.is (c.in-Ok.ensures.found m tree lists told ready) in
    sym (none_there s c.args.id mode uid gid (ap (λ t. get t.nodes c.args.id) same ∙ none))

pub returns-in-Some-clause-refused : goal.returns-in-Some-clause-refused
returns-in-Some-clause-refused g c m tree lists s mode uid gid told ready same =
    let n = subst (IsKindOf tree c.args.id) c.in-Some.is (c.in-Ok.ensures.found m tree lists told ready) in
    sym (one_there s c.args.id mode uid gid n.0 (subst (λ t. IsNode t c.args.id n.0) (sym same) n.1))

pub returns-in-Some-clause-inside : goal.returns-in-Some-clause-inside
returns-in-Some-clause-inside g c none = subst (λ (o : Option Kind). IfSome o (λ kind. c.args.id < natural c.args.sup.now.num_blocks)) c.in-Some.is c.in-Ok.ensures.inside
