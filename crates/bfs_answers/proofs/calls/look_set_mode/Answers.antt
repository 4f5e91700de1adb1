use Rattle.std.proofs.Common.{◌≡◌, ◌∙◌, pos, [], refl, sym, subst, arith}
use Rattle.std.specs.FinMap.{empty}
use Rattle.std.proofs.lemmas.Result.{IfOk-weaker}
use Rattle.bfs_super.specs.Geometry.{geometry_of}
use Rattle.bfs_tree.specs.declared.call.Call.TheVariants.{SetMode}
use Rattle.bfs_tree.specs.Steps.{ByTree}
use Rattle.bfs_calls.proofs.Faulting.{undone_unanswered}
use Rattle.bfs_answers.specs.declared.answers.Looked.TheVariants.{Answered}
use Rattle.bfs_answers.specs.Looks.{IsLooked}
use Rattle.bfs_answers.proofs.calls.look_set_mode.Goals as goal

pub returns-in-Err-clause-unanswered : goal.returns-in-Err-clause-unanswered
returns-in-Err-clause-unanswered g c m tree lists told ready =
    undone_unanswered c.in-Err.fault (c.in-Err.ensures.refused m tree lists (record { tree = tree; holds = []; known = empty }) 0 (pos 0) (pos 0) told ready refl)

pub returns-in-Some-clause-looked : goal.returns-in-Some-clause-looked
returns-in-Some-clause-looked g c m tree lists holds mode uid gid told ready =
    IfOk-weaker c.found.result (λ l. l ≡ Answered c.in-Some.reply) (IsLooked (geometry_of c.args.sup.now) m tree holds (SetMode c.args.id mode uid gid))
    (λ l e. subst (IsLooked (geometry_of c.args.sup.now) m tree holds (SetMode c.args.id mode uid gid)) (sym e)
    (λ stamp s same held session. (s, same, ByTree.refused (sym (sym c.in-Some.is ∙ c.in-Ok.ensures.refused m tree lists s mode uid gid told ready same)) refl))) c.found.ensures.that

pub returns-in-None-clause-looked : goal.returns-in-None-clause-looked
returns-in-None-clause-looked g c m tree lists holds mode uid gid told ready = record {
  changes = refl;
  fine = λ s same held. sym (sym c.in-None.is ∙ c.in-Ok.ensures.refused m tree lists s mode uid gid told ready same);
  logged_is = omega arith;
  taken_is = omega arith;
  logged = omega arith;
  taken = omega arith;
}
