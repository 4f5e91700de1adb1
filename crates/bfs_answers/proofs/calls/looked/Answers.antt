use Rattle.std.proofs.Common.{◌≡◌, sym, subst}
use Rattle.std.specs.Prelude.{Result, MatchResult}
use Rattle.std.proofs.lemmas.Result.{IfOk-weaker}
use Rattle.bfs_maps.specs.Refused.{IsUndone}
use Rattle.bfs_node.specs.declared.fault.TreeFault.{TreeFault}
use Rattle.bfs_stream.specs.declared.fault.GrowFault.{GrowFault}
use Rattle.bfs_tree.specs.declared.reply.Reply.{Reply}
use Rattle.bfs_tree.specs.Steps.{Reads}
use Rattle.bfs_answers.specs.declared.answers.Looked.TheVariants.{Answered}
use Rattle.bfs_answers.specs.Looks.{IsLooked}
use Rattle.bfs_answers.proofs.calls.looked.Goals as goal

pub returns-in-Ok-clause-looked : goal.returns-in-Ok-clause-looked
returns-in-Ok-clause-looked c = λ g m tree holds call reads.
    IfOk-weaker c.found.result (λ l. l ≡ Answered c.in-Ok.reply) (IsLooked g m tree holds call)
    (λ l e. subst (IsLooked g m tree holds call) (sym e) (λ stamp s same held session. (s, same, subst (λ (r : Result Reply (TreeFault GrowFault)). MatchResult r (Reads call s) IsUndone) c.in-Ok.is (reads s same) session stamp))) c.found.ensures.that
