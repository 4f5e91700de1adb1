use Rattle.std.proofs.Common.{◌≡◌, ◌∙◌, List, ℕ}
use Rattle.std.proofs.lemmas.Result.{IfErr-weaker}
use Rattle.bfs_pages.specs.Trees.{header_in}
use Rattle.bfs_pages.proofs.OfKind.{if_some}
use Rattle.bfs_walk.specs.Wrong.{IsWrong}
use Rattle.bfs_tree_check.specs.Amiss.{IsAmiss}
use Rattle.bfs_tree_walk.proofs.Wholly.{fault_amiss}
use Rattle.bfs_value_walk.proofs.walk.walk_rows.Goals as goal

pub returns-clause-wrong : goal.returns-clause-wrong
returns-clause-wrong g c = λ b told.
    let is = if_some (λ (z : List ℕ). c.in-Ok.header ≡ header_in z) _ b c.in-Ok.ensures.header told in
    IfErr-weaker c.walk_below.result (IsWrong c.args.kind b) (IsAmiss c.args.kind b) (fault_amiss c.args.kind b) (c.walk_below.ensures.wrong b (c.in-Ok.ensures.told ∙ told) is)
