use Rattle.bfs_tree.proofs.Empties.{empty-plain}
use Rattle.bfs_tree.proofs.laws.empty_is_plain.Goals as goal

pub returns : goal.returns
returns c = λ root stamp. empty-plain root stamp
