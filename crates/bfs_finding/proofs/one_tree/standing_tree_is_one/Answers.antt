use Rattle.bfs_finding.proofs.OneTrees.{one_stands}
use Rattle.bfs_finding.proofs.one_tree.standing_tree_is_one.Goals as goal

pub returns : goal.returns
returns c = λ v one other a b. one_stands v one other a b
