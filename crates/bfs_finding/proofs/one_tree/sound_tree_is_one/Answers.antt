use Rattle.bfs_finding.proofs.OneTrees.{one_tree}
use Rattle.bfs_finding.proofs.one_tree.sound_tree_is_one.Goals as goal

pub returns : goal.returns
returns c = λ v one other a b. one_tree v one other a b
