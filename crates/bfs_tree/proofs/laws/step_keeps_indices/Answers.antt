use Rattle.bfs_tree.proofs.Keeps.{step-keeps-indices}
use Rattle.bfs_tree.proofs.laws.step_keeps_indices.Goals as goal

pub returns : goal.returns
returns c = step-keeps-indices
