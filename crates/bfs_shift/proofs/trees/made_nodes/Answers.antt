use Rattle.bfs_shift.proofs.Ends.{made_nodes}
use Rattle.bfs_shift.proofs.trees.made_nodes.Goals as goal

pub returns : goal.returns
returns c = made_nodes
