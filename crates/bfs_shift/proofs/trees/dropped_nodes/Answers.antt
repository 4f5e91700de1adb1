use Rattle.bfs_shift.proofs.Ends.{dropped_nodes}
use Rattle.bfs_shift.proofs.trees.dropped_nodes.Goals as goal

pub returns : goal.returns
returns c = dropped_nodes
