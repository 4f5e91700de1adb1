use Rattle.bfs_shift.proofs.Leaves.{node_left}
use Rattle.bfs_shift.proofs.changes.node_leaves.Goals as goal

pub returns : goal.returns
returns c = node_left
