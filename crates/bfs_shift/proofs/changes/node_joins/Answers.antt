use Rattle.bfs_shift.proofs.Joins.{node_joined}
use Rattle.bfs_shift.proofs.changes.node_joins.Goals as goal

pub returns : goal.returns
returns c = node_joined
