use Rattle.bfs_shift.proofs.Renewed.{node_renewed}
use Rattle.bfs_shift.proofs.changes.node_changes.Goals as goal

pub returns : goal.returns
returns c = node_renewed
