use Rattle.bfs_shift.proofs.Dropped.{remove_changes}
use Rattle.bfs_shift.proofs.trees.remove_changes_seat.Goals as goal

pub returns : goal.returns
returns c = remove_changes
