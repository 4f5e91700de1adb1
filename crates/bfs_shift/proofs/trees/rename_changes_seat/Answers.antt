use Rattle.bfs_shift.proofs.Renamed.{rename_changes}
use Rattle.bfs_shift.proofs.trees.rename_changes_seat.Goals as goal

pub returns : goal.returns
returns c = rename_changes
