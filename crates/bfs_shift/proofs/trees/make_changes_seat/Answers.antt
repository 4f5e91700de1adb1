use Rattle.bfs_shift.proofs.Made.{make_changes}
use Rattle.bfs_shift.proofs.trees.make_changes_seat.Goals as goal

pub returns : goal.returns
returns c = make_changes
