use Rattle.bfs_shift.proofs.Loose.{loose_changed}
use Rattle.bfs_shift.proofs.changes.loose_changes.Goals as goal

pub returns : goal.returns
returns c = loose_changed
