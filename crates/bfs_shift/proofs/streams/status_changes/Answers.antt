use Rattle.bfs_shift.proofs.Stamped.{status_changed}
use Rattle.bfs_shift.proofs.streams.status_changes.Goals as goal

pub returns : goal.returns
returns c = status_changed
