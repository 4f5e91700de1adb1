use Rattle.bfs_shift.proofs.Directories.{rows_changed}
use Rattle.bfs_shift.proofs.streams.rows_change.Goals as goal

pub returns : goal.returns
returns c = rows_changed
