use Rattle.bfs_shift.proofs.Frees.{elsewhere}
use Rattle.bfs_shift.proofs.changes.rows_elsewhere.Goals as goal

pub returns : goal.returns
returns c = elsewhere
