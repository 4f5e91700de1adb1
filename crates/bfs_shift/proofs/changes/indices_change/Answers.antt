use Rattle.bfs_shift.proofs.Indices.{indices_changed}
use Rattle.bfs_shift.proofs.changes.indices_change.Goals as goal

pub returns : goal.returns
returns c = indices_changed
