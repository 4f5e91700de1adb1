use Rattle.bfs_shift.proofs.Counted.{length_is_same}
use Rattle.bfs_shift.proofs.changes.length_is_same.Goals as goal

pub returns : goal.returns
returns c = length_is_same
