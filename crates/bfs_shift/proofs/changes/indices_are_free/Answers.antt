use Rattle.bfs_shift.proofs.Frees.{other_indices}
use Rattle.bfs_shift.proofs.changes.indices_are_free.Goals as goal

pub returns : goal.returns
returns c = other_indices
