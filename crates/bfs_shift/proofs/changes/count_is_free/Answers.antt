use Rattle.bfs_shift.proofs.Frees.{other_count}
use Rattle.bfs_shift.proofs.changes.count_is_free.Goals as goal

pub returns : goal.returns
returns c = other_count
