use Rattle.bfs_shift.proofs.Counted.{count_is_reach}
use Rattle.bfs_shift.proofs.changes.count_is_reach.Goals as goal

pub returns : goal.returns
returns c = count_is_reach
