use Rattle.bfs_moves.proofs.Ends.{work_ends}
use Rattle.bfs_moves.proofs.laws.work_ends.Goals as goal

pub returns : goal.returns
returns c = work_ends
