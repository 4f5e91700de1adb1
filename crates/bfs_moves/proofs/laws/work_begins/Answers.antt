use Rattle.bfs_moves.proofs.Ends.{work_begins}
use Rattle.bfs_moves.proofs.laws.work_begins.Goals as goal

pub returns : goal.returns
returns c = work_begins
