use Rattle.bfs_leave.proofs.Steps.{goes_on_gives}
use Rattle.bfs_leave.proofs.laws.goes_on_gives.Goals as goal

pub returns : goal.returns
returns c = goes_on_gives
