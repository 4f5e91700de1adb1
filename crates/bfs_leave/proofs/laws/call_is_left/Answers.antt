use Rattle.bfs_leave.proofs.Steps.{call_is_left}
use Rattle.bfs_leave.proofs.laws.call_is_left.Goals as goal

pub returns : goal.returns
returns c = call_is_left
