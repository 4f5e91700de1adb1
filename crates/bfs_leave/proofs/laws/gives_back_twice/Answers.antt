use Rattle.bfs_leave.proofs.Steps.{gives_back_twice}
use Rattle.bfs_leave.proofs.laws.gives_back_twice.Goals as goal

pub returns : goal.returns
returns c = gives_back_twice
