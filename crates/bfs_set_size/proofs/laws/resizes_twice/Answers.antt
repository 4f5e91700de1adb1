use Rattle.bfs_set_size.proofs.Steps.{resizes_twice}
use Rattle.bfs_set_size.proofs.laws.resizes_twice.Goals as goal

pub returns : goal.returns
returns c = resizes_twice
