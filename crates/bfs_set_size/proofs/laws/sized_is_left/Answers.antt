use Rattle.bfs_set_size.proofs.Steps.{sized_is_left}
use Rattle.bfs_set_size.proofs.laws.sized_is_left.Goals as goal

pub returns : goal.returns
returns c = sized_is_left
