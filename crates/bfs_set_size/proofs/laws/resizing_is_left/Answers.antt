use Rattle.bfs_set_size.proofs.Steps.{resizing_is_left}
use Rattle.bfs_set_size.proofs.laws.resizing_is_left.Goals as goal

pub returns : goal.returns
returns c = resizing_is_left
