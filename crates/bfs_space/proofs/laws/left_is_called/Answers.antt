use Rattle.bfs_replies.proofs.Left.{left_is_called}
use Rattle.bfs_space.proofs.laws.left_is_called.Goals as goal

pub returns : goal.returns
returns c = left_is_called
