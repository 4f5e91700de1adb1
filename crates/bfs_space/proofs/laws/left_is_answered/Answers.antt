use Rattle.bfs_replies.proofs.Left.{left_is_answered}
use Rattle.bfs_space.proofs.laws.left_is_answered.Goals as goal

pub returns : goal.returns
returns c = left_is_answered
