use Rattle.bfs_tree.proofs.Replies.{step-next}
use Rattle.bfs_tree.proofs.laws.state_is_determined.Goals as goal

pub returns : goal.returns
returns c = step-next
