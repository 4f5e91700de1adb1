use Rattle.bfs_tree.proofs.Replies.{refusal-unique}
use Rattle.bfs_tree.proofs.laws.refusal_is_unique.Goals as goal

pub returns : goal.returns
returns c = refusal-unique
