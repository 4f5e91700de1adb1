use Rattle.bfs_tree.proofs.Keeps.{history-keeps}
use Rattle.bfs_tree.proofs.laws.history_keeps_plain.Goals as goal

pub returns : goal.returns
returns c = history-keeps
