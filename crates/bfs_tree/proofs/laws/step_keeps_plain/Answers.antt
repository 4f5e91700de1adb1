use Rattle.bfs_tree.proofs.Keeps.{step-keeps}
use Rattle.bfs_tree.proofs.laws.step_keeps_plain.Goals as goal

pub returns : goal.returns
returns c = step-keeps
