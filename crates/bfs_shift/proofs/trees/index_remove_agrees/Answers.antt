use Rattle.bfs_shift.proofs.Statuses.{index_remove_agrees}
use Rattle.bfs_shift.proofs.trees.index_remove_agrees.Goals as goal

pub returns : goal.returns
returns c = index_remove_agrees
