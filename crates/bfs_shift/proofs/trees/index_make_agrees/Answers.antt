use Rattle.bfs_shift.proofs.Statuses.{index_make_agrees}
use Rattle.bfs_shift.proofs.trees.index_make_agrees.Goals as goal

pub returns : goal.returns
returns c = index_make_agrees
