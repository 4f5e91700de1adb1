use Rattle.bfs_shift.proofs.Statuses.{status_agrees}
use Rattle.bfs_shift.proofs.trees.status_agrees.Goals as goal

pub returns : goal.returns
returns c = status_agrees
