use Rattle.bfs_shift.proofs.Following.{agrees_stays}
use Rattle.bfs_shift.proofs.trees.agrees_stays.Goals as goal

pub returns : goal.returns
returns c = agrees_stays
