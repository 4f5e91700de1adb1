use Rattle.bfs_shift.proofs.Parts.{lists_at}
use Rattle.bfs_shift.proofs.trees.lists_at.Goals as goal

pub returns : goal.returns
returns c = lists_at
