use Rattle.bfs_tree.proofs.ListMoves.{moved-has}
use Rattle.bfs_tree.proofs.laws.moved_has.Goals as goal

pub returns : goal.returns
returns c = moved-has
