use Rattle.bfs_tree.proofs.ListMoves.{listed-has}
use Rattle.bfs_tree.proofs.laws.listed_has.Goals as goal

pub returns : goal.returns
returns c = listed-has
