use Rattle.bfs_tree.proofs.ListMoves.{listed-moves}
use Rattle.bfs_tree.proofs.laws.listed_moves.Goals as goal

pub returns : goal.returns
returns c = listed-moves
