use Rattle.bfs_tree.proofs.ListMoves.{listed-taken}
use Rattle.bfs_tree.proofs.laws.listed_taken.Goals as goal

pub returns : goal.returns
returns c = listed-taken
