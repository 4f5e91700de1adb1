use Rattle.bfs_tree.proofs.ListMoves.{listed-ascends}
use Rattle.bfs_tree.proofs.laws.listed_ascends.Goals as goal

pub returns : goal.returns
returns c = listed-ascends
