use Rattle.bfs_tree.proofs.ListMoves.{listed-stays}
use Rattle.bfs_tree.proofs.laws.listed_stays.Goals as goal

pub returns : goal.returns
returns c = listed-stays
