use Rattle.bfs_tree.proofs.ListMoves.{listed-kept}
use Rattle.bfs_tree.proofs.laws.listed_kept.Goals as goal

pub returns : goal.returns
returns c = listed-kept
