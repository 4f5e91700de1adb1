use Rattle.bfs_tree.proofs.ListMoves.{listed-put}
use Rattle.bfs_tree.proofs.laws.listed_put.Goals as goal

pub returns : goal.returns
returns c = listed-put
