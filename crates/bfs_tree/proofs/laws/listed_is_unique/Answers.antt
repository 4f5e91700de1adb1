use Rattle.bfs_tree.proofs.ListMoves.{listed-is-unique}
use Rattle.bfs_tree.proofs.laws.listed_is_unique.Goals as goal

pub returns : goal.returns
returns c = listed-is-unique
