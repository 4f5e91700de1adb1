use Rattle.bfs_tree.proofs.ListMoves.{key-depends-on}
use Rattle.bfs_tree.proofs.laws.key_depends_on.Goals as goal

pub returns : goal.returns
returns c = key-depends-on
