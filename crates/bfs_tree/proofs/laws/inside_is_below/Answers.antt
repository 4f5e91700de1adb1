use Rattle.bfs_tree.proofs.Ways.{inside-below}
use Rattle.bfs_tree.proofs.laws.inside_is_below.Goals as goal

pub returns : goal.returns
returns c = inside-below
