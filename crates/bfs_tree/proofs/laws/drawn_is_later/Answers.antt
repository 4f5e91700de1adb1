use Rattle.bfs_tree.proofs.Stamps.{drawn-later}
use Rattle.bfs_tree.proofs.laws.drawn_is_later.Goals as goal

pub returns : goal.returns
returns c = drawn-later
