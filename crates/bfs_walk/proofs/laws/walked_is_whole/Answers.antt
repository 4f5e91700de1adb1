use Rattle.bfs_walk.proofs.Shaped.{walked_whole}
use Rattle.bfs_walk.proofs.laws.walked_is_whole.Goals as goal

pub returns : goal.returns
returns c = walked_whole
