use Rattle.bfs_moves.proofs.Keys.{node_is_listed}
use Rattle.bfs_moves.proofs.laws.node_is_listed.Goals as goal

pub returns : goal.returns
returns c = node_is_listed
