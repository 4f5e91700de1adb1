use Rattle.bfs_index_walk.proofs.Standing.{rowless}
use Rattle.bfs_index_walk.proofs.laws.none_is_rowless.Goals as goal

pub returns : goal.returns
returns c = rowless
