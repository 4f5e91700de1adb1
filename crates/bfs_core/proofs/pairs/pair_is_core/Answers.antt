use Rattle.bfs_core.proofs.Together.{pair_is_core}
use Rattle.bfs_core.proofs.pairs.pair_is_core.Goals as goal

pub returns : goal.returns
returns c = pair_is_core
