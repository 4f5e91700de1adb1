use Rattle.bfs_core.proofs.Sealing.{pair_is_sealed}
use Rattle.bfs_core.proofs.pairs.pair_is_sealed.Goals as goal

pub returns : goal.returns
returns c = pair_is_sealed
