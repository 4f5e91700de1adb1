use Rattle.bfs_shift.proofs.Maps.{index_has_pairs}
use Rattle.bfs_shift.proofs.streams.index_has_pairs.Goals as goal

pub returns : goal.returns
returns c = index_has_pairs
