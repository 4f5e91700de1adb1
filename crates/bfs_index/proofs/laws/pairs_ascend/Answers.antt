use Rattle.bfs_index.proofs.Rising.{pairs_up}
use Rattle.bfs_index.proofs.laws.pairs_ascend.Goals as goal

pub returns : goal.returns
returns c = pairs_up
