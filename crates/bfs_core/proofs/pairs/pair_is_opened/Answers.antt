use Rattle.bfs_core.proofs.Begun.{pair_begins}
use Rattle.bfs_core.proofs.pairs.pair_is_opened.Goals as goal

pub returns : goal.returns
returns c = pair_begins
