use Rattle.bfs_core.proofs.Releases.{space_raised}
use Rattle.bfs_core.proofs.pairs.space_is_raised.Goals as goal

pub returns : goal.returns
returns c = space_raised
