use Rattle.bfs_core.proofs.Releases.{space_released}
use Rattle.bfs_core.proofs.pairs.space_is_released.Goals as goal

pub returns : goal.returns
returns c = space_released
