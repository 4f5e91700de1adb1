use Rattle.bfs_core.proofs.Knowing.{known_released}
use Rattle.bfs_core.proofs.bytes.known_is_released.Goals as goal

pub returns : goal.returns
returns c = known_released
