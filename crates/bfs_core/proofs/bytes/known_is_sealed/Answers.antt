use Rattle.bfs_core.proofs.Knowing.{known_sealed}
use Rattle.bfs_core.proofs.bytes.known_is_sealed.Goals as goal

pub returns : goal.returns
returns c = known_sealed
