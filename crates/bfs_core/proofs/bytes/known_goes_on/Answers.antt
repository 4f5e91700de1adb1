use Rattle.bfs_core.proofs.Knowing.{known_ahead}
use Rattle.bfs_core.proofs.bytes.known_goes_on.Goals as goal

pub returns : goal.returns
returns c = known_ahead
