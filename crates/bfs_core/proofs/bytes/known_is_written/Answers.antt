use Rattle.bfs_core.proofs.Knowing.{known_written}
use Rattle.bfs_core.proofs.bytes.known_is_written.Goals as goal

pub returns : goal.returns
returns c = known_written
