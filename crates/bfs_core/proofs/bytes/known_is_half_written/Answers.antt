use Rattle.bfs_core.proofs.Halves.{known_half}
use Rattle.bfs_core.proofs.bytes.known_is_half_written.Goals as goal

pub returns : goal.returns
returns c = known_half
