use Rattle.bfs_core.proofs.Knowing.{known_opened}
use Rattle.bfs_core.proofs.bytes.known_is_opened.Goals as goal

pub returns : goal.returns
returns c = known_opened
