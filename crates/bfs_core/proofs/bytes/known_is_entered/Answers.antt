use Rattle.bfs_core.proofs.Knowing.{known_entered}
use Rattle.bfs_core.proofs.bytes.known_is_entered.Goals as goal

pub returns : goal.returns
returns c = known_entered
