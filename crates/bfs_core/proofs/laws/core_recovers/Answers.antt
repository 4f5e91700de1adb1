use Rattle.bfs_core.proofs.Images.{recovers_now}
use Rattle.bfs_core.proofs.laws.core_recovers.Goals as goal

pub returns : goal.returns
returns c = recovers_now
