use Rattle.bfs_core.proofs.Images.{recovers_one}
use Rattle.bfs_core.proofs.laws.version_recovers.Goals as goal

pub returns : goal.returns
returns c = recovers_one
