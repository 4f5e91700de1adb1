use Rattle.bfs_core.proofs.Openings.{core_mounted}
use Rattle.bfs_core.proofs.laws.core_is_mounted.Goals as goal

pub returns : goal.returns
returns c = core_mounted
