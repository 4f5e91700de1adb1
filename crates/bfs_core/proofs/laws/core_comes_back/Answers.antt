use Rattle.bfs_core.proofs.Openings.{core_back}
use Rattle.bfs_core.proofs.laws.core_comes_back.Goals as goal

pub returns : goal.returns
returns c = core_back
