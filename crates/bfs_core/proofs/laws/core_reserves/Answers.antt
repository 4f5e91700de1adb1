use Rattle.bfs_core.proofs.Images.{reserved_now}
use Rattle.bfs_core.proofs.laws.core_reserves.Goals as goal

pub returns : goal.returns
returns c = reserved_now
