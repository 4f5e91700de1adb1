use Rattle.bfs_core.proofs.Wholes.{newest_is_sized}
use Rattle.bfs_core.proofs.laws.newest_is_sized.Goals as goal

pub returns : goal.returns
returns c = newest_is_sized
