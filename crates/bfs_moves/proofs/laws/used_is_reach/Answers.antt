use Rattle.bfs_moves.proofs.Ends.{used_is_reach}
use Rattle.bfs_moves.proofs.laws.used_is_reach.Goals as goal

pub returns : goal.returns
returns c = used_is_reach
