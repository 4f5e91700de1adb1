use Rattle.bfs_moves.proofs.Ends.{call_is_kept}
use Rattle.bfs_moves.proofs.laws.call_is_kept.Goals as goal

pub returns : goal.returns
returns c = call_is_kept
