use Rattle.bfs_moves.proofs.Ends.{goes_on_same}
use Rattle.bfs_moves.proofs.laws.goes_on_same.Goals as goal

pub returns : goal.returns
returns c = goes_on_same
