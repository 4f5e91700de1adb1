use Rattle.bfs_moves.proofs.Ends.{goes_on_twice}
use Rattle.bfs_moves.proofs.laws.goes_on_twice.Goals as goal

pub returns : goal.returns
returns c = goes_on_twice
