use Rattle.bfs_values.proofs.Reaching.{row-taken}
use Rattle.bfs_values.proofs.laws.taken_reaches.Goals as goal

pub returns : goal.returns
returns c = row-taken
