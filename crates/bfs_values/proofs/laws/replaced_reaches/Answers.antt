use Rattle.bfs_values.proofs.Reaching.{row-replaced}
use Rattle.bfs_values.proofs.laws.replaced_reaches.Goals as goal

pub returns : goal.returns
returns c = row-replaced
