use Rattle.bfs_values.proofs.Reaching.{row-put}
use Rattle.bfs_values.proofs.laws.put_reaches.Goals as goal

pub returns : goal.returns
returns c = row-put
