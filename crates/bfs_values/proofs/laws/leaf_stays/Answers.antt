use Rattle.bfs_values.proofs.Valued.{leaf-stays}
use Rattle.bfs_values.proofs.laws.leaf_stays.Goals as goal

pub returns : goal.returns
returns c = leaf-stays
