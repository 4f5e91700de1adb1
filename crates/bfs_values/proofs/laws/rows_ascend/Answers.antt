use Rattle.bfs_values.proofs.RowLists.{rows-up}
use Rattle.bfs_values.proofs.laws.rows_ascend.Goals as goal

pub returns : goal.returns
returns c = rows-up
