use Rattle.bfs_values.proofs.Rows.{rows_those}
use Rattle.bfs_values.proofs.laws.rows_are_those.Goals as goal

pub returns : goal.returns
returns c = rows_those
