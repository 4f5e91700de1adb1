use Rattle.bfs_shift.proofs.Frees.{in_order}
use Rattle.bfs_shift.proofs.changes.loose_in_any_order.Goals as goal

pub returns : goal.returns
returns c = in_order
