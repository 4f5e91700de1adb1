use Rattle.bfs_shift.proofs.Widens.{in_any_order}
use Rattle.bfs_shift.proofs.shifts.shift_in_any_order.Goals as goal

pub returns : goal.returns
returns c = in_any_order
