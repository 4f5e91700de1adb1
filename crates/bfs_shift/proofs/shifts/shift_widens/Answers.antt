use Rattle.bfs_shift.proofs.Widens.{widened}
use Rattle.bfs_shift.proofs.shifts.shift_widens.Goals as goal

pub returns : goal.returns
returns c = widened
