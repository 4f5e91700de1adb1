use Rattle.bfs_shift.proofs.Bits.{writes_shift}
use Rattle.bfs_shift.proofs.shifts.writes_shift.Goals as goal

pub returns : goal.returns
returns c = writes_shift
