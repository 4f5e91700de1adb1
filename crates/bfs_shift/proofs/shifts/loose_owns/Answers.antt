use Rattle.bfs_shift.proofs.Owning.{loose_owns}
use Rattle.bfs_shift.proofs.shifts.loose_owns.Goals as goal

pub returns : goal.returns
returns c = loose_owns
