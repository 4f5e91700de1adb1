use Rattle.bfs_shift.proofs.Owners.{names_own}
use Rattle.bfs_shift.proofs.shifts.names_own.Goals as goal

pub returns : goal.returns
returns c = λ g v m tree lists loose of some fits stocked there told. names_own g v m tree lists loose stocked of some fits there told
