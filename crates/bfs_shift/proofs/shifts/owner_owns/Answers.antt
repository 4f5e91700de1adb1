use Rattle.bfs_shift.proofs.Owning.{owner_owns}
use Rattle.bfs_shift.proofs.shifts.owner_owns.Goals as goal

pub returns : goal.returns
returns c = λ g v m tree lists loose id of some fits stocked is sound told. owner_owns g v m tree lists loose id of some fits stocked is sound told
