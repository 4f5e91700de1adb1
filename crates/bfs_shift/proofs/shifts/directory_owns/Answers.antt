use Rattle.bfs_shift.proofs.Owners.{directory_owns}
use Rattle.bfs_shift.proofs.shifts.directory_owns.Goals as goal

pub returns : goal.returns
returns c = λ g v m tree lists loose d n of some fits stocked is dir told. directory_owns g v m tree lists loose stocked of some fits d n is dir told
