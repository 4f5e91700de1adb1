use Rattle.bfs_shift.proofs.Owners.{index_owns}
use Rattle.bfs_shift.proofs.shifts.index_owns.Goals as goal

pub returns : goal.returns
returns c = λ g v m tree lists loose name value of some fits stocked row told. index_owns g v m tree lists loose stocked of some fits name value row told
