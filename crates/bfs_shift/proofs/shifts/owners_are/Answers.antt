use Rattle.bfs_shift.proofs.Owners.{owners_are}
use Rattle.bfs_shift.proofs.shifts.owners_are.Goals as goal

pub returns : goal.returns
returns c = owners_are
