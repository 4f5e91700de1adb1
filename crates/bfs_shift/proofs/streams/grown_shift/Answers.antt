use Rattle.bfs_shift.proofs.Trims.{grown_shifts}
use Rattle.bfs_shift.proofs.streams.grown_shift.Goals as goal

pub returns : goal.returns
returns c = grown_shifts
