use Rattle.bfs_shift.proofs.Moves.{moved_shifts}
use Rattle.bfs_shift.proofs.streams.moves_shift.Goals as goal

pub returns : goal.returns
returns c = moved_shifts
