use Rattle.bfs_shift.proofs.Bits.{taken_shifts}
use Rattle.bfs_shift.proofs.shifts.taken_shift.Goals as goal

pub returns : goal.returns
returns c = (λ g v now m first len told of some inside free is. taken_shifts g v now m first len told of some inside free is)
