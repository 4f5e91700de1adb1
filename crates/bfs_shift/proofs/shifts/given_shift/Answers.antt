use Rattle.bfs_shift.proofs.Bits.{given_shifts}
use Rattle.bfs_shift.proofs.shifts.given_shift.Goals as goal

pub returns : goal.returns
returns c = (λ g v now m first len told of some inside is. given_shifts g v now m first len told of some inside is)
