use Rattle.bfs_shift.proofs.Trims.{trimmed_shifts}
use Rattle.bfs_shift.proofs.streams.trimmed_shift.Goals as goal

pub returns : goal.returns
returns c = λ g id v now m gone told old new of some cut own. trimmed_shifts g id v now m gone told old new of some cut own
