use Rattle.bfs_shift.proofs.Held.{rows_are_numbers}
use Rattle.bfs_shift.proofs.streams.rows_are_numbers.Goals as goal

pub returns : goal.returns
returns c = λ v tree lists loose d n stocked agrees plain few is dir. rows_are_numbers v tree lists loose d n stocked agrees plain few is dir
