-- What each line of a workload keeps.
use Rattle.std.specs.Prelude.{ℕ}
use Rattle.std.specs.List.{All}
use Rattle.bfs_command.specs.Forms.{IsLineInForm}
use Rattle.bfs_soak.specs.Workload.{workload}

-- every line of a workload is in form
abbrev pub WorkloadIsInForm : Type 0
WorkloadIsInForm = (seed count : ℕ) → All IsLineInForm (workload seed count)
