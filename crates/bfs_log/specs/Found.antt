-- The runs that a call found.
use Rattle.std.specs.Prelude.{◌≡◌, pos, ◌-◌, List, ◌++◌, length, replicate}
use Rattle.bfs_bytes.specs.declared.Run.{Run}
use Rattle.bfs_log.specs.declared.entry.Runs.{Runs}

abbrev pub no_run : Run
no_run = record { group = pos 0; start = 0; len = 0 }

-- these runs, and zero runs up to 127
pub record HasRuns (runs : List Run) (found : Runs) : Type 0 where
  pub count : found.count ≡ length runs
  pub runs_then_none : found.runs ≡ runs ++ replicate (127 - length runs) no_run
