use Rattle.std.proofs.Common.{◌≡◌, ◌-◌, ◌++◌, replicate}
use Rattle.bfs_log.specs.Entry.{runs_from}
use Rattle.bfs_log.specs.Found.{no_run}
use Rattle.bfs_log.proofs.read.read_runs.Given as goal

abbrev pub invariant-loop-i : goal.invariant-loop-i
invariant-loop-i l = l.runs ≡ runs_from l.i 8 l.block ++ replicate (127 - l.i) no_run
