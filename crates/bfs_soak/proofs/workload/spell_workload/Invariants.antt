use Rattle.std.proofs.Common.{◌≡◌, ◌++◌, ◌+◌, ◌-◌}
use Rattle.bfs_soak.specs.Spellings.{workload_text, lines_text}
use Rattle.bfs_soak.proofs.workload.spell_workload.Given as goal

abbrev pub invariant-lines : goal.invariant-lines
invariant-lines l = workload_text l.seed l.count ≡ l.out.items ++ lines_text l.x (l.at + 1) (l.count - l.at)
