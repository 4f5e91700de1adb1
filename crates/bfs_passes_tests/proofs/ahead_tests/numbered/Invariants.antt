use Rattle.std.proofs.Common.{◌≡◌, length}
use Rattle.bfs_passes_tests.proofs.ahead_tests.numbered.Given as goal

abbrev pub invariant-loop-at : goal.invariant-loop-at
invariant-loop-at l = record { long : length l.bytes.items ≡ l.size }
