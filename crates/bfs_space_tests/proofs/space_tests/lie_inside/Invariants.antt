use Rattle.std.proofs.Common.{◌≤◌, ◌<◌, ◌+◌, ◌*◌, ℕ}
use Rattle.bfs_txn.specs.Changed.{number_at}
use Rattle.bfs_space_tests.proofs.space_tests.lie_inside.Given as goal

abbrev pub invariant-loop-i : goal.invariant-loop-i
invariant-loop-i l = (j : ℕ) → j < l.i → 1024 * number_at l.blocks j + 1024 ≤ l.size
