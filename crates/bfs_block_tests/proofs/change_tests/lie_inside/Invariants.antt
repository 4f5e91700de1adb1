use Rattle.std.proofs.Common.{ℕ, ◌<◌}
use Rattle.bfs_txn.specs.Changed.{number_at}
use Rattle.bfs_block_tests.proofs.change_tests.lie_inside.Given as goal

abbrev pub invariant-loop-i : goal.invariant-loop-i
invariant-loop-i l = (k : ℕ) → k < l.i → number_at l.blocks k < l.count
