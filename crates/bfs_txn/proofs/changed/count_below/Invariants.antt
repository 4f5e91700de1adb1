use Rattle.std.proofs.Common.{◌≡◌, ◌+◌, ◌≤◌, ◌<◌, ℕ, length}
use Rattle.bfs_txn.specs.Changed.{number_at}
use Rattle.bfs_txn.proofs.changed.count_below.Given as goal

abbrev pub invariant-loop-size : goal.invariant-loop-size
invariant-loop-size l = (l.low + l.size ≤ length l.blocks) × (0 < length l.blocks → 0 < l.size) × (l.size ≡ 0 → l.low ≡ 0) × ((j : ℕ) → j < l.low → number_at l.blocks j < l.number) × ((j : ℕ) → l.low + l.size ≤ j → j < length l.blocks → l.number ≤ number_at l.blocks j)

abbrev pub decreases-loop-size : goal.decreases-loop-size
decreases-loop-size l = l.size
