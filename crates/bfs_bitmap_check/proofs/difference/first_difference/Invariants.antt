use Rattle.std.proofs.Common.{◌≡◌, ◌≤◌, ◌<◌, ◌-◌, ℕ}
use Rattle.bfs_bitmap.specs.Bits.{is_clear}
use Rattle.bfs_bitmap_check.proofs.difference.first_difference.Given as goal

abbrev pub invariant-loop-at : goal.invariant-loop-at
invariant-loop-at l = (l.at ≤ l.to) × ((k : ℕ) → k < l.at → is_clear l.bytes k ≡ is_clear l.bits k)

abbrev pub decreases-loop-at : goal.decreases-loop-at
decreases-loop-at l = l.to - l.at
