use Rattle.std.proofs.Common.{◌≡◌, ◌<◌, ◌*◌, ℕ, length, drop, not, ◌&&◌}
use Rattle.bfs_bitmap.specs.Bits.{is_clear}
use Rattle.bfs_bitmap.specs.Runs.{is_reserved}
use Rattle.bfs_bitmap.proofs.reserved.mark_all.Given as goal

abbrev pub invariant-loop-i : goal.invariant-loop-i
invariant-loop-i l = (k : ℕ) → k < 8 * length l.fn.bytes → (is_clear l.bytes k && not (is_reserved (drop l.i l.given) k)) ≡ (is_clear l.fn.bytes k && not (is_reserved l.given k))
