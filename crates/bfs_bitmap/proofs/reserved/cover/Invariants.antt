use Rattle.std.proofs.Common.{◌≡◌, ◌+◌, ◌*◌, ℕ, ◌&&◌, cond, nat_lt}
use Rattle.bfs_bitmap.specs.Bits.{is_clear}
use Rattle.bfs_bitmap.proofs.reserved.cover.Given as goal

abbrev pub invariant-loop-i : goal.invariant-loop-i
invariant-loop-i l = (k : ℕ) → is_clear l.bytes k ≡ cond (nat_lt k (8 * l.i)) (is_clear l.fn.bytes k && is_clear l.over (8 * l.at + k)) (is_clear l.fn.bytes k)
