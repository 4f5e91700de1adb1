use Rattle.std.proofs.Common.{◌≤◌, ◌-◌}
use Rattle.bfs_bitmap.specs.Bits.{Fills}
use Rattle.bfs_claims.proofs.bits.set_bits.Given as goal

abbrev pub invariant-loop-at : goal.invariant-loop-at
invariant-loop-at l = (l.from ≤ l.at) × (l.at ≤ l.to) × Fills l.from l.at 1 l.fn.bytes l.bytes

abbrev pub decreases-loop-at : goal.decreases-loop-at
decreases-loop-at l = l.to - l.at
