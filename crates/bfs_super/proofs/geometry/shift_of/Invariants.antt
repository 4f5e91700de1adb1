use Rattle.std.proofs.Common.{ℕ, ◌<◌, ◌≤◌, ◌^◌, ◌-◌}
use Rattle.bfs_super.specs.Conditions.{ceil}
use Rattle.bfs_super.proofs.geometry.shift_of.Given as goal

abbrev pub invariant-loop-shift : goal.invariant-loop-shift
invariant-loop-shift l = record {
  from : l.first ≤ l.shift;
  last : l.shift ≤ 16;
  none_before : (s : ℕ) → l.first ≤ s → s < l.shift → 56 < ceil l.blocks (2 ^ s);
}

abbrev pub decreases-loop-shift : goal.decreases-loop-shift
decreases-loop-shift l = 16 - l.shift
