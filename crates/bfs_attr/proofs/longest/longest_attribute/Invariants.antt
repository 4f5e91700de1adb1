use Rattle.std.proofs.Common.{◌≤◌, ◌-◌, length}
use Rattle.bfs_attr.proofs.Longests.{Seeks}
use Rattle.bfs_attr.proofs.longest.longest_attribute.Given as goal

abbrev pub invariant-loop-size : goal.invariant-loop-size
invariant-loop-size l = record {
  inside : l.at ≤ length l.area;
  seeks : Seeks l.area l.at l.found;
}

abbrev pub decreases-loop-size : goal.decreases-loop-size
decreases-loop-size l = length l.initial.area - l.at
