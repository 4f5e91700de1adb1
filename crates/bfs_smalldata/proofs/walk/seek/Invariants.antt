use Rattle.std.proofs.Common.{◌≤◌, ◌-◌, length}
use Rattle.bfs_smalldata.specs.Walk.{Passes}
use Rattle.bfs_smalldata.proofs.walk.seek.Given as goal

abbrev pub invariant-loop-at : goal.invariant-loop-at
invariant-loop-at l = record {
  inside : l.at ≤ length l.area;
  passes : Passes l.area l.name l.at;
}

abbrev pub decreases-loop-at : goal.decreases-loop-at
decreases-loop-at l = length l.initial.area - l.at
