use Rattle.std.proofs.Common.{◌≤◌, ◌-◌, length}
use Rattle.bfs_nodes_walk.proofs.Repeats.{Apart}
use Rattle.bfs_nodes_walk.proofs.items.check_items.Given as goal

abbrev pub invariant-loop-alloc : goal.invariant-loop-alloc
invariant-loop-alloc l = record {
  inside : l.at ≤ length l.area;
  apart : Apart l.area l.at;
}

abbrev pub decreases-loop-alloc : goal.decreases-loop-alloc
decreases-loop-alloc l = length l.initial.area - l.at
