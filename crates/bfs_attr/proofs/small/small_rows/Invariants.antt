use Rattle.std.proofs.Common.{◌≤◌, ◌-◌, length}
use Rattle.bfs_attr.proofs.Walked.{Walks}
use Rattle.bfs_attr.proofs.small.small_rows.Given as goal

abbrev pub invariant-loop-alloc : goal.invariant-loop-alloc
invariant-loop-alloc l = record {
  inside : l.at ≤ length l.area;
  walks : Walks l.area l.at l.rows.items;
}

abbrev pub decreases-loop-alloc : goal.decreases-loop-alloc
decreases-loop-alloc l = length l.initial.area - l.at
