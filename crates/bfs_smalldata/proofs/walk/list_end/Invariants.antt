use Rattle.std.proofs.Common.{◌≡◌, ◌≤◌, ◌-◌, List, length}
use Rattle.bfs_smalldata.specs.Items.{Item, Stand, sizes_of}
use Rattle.bfs_smalldata.proofs.walk.list_end.Given as goal

abbrev pub invariant-loop-size : goal.invariant-loop-size
invariant-loop-size l = record {
  inside : l.at ≤ length l.area;
  behind : (items : List Item) × Stand l.area items × (l.at ≡ sizes_of items);
}

abbrev pub decreases-loop-size : goal.decreases-loop-size
decreases-loop-size l = length l.initial.area - l.at
