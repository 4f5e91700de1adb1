use Rattle.std.proofs.Common.{◌≤◌, ◌-◌, length}
use Rattle.bfs_node_check.specs.Areas.{IsShort}
use Rattle.bfs_node_check.proofs.Walked.{Walks}
use Rattle.bfs_node_check.proofs.area.check_names.Given as goal

abbrev pub invariant-loop-size : goal.invariant-loop-size
invariant-loop-size l = record {
  inside : l.at ≤ length l.area;
  walks : Walks IsShort l.area l.at;
}

abbrev pub decreases-loop-size : goal.decreases-loop-size
decreases-loop-size l = length l.initial.area - l.at
