use Rattle.std.proofs.Common.{◌≡◌, ◌<◌, take}
use Rattle.bfs_node.specs.Page.{rows_of}
use Rattle.bfs_insert.specs.Divided.{weight}
use Rattle.bfs_insert.proofs.divide.middle_of.Given as goal

abbrev pub invariant-loop-i : goal.invariant-loop-i
invariant-loop-i l = record {
  total : l.total ≡ weight (take l.i (rows_of l.page));
  small : l.total < 400;
}
