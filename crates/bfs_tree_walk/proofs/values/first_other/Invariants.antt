use Rattle.std.proofs.Common.{take}
use Rattle.bfs_node.specs.Page.{rows_of}
use Rattle.bfs_tree_walk.specs.Plain.{ArePlain}
use Rattle.bfs_tree_walk.proofs.values.first_other.Given as goal

abbrev pub invariant-loop-i : goal.invariant-loop-i
invariant-loop-i l = ArePlain (take l.i (rows_of l.page))
