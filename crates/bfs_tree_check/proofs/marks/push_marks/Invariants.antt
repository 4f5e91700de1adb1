use Rattle.std.proofs.Common.{◌≡◌, ◌++◌, false, replicate}
use Rattle.bfs_tree_check.proofs.marks.push_marks.Given as goal

abbrev pub invariant-loop-left : goal.invariant-loop-left
invariant-loop-left l = l.marks.items ++ replicate l.left false ≡ l.fn.marks.items ++ replicate l.fn.count false

abbrev pub decreases-loop-left : goal.decreases-loop-left
decreases-loop-left l = l.left
