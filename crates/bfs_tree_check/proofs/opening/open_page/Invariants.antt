use Rattle.std.proofs.Common.{◌≡◌, ◌++◌, drop}
use Rattle.bfs_node.specs.Page.{rows_of, overflow_of}
use Rattle.bfs_tree_check.specs.Levels.{opened}
use Rattle.bfs_tree_check.proofs.opening.open_page.Given as goal

abbrev pub invariant-loop-i : goal.invariant-loop-i
invariant-loop-i l = l.items.items ++ opened l.at l.i (drop l.i (rows_of l.page)) (overflow_of l.page) ≡ l.fn.items.items ++ opened l.at 0 (rows_of l.page) (overflow_of l.page)
