use Rattle.std.proofs.Common.{◌≡◌, ◌++◌, take}
use Rattle.bfs_node.specs.Page.{rows_of}
use Rattle.bfs_names_walk.specs.Rows.{as_rows}
use Rattle.bfs_names_walk.proofs.rows.take_rows.Given as goal

abbrev pub invariant-loop-i : goal.invariant-loop-i
invariant-loop-i l = as_rows l.rows.items ≡ as_rows l.fn.rows.items ++ take l.i (rows_of l.page)
