use Rattle.std.proofs.Common.{◌<◌, ℕ}
use Rattle.bfs_node.specs.Page.{rows_of, row_in, value_of}
use Rattle.bfs_pages.specs.Answers.{IsChild}
use Rattle.bfs_pages.specs.Trees.{place_of}
use Rattle.bfs_walk.proofs.page.check_children.Given as goal

abbrev pub invariant-loop-i : goal.invariant-loop-i
invariant-loop-i l = (j : ℕ) → j < l.i → IsChild l.size (place_of (value_of (row_in (rows_of l.page) j)))
