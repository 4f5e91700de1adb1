use Rattle.std.proofs.Common.{ℕ, List, ◌++◌, take}
use Rattle.bfs_node.specs.Page.{rows_of}
use Rattle.bfs_finding.specs.Walks.{Met, rows_met}
use Rattle.bfs_tree_check.specs.Ordered.{IsLastKey, IsUpTo}
use Rattle.bfs_tree_check.proofs.order.order_rows.Given as goal

abbrev pub invariant-loop-i : goal.invariant-loop-i
invariant-loop-i l = record {
  last : IsLastKey l.kind l.last.items;
  up : (at : ℕ) (front : List Met) → IsUpTo l.kind front l.fn.last.items → IsUpTo l.kind (front ++ rows_met at 0 (take l.i (rows_of l.page))) l.last.items;
}
