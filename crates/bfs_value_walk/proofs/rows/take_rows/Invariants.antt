use Rattle.std.proofs.Common.{◌≡◌, ◌++◌, ℕ, List, length, take, Some}
use Rattle.bfs_base.specs.declared.kind.KeyKind.{KeyKind}
use Rattle.bfs_node.specs.Page.{Row, rows_of}
use Rattle.bfs_txn.specs.Faults.{AreLater}
use Rattle.bfs_value_walk.specs.Taken.{AreTaken}
use Rattle.bfs_value_walk.proofs.rows.take_rows.Given as goal

abbrev pub invariant-loop-i : goal.invariant-loop-i
invariant-loop-i g l = record {
  told : g.P.Pages.told l.pages ≡ g.P.Pages.told l.fn.pages;
  size : g.P.Pages.size l.pages ≡ g.P.Pages.size l.fn.pages;
  later : AreLater (g.P.Pages.counts l.fn.pages) (g.P.Pages.counts l.pages);
  frame : g.P.Pages.frame l.pages ≡ g.P.Pages.frame l.fn.pages;
  goes_on : g.P.Pages.goes_on l.fn.pages l.pages;
  is_read : g.P.Pages.is_read l.fn.pages l.pages;
  long : length l.marks ≡ length l.fn.marks;
  words : length l.names ≡ length l.fn.names;
  taken : (kind : KeyKind) (b : List ℕ) (done : List Row) (begin : g.row.T.Denot) → g.P.Pages.told l.fn.pages ≡ Some b → AreTaken kind b done (g.P.Pages.size l.fn.pages) l.fn.marks l.fn.names (g.T.RowSink.took begin l.fn.taken)
      → AreTaken kind b (done ++ take l.i (rows_of l.page)) (g.P.Pages.size l.fn.pages) l.marks l.names (g.T.RowSink.took begin l.taken);
}
