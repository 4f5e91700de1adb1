use Rattle.std.proofs.Common.{◌≡◌, ℕ, List, [], length, take, Some}
use Rattle.bfs_txn.specs.Faults.{AreLater}
use Rattle.bfs_finding.specs.Walks.{leaves_in}
use Rattle.bfs_value_walk.specs.Taken.{AreTaken}
use Rattle.bfs_value_walk.proofs.Rowing.{rows_by}
use Rattle.bfs_value_walk.proofs.leaves.take_leaves.Given as goal

abbrev pub invariant-loop-at : goal.invariant-loop-at
invariant-loop-at g l = record {
  told : g.P.Pages.told l.pages ≡ g.P.Pages.told l.fn.pages;
  size : g.P.Pages.size l.pages ≡ g.P.Pages.size l.fn.pages;
  later : AreLater (g.P.Pages.counts l.fn.pages) (g.P.Pages.counts l.pages);
  frame : g.P.Pages.frame l.pages ≡ g.P.Pages.frame l.fn.pages;
  goes_on : g.P.Pages.goes_on l.fn.pages l.pages;
  is_read : g.P.Pages.is_read l.fn.pages l.pages;
  long : length l.marks ≡ length l.fn.marks;
  words : length l.names ≡ length l.fn.names;
  taken : (b : List ℕ) (begin : g.row.T.Denot) → g.P.Pages.told l.fn.pages ≡ Some b → leaves_in l.kind b ≡ l.leaves → AreTaken l.kind b [] (g.P.Pages.size l.fn.pages) l.fn.marks l.fn.names (g.T.RowSink.took begin l.fn.taken)
      → AreTaken l.kind b (rows_by l.kind b (take l.at-index l.leaves)) (g.P.Pages.size l.fn.pages) l.marks l.names (g.T.RowSink.took begin l.taken);
}
