use Rattle.std.proofs.Common.{◌≡◌, ℕ, List, take, Some}
use Rattle.bfs_txn.specs.Faults.{AreLater}
use Rattle.bfs_names_walk.specs.Rows.{as_rows}
use Rattle.bfs_names_walk.proofs.Gathered.{rows_by}
use Rattle.bfs_names_walk.proofs.leaves.take_leaves.Given as goal

abbrev pub invariant-loop-at : goal.invariant-loop-at
invariant-loop-at g l = record {
  told : g.P.Pages.told l.pages ≡ g.P.Pages.told l.fn.pages;
  size : g.P.Pages.size l.pages ≡ g.P.Pages.size l.fn.pages;
  later : AreLater (g.P.Pages.counts l.fn.pages) (g.P.Pages.counts l.pages);
  frame : g.P.Pages.frame l.pages ≡ g.P.Pages.frame l.fn.pages;
  goes_on : g.P.Pages.goes_on l.fn.pages l.pages;
  is_read : g.P.Pages.is_read l.fn.pages l.pages;
  taken : (b : List ℕ) → g.P.Pages.told l.fn.pages ≡ Some b → as_rows l.rows.items ≡ rows_by b (take l.at-index l.leaves);
}
