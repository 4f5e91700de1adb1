use Rattle.std.proofs.Common.{◌≡◌, ◌<◌, ℕ, List, Some}
use Rattle.bfs_txn.specs.Faults.{AreLater}
use Rattle.bfs_tree_check.proofs.Neighbours.{AreBeside}
use Rattle.bfs_tree_check.proofs.links.check_links.Given as goal

abbrev pub invariant-loop-i : goal.invariant-loop-i
invariant-loop-i g l = record {
  told : g.P.Pages.told l.pages ≡ g.P.Pages.told l.fn.pages;
  size : g.P.Pages.size l.pages ≡ g.P.Pages.size l.fn.pages;
  later : AreLater (g.P.Pages.counts l.fn.pages) (g.P.Pages.counts l.pages);
  frame : g.P.Pages.frame l.pages ≡ g.P.Pages.frame l.fn.pages;
  goes_on : g.P.Pages.goes_on l.fn.pages l.pages;
  is_read : g.P.Pages.is_read l.fn.pages l.pages;
  beside : (b : List ℕ) → g.P.Pages.told l.fn.pages ≡ Some b → (j : ℕ) → j < l.i → AreBeside b l.leaves j;
}
