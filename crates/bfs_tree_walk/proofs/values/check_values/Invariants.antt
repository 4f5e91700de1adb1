use Rattle.std.proofs.Common.{◌≡◌, ℕ, List, Some, take}
use Rattle.std.specs.List.{AllByRecursion}
use Rattle.bfs_txn.specs.Faults.{AreLater}
use Rattle.bfs_pages.specs.Trees.{state_of}
use Rattle.bfs_values.specs.Rows.{rows_at}
use Rattle.bfs_finding.specs.Walks.{leaves_in}
use Rattle.bfs_tree_walk.specs.Plain.{ArePlain}
use Rattle.bfs_tree_walk.proofs.values.check_values.Given as goal

abbrev pub invariant-loop-at : goal.invariant-loop-at
invariant-loop-at g l = record {
  told : g.P.Pages.told l.pages ≡ g.P.Pages.told l.fn.pages;
  size : g.P.Pages.size l.pages ≡ g.P.Pages.size l.fn.pages;
  later : AreLater (g.P.Pages.counts l.fn.pages) (g.P.Pages.counts l.pages);
  frame : g.P.Pages.frame l.pages ≡ g.P.Pages.frame l.fn.pages;
  goes_on : g.P.Pages.goes_on l.fn.pages l.pages;
  is_read : g.P.Pages.is_read l.fn.pages l.pages;
  plain : (b : List ℕ) → g.P.Pages.told l.fn.pages ≡ Some b → leaves_in l.kind b ≡ l.leaves → AllByRecursion (λ x. ArePlain (rows_at ((state_of l.kind b).bodies x))) (take l.at-index l.leaves);
}
