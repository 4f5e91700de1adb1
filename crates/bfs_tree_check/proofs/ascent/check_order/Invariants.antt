use Rattle.std.proofs.Common.{◌≡◌, ℕ, List, Some, take}
use Rattle.std.specs.List.{AllByRecursion, flat_map}
use Rattle.bfs_txn.specs.Faults.{AreLater}
use Rattle.bfs_pages.specs.Trees.{state_of}
use Rattle.bfs_finding.specs.Walks.{entries_met}
use Rattle.bfs_tree_check.specs.Levels.{met_in}
use Rattle.bfs_tree_check.specs.Ordered.{IsLastKey, IsUpTo, IsKnown}
use Rattle.bfs_tree_check.proofs.ascent.check_order.Given as goal

abbrev pub invariant-loop-item : goal.invariant-loop-item
invariant-loop-item g l = record {
  told : g.P.Pages.told l.pages ≡ g.P.Pages.told l.fn.pages;
  size : g.P.Pages.size l.pages ≡ g.P.Pages.size l.fn.pages;
  later : AreLater (g.P.Pages.counts l.fn.pages) (g.P.Pages.counts l.pages);
  frame : g.P.Pages.frame l.pages ≡ g.P.Pages.frame l.fn.pages;
  goes_on : g.P.Pages.goes_on l.fn.pages l.pages;
  is_read : g.P.Pages.is_read l.fn.pages l.pages;
  last : IsLastKey l.kind l.last.items;
  up : (b : List ℕ) → g.P.Pages.told l.fn.pages ≡ Some b → entries_met l.kind b ≡ flat_map (met_in (state_of l.kind b).bodies 0) l.level → AllByRecursion (IsKnown l.kind b) l.level
      → IsUpTo l.kind (flat_map (met_in (state_of l.kind b).bodies 0) (take l.item-index l.level)) l.last.items;
}
