use Rattle.std.proofs.Common.{◌≡◌, ℕ, List, [], length, take, drop, Some}
use Rattle.bfs_txn.specs.Faults.{AreLater}
use Rattle.bfs_tree_check.specs.Levels.{IsLooking}
use Rattle.bfs_tree_check.specs.Marked.{marked}
use Rattle.bfs_tree_check.proofs.leaves.look_at_leaves.Given as goal

abbrev pub invariant-loop-at : goal.invariant-loop-at
invariant-loop-at g l = record {
  told : g.P.Pages.told l.pages ≡ g.P.Pages.told l.fn.pages;
  size : g.P.Pages.size l.pages ≡ g.P.Pages.size l.fn.pages;
  later : AreLater (g.P.Pages.counts l.fn.pages) (g.P.Pages.counts l.pages);
  frame : g.P.Pages.frame l.pages ≡ g.P.Pages.frame l.fn.pages;
  goes_on : g.P.Pages.goes_on l.fn.pages l.pages;
  is_read : g.P.Pages.is_read l.fn.pages l.pages;
  long : length l.marks ≡ length l.fn.marks;
  looking : (b : List ℕ) → g.P.Pages.told l.fn.pages ≡ Some b → IsLooking l.kind b [] l.leaves (marked (g.P.Pages.size l.fn.pages) l.fn.marks) → IsLooking l.kind b (take l.at-index l.leaves) (drop l.at-index l.leaves) (marked (g.P.Pages.size l.fn.pages) l.marks);
}
