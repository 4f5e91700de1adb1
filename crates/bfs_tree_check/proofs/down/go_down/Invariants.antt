use Rattle.std.proofs.Common.{◌≡◌, ℕ, suc, List, length, drop, Some}
use Rattle.bfs_txn.specs.Faults.{AreLater}
use Rattle.bfs_tree_check.specs.Levels.{AreInside, IsHalf, IsLevel}
use Rattle.bfs_tree_check.specs.Marked.{marked}
use Rattle.bfs_tree_check.proofs.down.go_down.Given as goal

abbrev pub invariant-loop-item : goal.invariant-loop-item
invariant-loop-item g l = record {
  told : g.P.Pages.told l.pages ≡ g.P.Pages.told l.fn.pages;
  size : g.P.Pages.size l.pages ≡ g.P.Pages.size l.fn.pages;
  later : AreLater (g.P.Pages.counts l.fn.pages) (g.P.Pages.counts l.pages);
  frame : g.P.Pages.frame l.pages ≡ g.P.Pages.frame l.fn.pages;
  goes_on : g.P.Pages.goes_on l.fn.pages l.pages;
  is_read : g.P.Pages.is_read l.fn.pages l.pages;
  long : length l.marks ≡ length l.fn.marks;
  inside : AreInside (g.P.Pages.size l.fn.pages) l.next.items;
  half : (b : List ℕ) (n : ℕ) → g.P.Pages.told l.fn.pages ≡ Some b → IsLevel l.kind b (suc n) l.level (marked (g.P.Pages.size l.fn.pages) l.fn.marks) → IsHalf l.kind b n l.next.items (drop l.item-index l.level) (marked (g.P.Pages.size l.fn.pages) l.marks);
}
