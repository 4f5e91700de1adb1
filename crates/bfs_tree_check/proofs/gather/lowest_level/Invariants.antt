use Rattle.std.proofs.Common.{◌≡◌, ℕ, List, [], ◌∷◌, length, Some}
use Rattle.bfs_base.specs.Lists.{times}
use Rattle.bfs_txn.specs.Faults.{AreLater}
use Rattle.bfs_pages.specs.Trees.{state_of}
use Rattle.bfs_tree_check.specs.Levels.{AreInside, IsLevel}
use Rattle.bfs_tree_check.specs.Marked.{marked}
use Rattle.bfs_tree_check.proofs.gather.lowest_level.Given as goal

abbrev pub invariant-loop-left : goal.invariant-loop-left
invariant-loop-left g l = record {
  told : g.P.Pages.told l.pages ≡ g.P.Pages.told l.fn.pages;
  size : g.P.Pages.size l.pages ≡ g.P.Pages.size l.fn.pages;
  later : AreLater (g.P.Pages.counts l.fn.pages) (g.P.Pages.counts l.pages);
  frame : g.P.Pages.frame l.pages ≡ g.P.Pages.frame l.fn.pages;
  goes_on : g.P.Pages.goes_on l.fn.pages l.pages;
  is_read : g.P.Pages.is_read l.fn.pages l.pages;
  long : length l.marks ≡ length l.fn.marks;
  inside : AreInside (g.P.Pages.size l.fn.pages) l.level.items;
  opened : (b : List ℕ) → g.P.Pages.told l.fn.pages ≡ Some b → l.fn.root ≡ (state_of l.kind b).root → l.fn.levels ≡ (state_of l.kind b).levels
      → ((x : ℕ) → marked (g.P.Pages.size l.fn.pages) l.fn.marks x ≡ times x (0 ∷ [])) → IsLevel l.kind b l.left l.level.items (marked (g.P.Pages.size l.fn.pages) l.marks);
}

abbrev pub decreases-loop-left : goal.decreases-loop-left
decreases-loop-left g l = l.left
