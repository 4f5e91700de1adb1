use Rattle.std.proofs.Common.{◌≡◌, ◌≤◌, ◌+◌, ℕ, List, Some, length}
use Rattle.bfs_pages.specs.Answers.{IsHeaderFor}
use Rattle.bfs_pages.specs.Shapes.{Shape, tree_rows}
use Rattle.bfs_pages.specs.Trees.{header_in, IsTree}
use Rattle.bfs_pages.specs.Writes.{Kept, SamePages}
use Rattle.bfs_remove.specs.Cuts.{IsFilled}
use Rattle.bfs_remove.proofs.collapsing.collapse.Given as goal

abbrev pub invariant-loop-header : goal.invariant-loop-header
invariant-loop-header g l = record {
  page : length l.page ≡ 1024;
  header : IsHeaderFor l.kind (g.P.Pages.size l.pages) l.header;
  size : g.P.Pages.size l.pages ≡ g.P.Pages.size l.fn.pages;
  kept : Kept (g.P.Pages.counts l.fn.pages) (g.P.Pages.counts l.pages) (g.P.Pages.frame l.fn.pages) (g.P.Pages.frame l.pages) (g.P.Pages.goes_on l.fn.pages l.pages);
  steps : l.steps + l.header.levels ≤ l.fn.steps + l.fn.header.levels;
  tree : (b reached : List ℕ) (t : Shape) (fs : List ℕ) → g.P.Pages.told l.fn.pages ≡ Some b → l.fn.header ≡ header_in b → IsTree l.kind b reached t fs
      → (c : List ℕ) × (t2 : Shape) × (fs2 : List ℕ) × (g.P.Pages.told l.pages ≡ Some c) × (l.header ≡ header_in c) × IsTree l.kind c reached t2 fs2 × (tree_rows t2 ≡ tree_rows t) × SamePages reached b c × (IsFilled t → IsFilled t2);
}

abbrev pub decreases-loop-header : goal.decreases-loop-header
decreases-loop-header g l = l.header.levels
