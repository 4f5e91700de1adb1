use Rattle.std.proofs.Common.{◌≡◌, ◌≤◌, ◌+◌, ℕ, List, Some, length}
use Rattle.bfs_pages.specs.Answers.{IsChild, IsHeaderFor}
use Rattle.bfs_pages.specs.Shapes.{Shape}
use Rattle.bfs_pages.specs.Trees.{header_in, state_of}
use Rattle.bfs_pages.specs.Writes.{Kept, SamePages}
use Rattle.bfs_remove.specs.Cuts.{InHand}
use Rattle.bfs_remove.proofs.give.release.Given as goal

abbrev pub invariant-loop-left : goal.invariant-loop-left
invariant-loop-left g l = record {
  page : length l.page ≡ 1024;
  header : IsHeaderFor l.kind (g.P.Pages.size l.pages) l.header;
  levels : l.header.levels ≡ l.fn.header.levels;
  at : IsChild (g.P.Pages.size l.pages) l.at;
  size : g.P.Pages.size l.pages ≡ g.P.Pages.size l.fn.pages;
  kept : Kept (g.P.Pages.counts l.fn.pages) (g.P.Pages.counts l.pages) (g.P.Pages.frame l.fn.pages) (g.P.Pages.frame l.pages) (g.P.Pages.goes_on l.fn.pages l.pages);
  steps : l.steps + l.left ≤ l.fn.steps + l.fn.below;
  hand : (b reached : List ℕ) (t : Shape) (fs : List ℕ) (u : Shape) → g.P.Pages.told l.fn.pages ≡ Some b → l.fn.header ≡ header_in b → InHand l.kind (state_of l.kind b) reached l.fn.from l.fn.below t fs u
      → (c : List ℕ) × (fs2 : List ℕ) × (w : Shape) × (g.P.Pages.told l.pages ≡ Some c) × (l.header ≡ header_in c) × InHand l.kind (state_of l.kind c) reached l.at l.left t fs2 w × SamePages reached b c;
}

abbrev pub decreases-loop-left : goal.decreases-loop-left
decreases-loop-left g l = l.left
