use Rattle.std.proofs.Common.{◌≡◌, ◌≤◌, ◌+◌, ℕ, List, Some, length}
use Rattle.bfs_txn.specs.Faults.{AreLater}
use Rattle.bfs_pages.specs.Answers.{IsChild}
use Rattle.bfs_pages.specs.Shapes.{Shape, place}
use Rattle.bfs_pages.specs.Trees.{header_in, IsTree}
use Rattle.bfs_pages.specs.Ways.{under}
use Rattle.bfs_pages.proofs.finding.leaf_for.Given as goal

abbrev pub invariant-loop-left : goal.invariant-loop-left
invariant-loop-left g l = record {
  page : length l.page ≡ 1024;
  some : 1 ≤ l.left;
  at : IsChild (g.P.Pages.size l.pages) l.at;
  told : g.P.Pages.told l.pages ≡ g.P.Pages.told l.fn.pages;
  size : g.P.Pages.size l.pages ≡ g.P.Pages.size l.fn.pages;
  counts : AreLater (g.P.Pages.counts l.fn.pages) (g.P.Pages.counts l.pages);
  frame : g.P.Pages.frame l.pages ≡ g.P.Pages.frame l.fn.pages;
  goes_on : g.P.Pages.goes_on l.fn.pages l.pages;
  is_read : g.P.Pages.is_read l.fn.pages l.pages;
  steps : (b : List ℕ) → g.P.Pages.told l.fn.pages ≡ Some b → l.steps + l.left ≤ l.fn.steps + (header_in b).levels + 1;
  way : (b reached : List ℕ) (t : Shape) (fs : List ℕ) → g.P.Pages.told l.fn.pages ≡ Some b → IsTree l.kind b reached t fs
      → (d : ℕ) × (d + l.left ≡ (header_in b).levels) × (place (under l.kind d t l.key) ≡ l.at);
}

abbrev pub decreases-loop-left : goal.decreases-loop-left
decreases-loop-left g l = l.left
