use Rattle.std.proofs.Common.{◌≡◌, ℕ, List, length, Some}
use Rattle.bfs_txn.specs.Faults.{AreLater}
use Rattle.bfs_pages.specs.Answers.{IsChild}
use Rattle.bfs_tree_check.specs.Marked.{marked}
use Rattle.bfs_value_walk.specs.Chained.{IsChaining}
use Rattle.bfs_value_walk.proofs.chain.claim_chain.Given as goal

abbrev pub invariant-loop-left : goal.invariant-loop-left
invariant-loop-left g l = record {
  told : g.P.Pages.told l.pages ≡ g.P.Pages.told l.fn.pages;
  size : g.P.Pages.size l.pages ≡ g.P.Pages.size l.fn.pages;
  later : AreLater (g.P.Pages.counts l.fn.pages) (g.P.Pages.counts l.pages);
  frame : g.P.Pages.frame l.pages ≡ g.P.Pages.frame l.fn.pages;
  goes_on : g.P.Pages.goes_on l.fn.pages l.pages;
  is_read : g.P.Pages.is_read l.fn.pages l.pages;
  long : length l.marks ≡ length l.fn.marks;
  child : IsChild (g.P.Pages.size l.fn.pages) l.at;
  chaining : (b : List ℕ) → g.P.Pages.told l.fn.pages ≡ Some b
      → (done : List ℕ) × IsChaining b l.first done l.left l.at l.numbers.items (marked (g.P.Pages.size l.fn.pages) l.fn.marks) (marked (g.P.Pages.size l.fn.pages) l.marks);
}

abbrev pub decreases-loop-left : goal.decreases-loop-left
decreases-loop-left g l = l.left
