use Rattle.std.proofs.Common.{◌≡◌, ℕ, List, length, Some}
use Rattle.bfs_base.specs.declared.kind.KeyKind.{KeyKind}
use Rattle.bfs_txn.specs.Faults.{AreLater}
use Rattle.bfs_pages.specs.Answers.{IsLink}
use Rattle.bfs_pages.specs.Trees.{state_of}
use Rattle.bfs_tree_check.specs.Freed.{IsFreeing, built_times}
use Rattle.bfs_tree_check.specs.Marked.{marked}
use Rattle.bfs_tree_check.proofs.free.check_free_list.Given as goal

abbrev pub invariant-loop-left : goal.invariant-loop-left
invariant-loop-left g l = record {
  told : g.P.Pages.told l.pages ≡ g.P.Pages.told l.fn.pages;
  size : g.P.Pages.size l.pages ≡ g.P.Pages.size l.fn.pages;
  later : AreLater (g.P.Pages.counts l.fn.pages) (g.P.Pages.counts l.pages);
  frame : g.P.Pages.frame l.pages ≡ g.P.Pages.frame l.fn.pages;
  goes_on : g.P.Pages.goes_on l.fn.pages l.pages;
  is_read : g.P.Pages.is_read l.fn.pages l.pages;
  long : length l.marks ≡ length l.fn.marks;
  link : IsLink (g.P.Pages.size l.fn.pages) l.at;
  freeing : (kind : KeyKind) (b : List ℕ) → g.P.Pages.told l.fn.pages ≡ Some b → l.fn.first ≡ (state_of kind b).free → ((x : ℕ) → marked (g.P.Pages.size l.fn.pages) l.fn.marks x ≡ built_times kind b x)
      → (done : List ℕ) × IsFreeing kind b done l.left l.at (marked (g.P.Pages.size l.fn.pages) l.marks);
}

abbrev pub decreases-loop-left : goal.decreases-loop-left
decreases-loop-left g l = l.left
