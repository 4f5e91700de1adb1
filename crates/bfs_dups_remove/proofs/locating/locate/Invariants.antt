use Rattle.std.proofs.Common.{◌≡◌, ◌≤◌, ◌<◌, ℕ, List, Some, length}
use Rattle.bfs_pages.specs.Answers.{IsChild, IsLink}
use Rattle.bfs_pages.specs.Writes.{Kept}
use Rattle.bfs_values.specs.Values.{AreDuplicates, EndsAfter}
use Rattle.bfs_values.specs.Chained.{Chained}
use Rattle.bfs_dups_remove.proofs.Walking.{IsWalked}
use Rattle.bfs_dups_remove.proofs.locating.locate.Given as goal

abbrev pub invariant-loop-seen : goal.invariant-loop-seen
invariant-loop-seen g l = record {
  some : 1 ≤ l.left;
  at : IsChild (g.P.Pages.size l.fn.pages) l.at;
  before : IsLink (g.P.Pages.size l.fn.pages) l.before;
  length : length l.page ≡ 1024;
  told : g.P.Pages.told l.pages ≡ g.P.Pages.told l.fn.pages;
  size : g.P.Pages.size l.pages ≡ g.P.Pages.size l.fn.pages;
  kept : Kept (g.P.Pages.counts l.fn.pages) (g.P.Pages.counts l.pages) (g.P.Pages.frame l.fn.pages) (g.P.Pages.frame l.pages) (g.P.Pages.goes_on l.fn.pages l.pages);
  spare : (b : List ℕ) → g.P.Pages.told l.fn.pages ≡ Some b → (n : ℕ) → EndsAfter b n l.at → n < l.left;
  found : (b xs : List ℕ) → g.P.Pages.told l.fn.pages ≡ Some b → Chained b l.first xs → AreDuplicates b xs → IsWalked b xs l.number l.before l.at;
}

abbrev pub decreases-loop-seen : goal.decreases-loop-seen
decreases-loop-seen g l = l.left
