use Rattle.std.proofs.Common.{◌≡◌, ◌≢◌, ◌≤◌, ◌<◌, ℕ, List, Some, IfSome, length}
use Rattle.bfs_base.specs.Lists.{times}
use Rattle.bfs_pages.specs.Answers.{IsChild}
use Rattle.bfs_pages.specs.Trees.{page_in}
use Rattle.bfs_pages.specs.Writes.{Kept}
use Rattle.bfs_values.specs.Values.{IsDuplicates, page_count, page_numbers, AreDuplicates, EndsAfter}
use Rattle.bfs_values.specs.Chained.{Chained}
use Rattle.bfs_dups_add.proofs.Scanning.{IsScanned}
use Rattle.bfs_dups_add.proofs.scan.scan_chain.Given as goal

abbrev pub invariant-loop-seen : goal.invariant-loop-seen
invariant-loop-seen g l = record {
  some : 1 ≤ l.left;
  at : IsChild (g.P.Pages.size l.fn.pages) l.at;
  roomy_length : length l.roomy ≡ 1024;
  last_length : length l.last ≡ 1024;
  told : g.P.Pages.told l.pages ≡ g.P.Pages.told l.fn.pages;
  size : g.P.Pages.size l.pages ≡ g.P.Pages.size l.fn.pages;
  kept : Kept (g.P.Pages.counts l.fn.pages) (g.P.Pages.counts l.pages) (g.P.Pages.frame l.fn.pages) (g.P.Pages.frame l.pages) (g.P.Pages.goes_on l.fn.pages l.pages);
  roomy : l.room ≢ 0 → IsChild (g.P.Pages.size l.fn.pages) l.room × IsDuplicates l.roomy × (page_count l.roomy < 125) × (times l.number (page_numbers l.roomy) ≡ 0) × IfSome (g.P.Pages.told l.fn.pages) (λ b. l.roomy ≡ page_in b l.room);
  spare : (b : List ℕ) → g.P.Pages.told l.fn.pages ≡ Some b → (n : ℕ) → EndsAfter b n l.at → n < l.left;
  found : (b xs : List ℕ) → g.P.Pages.told l.fn.pages ≡ Some b → Chained b l.first xs → AreDuplicates b xs → IsScanned b xs l.number l.room l.at;
}

abbrev pub decreases-loop-seen : goal.decreases-loop-seen
decreases-loop-seen g l = l.left
