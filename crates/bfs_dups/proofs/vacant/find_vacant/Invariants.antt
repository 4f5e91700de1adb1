use Rattle.std.proofs.Common.{◌≡◌, length, IfSome}
use Rattle.bfs_pages.specs.Writes.{Kept}
use Rattle.bfs_dups.proofs.Crowding.{FullBefore}
use Rattle.bfs_dups.proofs.vacant.find_vacant.Given as goal

abbrev pub invariant-loop-i : goal.invariant-loop-i
invariant-loop-i g l = record {
  length : length l.page ≡ 1024;
  told : g.P.Pages.told l.pages ≡ g.P.Pages.told l.fn.pages;
  size : g.P.Pages.size l.pages ≡ g.P.Pages.size l.fn.pages;
  kept : Kept (g.P.Pages.counts l.fn.pages) (g.P.Pages.counts l.pages) (g.P.Pages.frame l.fn.pages) (g.P.Pages.frame l.pages) (g.P.Pages.goes_on l.fn.pages l.pages);
  crowded : IfSome (g.P.Pages.told l.fn.pages) (λ b. FullBefore b l.leaf l.i);
}
