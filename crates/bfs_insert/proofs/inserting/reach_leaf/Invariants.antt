use Rattle.std.proofs.Common.{◌≤◌, ◌-◌}
use Rattle.bfs_pages.specs.Answers.{IsChild}
use Rattle.bfs_pages.specs.Writes.{Makes, Kept}
use Rattle.bfs_insert.specs.Puts.{IsWay}
use Rattle.bfs_insert.proofs.inserting.reach_leaf.Given as goal

abbrev pub invariant-loop-left : goal.invariant-loop-left
invariant-loop-left g l = record {
  some : 1 ≤ l.left;
  at : IsChild (g.P.Pages.size l.pages) l.at;
  way : Makes (g.P.Pages.told l.fn.pages) (g.P.Pages.told l.pages) (λ b c. IsWay l.kind b c l.key l.at (l.left - 1));
  kept : Kept (g.P.Pages.counts l.fn.pages) (g.P.Pages.counts l.pages) (g.P.Pages.frame l.fn.pages) (g.P.Pages.frame l.pages) (g.P.Pages.goes_on l.fn.pages l.pages);
}

abbrev pub decreases-loop-left : goal.decreases-loop-left
decreases-loop-left g l = l.left
