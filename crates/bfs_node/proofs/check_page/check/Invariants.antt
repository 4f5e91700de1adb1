use Rattle.std.proofs.Common.{◌≡◌, ◌<◌, ℕ}
use Rattle.bfs_node.specs.Page.{start_at, HasEnd}
use Rattle.bfs_node.proofs.check_page.check.Given as goal

abbrev pub invariant-loop-j : goal.invariant-loop-j
invariant-loop-j l = record {
  start : l.start ≡ start_at l.page l.j;
  ends : (i : ℕ) → i < l.j → HasEnd l.fn.kind l.page i;
}
