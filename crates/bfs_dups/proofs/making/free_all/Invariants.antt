use Rattle.std.proofs.Common.{◌≡◌, ◌<◌, ℕ, length}
use Rattle.bfs_values.specs.Values.{fragment_count}
use Rattle.bfs_dups.proofs.making.free_all.Given as goal

abbrev pub invariant-loop-i : goal.invariant-loop-i
invariant-loop-i l = record {
  length : length l.page ≡ 1024;
  free : (j : ℕ) → j < l.i → fragment_count l.page j ≡ 0;
}
