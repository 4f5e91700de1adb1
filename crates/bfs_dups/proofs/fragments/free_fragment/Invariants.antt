use Rattle.std.proofs.Common.{◌≤◌, ◌<◌, ℕ}
use Rattle.bfs_values.specs.Values.{fragment_count}
use Rattle.bfs_dups.proofs.fragments.free_fragment.Given as goal

abbrev pub invariant-loop-i : goal.invariant-loop-i
invariant-loop-i l = (j : ℕ) → j < l.i → 1 ≤ fragment_count l.page j
