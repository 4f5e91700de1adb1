use Rattle.std.proofs.Common.{◌≡◌, ◌<◌, ℕ}
use Rattle.std.specs.Int.{bit_at}
use Rattle.bfs_values.specs.Values.{fragment_count}
use Rattle.bfs_value_walk.proofs.parts.are_named.Given as goal

abbrev pub invariant-loop-f : goal.invariant-loop-f
invariant-loop-f l = (f : ℕ) → f < l.f → 0 < fragment_count l.page f → bit_at l.word f ≡ 1
