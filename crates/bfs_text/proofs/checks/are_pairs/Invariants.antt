use Rattle.std.proofs.Common.{◌≡◌, ◌≤◌, ◌-◌, drop, length}
use Rattle.std.specs.Option.{is_some}
use Rattle.bfs_text.specs.Words.{hex_bytes}
use Rattle.bfs_text.proofs.checks.are_pairs.Given as goal

abbrev pub invariant-loop-at : goal.invariant-loop-at
invariant-loop-at l = (l.at ≤ length l.word) × (is_some (hex_bytes l.word) ≡ is_some (hex_bytes (drop l.at l.word)))

abbrev pub decreases-loop-at : goal.decreases-loop-at
decreases-loop-at l = length l.word - l.at
