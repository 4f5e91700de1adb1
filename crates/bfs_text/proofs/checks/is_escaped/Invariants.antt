use Rattle.std.proofs.Common.{◌≡◌, ◌≤◌, ◌-◌, drop, length}
use Rattle.std.specs.Option.{is_some}
use Rattle.bfs_text.specs.Words.{unescaped}
use Rattle.bfs_text.proofs.checks.is_escaped.Given as goal

abbrev pub invariant-loop-at : goal.invariant-loop-at
invariant-loop-at l = (l.at ≤ length l.word) × (is_some (unescaped l.word) ≡ is_some (unescaped (drop l.at l.word)))

abbrev pub decreases-loop-at : goal.decreases-loop-at
decreases-loop-at l = length l.word - l.at
