use Rattle.std.proofs.Common.{◌≡◌, ◌≤◌, ◌-◌, drop, length}
use Rattle.bfs_text.specs.Words.{unescaped, before}
use Rattle.bfs_text.proofs.escapes.read_escaped.Given as goal

abbrev pub invariant-loop-at : goal.invariant-loop-at
invariant-loop-at l = (l.at ≤ length l.word) × (unescaped l.word ≡ before l.bytes.items (unescaped (drop l.at l.word)))

abbrev pub decreases-loop-at : goal.decreases-loop-at
decreases-loop-at l = length l.word - l.at
