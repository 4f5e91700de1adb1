use Rattle.std.proofs.Common.{◌≡◌, ◌≤◌, ◌-◌, drop, length}
use Rattle.bfs_text.specs.Words.{hex_bytes, before}
use Rattle.bfs_text.proofs.escapes.read_pairs.Given as goal

abbrev pub invariant-loop-at : goal.invariant-loop-at
invariant-loop-at l = (l.at ≤ length l.word) × (hex_bytes l.word ≡ before l.bytes.items (hex_bytes (drop l.at l.word)))

abbrev pub decreases-loop-at : goal.decreases-loop-at
decreases-loop-at l = length l.word - l.at
