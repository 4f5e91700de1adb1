use Rattle.std.proofs.Common.{◌≡◌, length}
use Rattle.bfs_text.specs.Cutting.{cut_at}
use Rattle.bfs_text.specs.Words.{parts_of, before}
use Rattle.bfs_text.proofs.words.read_parts.Given as goal

abbrev pub invariant-loop-part : goal.invariant-loop-part
invariant-loop-part l = parts_of (cut_at 47 l.fn.bytes) ≡ before l.names.items (parts_of l.parts)

abbrev pub decreases-loop-part : goal.decreases-loop-part
decreases-loop-part l = length l.parts
