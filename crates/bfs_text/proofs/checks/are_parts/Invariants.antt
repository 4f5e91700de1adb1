use Rattle.std.proofs.Common.{◌≡◌, ◌≤◌, ◌-◌, drop, length}
use Rattle.std.specs.Option.{is_some}
use Rattle.bfs_text.specs.Cutting.{cut_at}
use Rattle.bfs_text.specs.Words.{parts_of}
use Rattle.bfs_text.specs.Skips.{is_path_left}
use Rattle.bfs_text.proofs.checks.are_parts.Given as goal

abbrev pub invariant-loop-at : goal.invariant-loop-at
invariant-loop-at l = (l.at ≤ length l.bytes) × (is_some (parts_of (cut_at 47 l.bytes)) ≡ is_path_left l.fresh (drop l.at l.bytes))

abbrev pub decreases-loop-at : goal.decreases-loop-at
decreases-loop-at l = length l.bytes - l.at
