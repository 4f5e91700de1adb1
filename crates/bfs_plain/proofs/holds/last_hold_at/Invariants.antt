use Rattle.std.proofs.Common.{◌≡◌, ◌≤◌, false, drop, length}
use Rattle.std.specs.List.{list_any}
use Rattle.bfs_tree.specs.States.{is_hold_of}
use Rattle.bfs_plain.proofs.holds.last_hold_at.Given as goal

abbrev pub invariant-loop-at : goal.invariant-loop-at
invariant-loop-at l = (l.at ≤ length l.holds.items) × (list_any (is_hold_of l.session l.id) (drop l.at l.holds.items) ≡ false)

abbrev pub decreases-loop-at : goal.decreases-loop-at
decreases-loop-at l = l.at
