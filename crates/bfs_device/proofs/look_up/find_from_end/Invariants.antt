use Rattle.std.proofs.Common.{◌≡◌, ◌≤◌, drop, length, None}
use Rattle.bfs_txn.specs.Changed.{newest}
use Rattle.bfs_device.proofs.look_up.find_from_end.Given as goal

abbrev pub invariant-loop-i : goal.invariant-loop-i
invariant-loop-i l = (l.i ≤ length l.blocks) × (newest (drop l.i l.blocks) l.block ≡ None)

abbrev pub decreases-loop-i : goal.decreases-loop-i
decreases-loop-i l = l.i
