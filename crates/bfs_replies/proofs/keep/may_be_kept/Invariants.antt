use Rattle.std.proofs.Common.{◌≤◌, ◌<◌, ℕ}
use Rattle.bfs_txn.specs.Changed.{number_at}
use Rattle.bfs_device.specs.Layouts.{IsData, layout_of}
use Rattle.bfs_replies.proofs.keep.may_be_kept.Given as goal

abbrev pub invariant-loop-i : goal.invariant-loop-i
invariant-loop-i g l = (j : ℕ) → l.mark ≤ j → j < l.i → IsData (layout_of l.sup) (number_at l.overlay.group.now j)
