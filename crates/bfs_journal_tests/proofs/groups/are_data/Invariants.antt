use Rattle.std.proofs.Common.{ℕ, ◌<◌}
use Rattle.bfs_txn.specs.Changed.{number_at}
use Rattle.bfs_device.specs.Layouts.{IsData, layout_of}
use Rattle.bfs_journal_tests.proofs.groups.are_data.Given as goal

abbrev pub invariant-loop-i : goal.invariant-loop-i
invariant-loop-i l = (k : ℕ) → k < l.i → IsData (layout_of l.sup) (number_at l.blocks k)
