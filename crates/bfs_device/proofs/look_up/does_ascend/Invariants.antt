use Rattle.bfs_txn.specs.Changed.{AscendsIn}
use Rattle.bfs_device.proofs.look_up.does_ascend.Given as goal

abbrev pub invariant-loop-i : goal.invariant-loop-i
invariant-loop-i l = AscendsIn l.blocks 0 l.i
