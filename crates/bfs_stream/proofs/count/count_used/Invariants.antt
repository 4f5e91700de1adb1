use Rattle.bfs_inode.specs.Inode.{runs_in}
use Rattle.bfs_stream.proofs.Counts.{AreUsed}
use Rattle.bfs_stream.proofs.count.count_used.Given as goal

abbrev pub invariant-loop-i : goal.invariant-loop-i
invariant-loop-i l = AreUsed (runs_in l.runs l.bytes l.at) l.i
