use Rattle.std.proofs.Common.{arith}
use Rattle.bfs_bitmap_check.proofs.Comparing.{eight_same}
use Rattle.bfs_bitmap_check.proofs.difference.first_difference.Goals as goal

pub loop-at-preserved-then-bytes-at : goal.loop-at-preserved-then-bytes-at
loop-at-preserved-then-bytes-at c = (omega arith, eight_same c.args.bytes.now c.args.bits.now c.loop-at.at c.if-at-eq0.true c.if-bytes-at.true c.loop-at.invariant.1)
