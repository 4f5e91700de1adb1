use Rattle.std.proofs.Common.{arith}
use Rattle.bfs_bitmap.proofs.InBytes.{byte_filled}
use Rattle.bfs_bitmap.proofs.bits.fill_bits.Goals as goal

pub loop-at-preserved-then-to-at-ge8 : goal.loop-at-preserved-then-to-at-ge8
loop-at-preserved-then-to-at-ge8 c = (
  omega arith,
  omega arith,
  byte_filled c.args.from c.loop-at.at c.whole_byte.result c.args.used c.args.bytes.now c.loop-at.bytes (omega arith) c.if-at-eq0.true (omega arith) c.whole_byte.ensures c.loop-at.invariant.2,
)
