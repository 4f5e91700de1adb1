use Rattle.std.proofs.Common.{arith}
use Rattle.bfs_claims.proofs.Setting.{eight_set}
use Rattle.bfs_claims.proofs.bits.set_bits.Goals as goal

pub loop-at-preserved-then-to-at-ge8 : goal.loop-at-preserved-then-to-at-ge8
loop-at-preserved-then-to-at-ge8 c = (
  omega arith,
  omega arith,
  eight_set c.args.from c.loop-at.at c.args.bytes.now c.loop-at.bytes (omega arith) c.if-at-eq0.true (omega arith) c.loop-at.invariant.2,
)
