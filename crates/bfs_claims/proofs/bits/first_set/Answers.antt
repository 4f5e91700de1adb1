use Rattle.std.proofs.Common.{arith}
use Rattle.bfs_claims.proofs.Setting.{with_eight}
use Rattle.bfs_claims.proofs.bits.first_set.Goals as goal

pub loop-at-preserved-then-bytes-at-eq0 : goal.loop-at-preserved-then-bytes-at-eq0
loop-at-preserved-then-bytes-at-eq0 c = (
  omega arith,
  omega arith,
  with_eight c.args.bytes.now c.args.from c.loop-at.at c.if-at-eq0.true c.if-bytes-at-eq0.true c.loop-at.invariant.2,
)
