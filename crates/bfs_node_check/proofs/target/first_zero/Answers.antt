use Rattle.std.proofs.Common.{arith, length}
use Rattle.bfs_node_check.proofs.Targets.{before_zero}
use Rattle.bfs_node_check.proofs.target.first_zero.Goals as goal

pub returns-then-part-i-eq0 : goal.returns-then-part-i-eq0
returns-then-part-i-eq0 c = before_zero c.args.part.now c.loop-i.i (omega arith) c.loop-i.invariant (λ lt. c.if-part-i-eq0.true)

pub returns : goal.returns
returns c = before_zero c.args.part.now (length c.args.part.now) (omega arith) (λ k lt. c.loop-i.invariant k (omega arith)) (λ lt. absurd (omega arith))
