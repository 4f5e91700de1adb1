use Rattle.std.proofs.Common.{arith}
use Rattle.bfs_bitmap.proofs.Covered.{covered_more, covered_all}
use Rattle.bfs_bitmap.proofs.reserved.cover.Goals as goal

pub loop-i-preserved : goal.loop-i-preserved
loop-i-preserved c = covered_more c.args.at c.loop-i.i c.either.result c.args.bytes.now c.loop-i.bytes c.args.over.now (omega arith) c.either.ensures c.loop-i.invariant

pub returns : goal.returns
returns c = covered_all c.args.at c.loop-i.i c.args.bytes.now c.loop-i.bytes c.args.over.now (omega arith) c.loop-i.invariant
