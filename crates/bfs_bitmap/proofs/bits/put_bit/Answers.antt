use Rattle.std.proofs.Common.{cond}
use Rattle.bfs_bitmap.proofs.InBytes.{bit_put}
use Rattle.bfs_bitmap.proofs.bits.put_bit.Goals as goal

pub returns : goal.returns
returns c = bit_put c.args.bytes.now c.args.i c.with_bit.result (cond c.args.used 1 0) c.requires c.with_bit.ensures
