use Rattle.bfs_bitmap.proofs.InBytes.{bit_put}
use Rattle.bfs_claims.proofs.bits.set_bit.Goals as goal

pub returns : goal.returns
returns c = bit_put c.args.bytes.now c.args.i c.with_bit.result 1 c.requires c.with_bit.ensures
