use Rattle.bfs_bitmap.proofs.InBytes.{clear_test}
use Rattle.bfs_claims.proofs.bits.bit_is_clear.Goals as goal

pub returns : goal.returns
returns c = clear_test c.args.bytes.now c.args.i
