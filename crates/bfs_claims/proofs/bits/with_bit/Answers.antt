use Rattle.bfs_bitmap.proofs.InBytes.{with_set}
use Rattle.bfs_claims.proofs.bits.with_bit.Goals as goal

pub returns : goal.returns
returns c j h = with_set c.args.byte c.args.bit j c.requires h
