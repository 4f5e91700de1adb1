use Rattle.std.proofs.Common.{arith, ◌+◌, ◌-◌}
use Rattle.std.proofs.lemmas.Slice.Eq.{slice_eq-Decides}
use Rattle.std.proofs.lemmas.Bool.Decides.{Decides-eqb}
use Rattle.bfs_bitmap.proofs.InBytes.{eight_at}
use Rattle.bfs_bitmap.proofs.bits.are_eight.Goals as goal

pub returns : goal.returns
returns c t = eight_at c.args.bytes.now c.args.at c.args.byte (c.args.at + 8 - c.args.at) (omega arith) ((slice_eq-Decides Decides-eqb _ _ c.eq.result c.eq.ensures).0 t)
