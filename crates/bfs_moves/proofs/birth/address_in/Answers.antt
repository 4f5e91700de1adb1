use Rattle.std.proofs.Common.{ℕ, subst}
use Rattle.bfs_inode.specs.Refusals.{Names}
use Rattle.bfs_moves.proofs.birth.address_in.Goals as goal

pub returns : goal.returns
returns c = subst (λ (n : ℕ). Names c.address.result c.args.block n) c.shift_of.ensures.value c.address.ensures
