use Rattle.std.proofs.Common.{refl}
use Rattle.bfs_claims.proofs.Claiming.{none_claimed, none_kept, none_members}
use Rattle.bfs_claims.proofs.claims.Claims.new.Goals as goal

pub invariant_of-result : goal.invariant_of-result
invariant_of-result c = none_kept c.in_ok-bits.bits.items c.args.blocks _ c.in_ok-bits.ensures c.requires.few refl

pub returns-clause-none : goal.returns-clause-none
returns-clause-none c = none_claimed c.in_ok-bits.bits.items c.args.blocks _ c.in_ok-bits.ensures

pub returns-clause-claimed : goal.returns-clause-claimed
returns-clause-claimed c = none_members c.in_ok-bits.bits.items c.args.blocks _ c.in_ok-bits.ensures
