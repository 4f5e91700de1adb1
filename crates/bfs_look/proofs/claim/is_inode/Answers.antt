use Rattle.std.proofs.Common.{ℕ, subst}
use Rattle.bfs_inode.specs.Refusals.{IsRefusal}
use Rattle.bfs_super.specs.Conditions.{natural}
use Rattle.bfs_look.proofs.Blocks.{block_is, not_refused}
use Rattle.bfs_look.proofs.claim.is_inode.Goals as goal

pub check-requires-clause-block : goal.check-requires-clause-block
check-requires-clause-block c = block_is c.args.sup c.requires.valid c.args.block.now c.requires.long

pub returns-in-Err : goal.returns-in-Err
returns-in-Err c inode =
    absurd (not_refused c.args.block.now c.args.id (natural c.args.sup.ag_shift) c.in-Err.field-0 (subst (λ (k : ℕ). IsRefusal c.args.block.now c.args.id k c.in-Err.field-0) c.shift_of.ensures.value c.in-Err.ensures.refused) inode)
