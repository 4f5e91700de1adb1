use Rattle.std.proofs.Common.{rules, ◌≡◌, ◌∙◌, w64, to_z, of_z}
use Rattle.bfs_bytes.specs.Fields.{run_in}
use Rattle.bfs_inode.specs.Refusals.{number_of}
use Rattle.bfs_super.specs.Conditions.{natural}
use Rattle.bfs_look.proofs.Claiming.{number_read}
use Rattle.bfs_look.proofs.claim.parent_in.Goals as goal

pub returns : goal.returns
returns c n names =
    let z = c.number_of-number.result in
    let number : z ≡ number_of (run_in c.args.block.now 44) (natural c.args.sup.ag_shift) = search rules in
    let same : to_z w64 (of_z w64 z) ≡ z = search rules in
    number_read (to_z w64 (of_z w64 z)) c.natural_of.result n c.natural_of.ensures.some c.natural_of.ensures.none (same ∙ number ∙ names.block)
