use Rattle.std.proofs.Common.{◌∙◌, subst}
use Rattle.std.proofs.Math.Logic.{∥∥₁_map}
use Rattle.bfs_disk.specs.Disk.{MayLeave}
use Rattle.bfs_base.proofs.Moments.{passed_one, passed_on}
use Rattle.bfs_device.proofs.disk_blocks.DiskBlocksBlocks.get.Goals as goal

pub invariant_of-self-in-Ok-clause-same : goal.invariant_of-self-in-Ok-clause-same
invariant_of-self-in-Ok-clause-same g c = c.in-Ok.ensures.state ∙ c.args.self.now.same

pub invariant_of-self-in-Ok-clause-reads : goal.invariant_of-self-in-Ok-clause-reads
invariant_of-self-in-Ok-clause-reads g c =
    let u = c.args.self.now in
    ∥∥₁_map u.reads (λ reads. passed_on reads (passed_one (MayLeave (g.D.Disk.state u.start.value)) c.in-Ok.ensures.time (λ image left. subst (λ st. MayLeave st image) u.same left)))

pub invariant_of-self-in-Err-clause-same : goal.invariant_of-self-in-Err-clause-same
invariant_of-self-in-Err-clause-same g c = c.in-Err.ensures.state ∙ c.args.self.now.same

pub invariant_of-self-in-Err-clause-reads : goal.invariant_of-self-in-Err-clause-reads
invariant_of-self-in-Err-clause-reads g c =
    let u = c.args.self.now in
    ∥∥₁_map u.reads (λ reads. passed_on reads (passed_one (MayLeave (g.D.Disk.state u.start.value)) c.in-Err.ensures.time (λ image left. subst (λ st. MayLeave st image) u.same left)))
