use Rattle.std.proofs.Common.{◌*◌, ◌/◌, ℕ, Option, ap, ◌∙◌, subst, arith}
use Rattle.std.proofs.Math.Logic.{∥∥₁_map}
use Rattle.bfs_disk.specs.Disk.{MayLeave}
use Rattle.bfs_base.proofs.Moments.{passed_then}
use Rattle.bfs_device.specs.Plain.{has_sectors}
use Rattle.bfs_check.specs.Slots.{AreKept}
use Rattle.bfs_check.proofs.ahead.AheadBlocksBlocks.get.Goals as goal

pub invariant_of-self-in-Ok-clause-same : goal.invariant_of-self-in-Ok-clause-same
invariant_of-self-in-Ok-clause-same g c = c.in-Ok.ensures.state ∙ c.args.self.now.same

pub invariant_of-self-in-Ok-clause-reads : goal.invariant_of-self-in-Ok-clause-reads
invariant_of-self-in-Ok-clause-reads g c =
    let u = c.args.self.now in
    ∥∥₁_map u.reads (λ reads. passed_then (MayLeave (g.D.Disk.state u.start.value)) reads c.in-Ok.ensures.time (λ image left. left) (λ image left. subst (λ st. MayLeave st image) u.same left))

pub invariant_of-self-in-Ok-clause-kept : goal.invariant_of-self-in-Ok-clause-kept
invariant_of-self-in-Ok-clause-kept g c = subst (λ st. AreKept st c.read_block.new.windows.tags c.read_block.new.windows.bytes.items) c.args.self.now.same c.in-Ok.ensures.kept

pub invariant_of-self-in-Err-1 : goal.invariant_of-self-in-Err-1
invariant_of-self-in-Err-1 g c =
    let u = c.args.self.now in
    let e = c.in-Err.ensures in
    record {
      fits = u.fits;
      even = u.even;
      parts = u.parts;
      small = u.small;
      on_disk = ap (λ (o : Option ℕ). has_sectors o (u.block_size / 512 * u.blocks)) e.size ∙ u.on_disk;
      same = e.state ∙ u.same;
      long = e.size ∙ u.long;
      risen = (let low = u.risen in let more = e.cause.later.faults in omega (arith, low, more));
      unstopped = e.cause.later.stops ∙ u.unstopped;
      reads = ∥∥₁_map u.reads (λ reads. passed_then (MayLeave (g.D.Disk.state u.start.value)) reads e.time (λ image left. left) (λ image left. subst (λ st. MayLeave st image) u.same left));
      kept = subst (λ st. AreKept st c.read_block.new.windows.tags c.read_block.new.windows.bytes.items) u.same e.kept;
    }
