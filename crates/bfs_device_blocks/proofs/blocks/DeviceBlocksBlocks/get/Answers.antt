use Rattle.std.proofs.Common.{◌≤◌, ◌∙◌, sym, subst, arith}
use Rattle.std.proofs.Math.Logic.{∥∥₁_map}
use Rattle.bfs_super.specs.declared.sup.Super.{Super}
use Rattle.bfs_device_blocks.proofs.Going.{read_more, rested_twice, sized_rested}
use Rattle.bfs_device_blocks.proofs.blocks.DeviceBlocksBlocks.get.Goals as goal

pub invariant_of-self-2 : goal.invariant_of-self-2
invariant_of-self-2 g c =
    let u = c.args.self.now in
    let start = u.start.value in
    let mid = u.device.now in
    let new = c.block-result.new.self in
    let e = c.block-result.ensures in
    record {
      rests = rested_twice start.books mid.books new.books u.rests e.rests;
      same = e.state ∙ u.same;
      unstopped = e.stops ∙ u.unstopped;
      risen = omega (arith, u.risen, e.faults);
      waited = omega (arith, u.waited, e.disk_clock);
      fits = subst (λ (s : Super). s.block_size ≤ 8192) (sym e.sup) u.fits;
      sized = ∥∥₁_map u.sized (λ sized. sized_rested mid.books new.books (g.D.Disk.state mid.disk) (g.D.Disk.state new.disk) e.rests e.state sized);
      reads = ∥∥₁_map u.reads (λ reads. read_more start.books mid.books new.books (g.D.Disk.state start.disk) (g.D.Disk.state mid.disk) (g.D.Disk.state new.disk) (g.D.Disk.clock start.disk) (g.D.Disk.clock mid.disk) (g.D.Disk.clock new.disk)
          (g.D.Disk.since start.disk) (g.D.Disk.since mid.disk) (g.D.Disk.since new.disk) reads e.rests e.state e.moments e.moved);
    }
