use Rattle.std.proofs.Common.{◌≡◌, ◌*◌, ◌/◌, ◌<◌, ◌≤◌, ◌^◌, ℕ, true, sym, ap, subst, arith}
use Rattle.bfs_base.specs.Moments.{Passed}
use Rattle.bfs_base.proofs.Moments.{passed_none}
use Rattle.bfs_disk.specs.Disk.{MayLeave}
use Rattle.bfs_super.specs.declared.geometry.Geometry.{Geometry}
use Rattle.bfs_super.specs.Conditions.{natural}
use Rattle.bfs_device.specs.Plain.{has_sectors}
use Rattle.bfs_device.proofs.Sizes.{sizes, volume_small}
use Rattle.bfs_device.proofs.PlainReads.{on_has}
use Rattle.bfs_check.proofs.Parts.{parts_of}
use Rattle.bfs_check.specs.Slots.{AreKept}
use Rattle.bfs_check.proofs.ahead.AheadBlocks.over.Goals as goal

pub invariant_of-result : goal.invariant_of-result
invariant_of-result g c =
    let s = c.args.sup.now in
    let disk = c.args.disk.now in
    let same : c.geometry-blocks.result.blocks ≡ natural s.num_blocks = ap (λ (x : Geometry). x.blocks) c.geometry-blocks.ensures in
    let low : s.block_size / 512 * natural s.num_blocks ≤ 67108864 = volume_small s c.requires.valid in
    let small : s.block_size / 512 * natural s.num_blocks < 2 ^ 63 = omega (arith, low) in
    record {
      fits = (sizes s c.requires.valid).2;
      even = (sizes s c.requires.valid).0;
      parts = parts_of s c.requires.valid;
      small = subst (λ (n : ℕ). s.block_size / 512 * n < 2 ^ 63) (sym same) small;
      on_disk = subst (λ (n : ℕ). has_sectors (g.D.Disk.size c.args.disk.now) (s.block_size / 512 * n) ≡ true) (sym same) (on_has s (g.D.Disk.size c.args.disk.now) c.requires.on_disk);
      same = ap g.D.Disk.state (sym c.of-start.ensures);
      long = ap g.D.Disk.size (sym c.of-start.ensures);
      risen = subst (λ (x : g.row.D.Denot). g.D.Disk.faults x ≤ g.D.Disk.faults disk) (sym c.of-start.ensures) (omega arith);
      unstopped = ap g.D.Disk.stops (sym c.of-start.ensures);
      reads = subst (λ (x : g.row.D.Denot). ∥ Passed (g.D.Disk.clock x) (g.D.Disk.clock disk) (g.D.Disk.since x) (g.D.Disk.since disk) (MayLeave (g.D.Disk.state x)) ∥₁) (sym c.of-start.ensures)
          ∣ passed_none (g.D.Disk.clock disk) (g.D.Disk.since disk) (MayLeave (g.D.Disk.state disk)) ∣₁;
      kept = subst (λ (x : g.row.D.Denot). AreKept (g.D.Disk.state x) c.args.windows.now.tags c.args.windows.now.bytes.items) (sym c.of-start.ensures) c.requires.kept;
    }
