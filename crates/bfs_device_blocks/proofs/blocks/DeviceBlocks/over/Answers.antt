use Rattle.std.proofs.Common.{◌≡◌, refl, sym, subst, ◌≤◌, arith}
use Rattle.bfs_device.specs.Books.{View}
use Rattle.bfs_device.specs.Data.{IsRested}
use Rattle.bfs_device.proofs.Sizes.{sizes}
use Rattle.bfs_device_blocks.specs.Lent.{HasBeenRead}
use Rattle.bfs_device_blocks.proofs.Going.{read_none, told_sized}
use Rattle.bfs_device_blocks.proofs.blocks.DeviceBlocks.over.Goals as goal

pub invariant_of-result : goal.invariant_of-result
invariant_of-result g c =
    let d = c.args.device.now in
    record {
      rests = subst (λ (x : View g.row.D.Denot). IsRested x.books d.books) (sym c.of-start.ensures) refl;
      risen = subst (λ (x : View g.row.D.Denot). g.D.Disk.faults x.disk ≤ g.D.Disk.faults d.disk) (sym c.of-start.ensures) (omega arith);
      waited = subst (λ (x : View g.row.D.Denot). g.D.Disk.clock x.disk ≤ g.D.Disk.clock d.disk) (sym c.of-start.ensures) (omega arith);
      unstopped = subst (λ (x : View g.row.D.Denot). g.D.Disk.stops d.disk ≡ g.D.Disk.stops x.disk) (sym c.of-start.ensures) refl;
      same = subst (λ (x : View g.row.D.Denot). g.D.Disk.state d.disk ≡ g.D.Disk.state x.disk) (sym c.of-start.ensures) refl;
      fits = (sizes d.books.sup c.steady.ensures.steady.valid).2;
      sized = ∣ told_sized d.books (g.D.Disk.state d.disk) (g.D.Disk.size d.disk) c.steady.ensures.steady c.steady.ensures.on_disk (g.met.D.Disk.filled d.disk) (g.met.D.Disk.sized d.disk) ∣₁;
      reads = subst (λ (x : View g.row.D.Denot). ∥ HasBeenRead x.books d.books (g.D.Disk.state x.disk) (g.D.Disk.state d.disk) (g.D.Disk.clock x.disk) (g.D.Disk.clock d.disk) (g.D.Disk.since x.disk) (g.D.Disk.since d.disk) ∥₁) (sym c.of-start.ensures)
          ∣ read_none d.books (g.D.Disk.state d.disk) (g.D.Disk.clock d.disk) (g.D.Disk.since d.disk) c.durable-durable.ensures.recovers ∣₁;
    }
