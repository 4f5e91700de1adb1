use Rattle.std.proofs.Common.{◌≡◌, ◌≤◌}
use Rattle.bfs_tree.specs.Histories.{Mounted}
use Rattle.bfs_device.specs.Books.{durable_of, sealed_of}
use Rattle.bfs_device.specs.Steps.{calls_left}
use Rattle.bfs_device_blocks.specs.Lent.{HasCore}
use Rattle.bfs_core.specs.Moments.{Adoption}
use Rattle.bfs_commit.specs.Open.{IsOpen, OpenView}
use Rattle.bfs_commit.specs.Volumes.{AreJoined}
use Rattle.bfs_commit.specs.Failing.{KeepsCounts}
use Rattle.bfs_commit.proofs.settling.flush.Given as goal

abbrev pub invariant-loop-fault : goal.invariant-loop-fault
invariant-loop-fault g l = record {
  upto : l.upto ≤ sealed_of l.device.books;
  joined : AreJoined l.space l.device.books (g.D.Disk.state l.device.disk);
  history : l.space.view.history ≡ l.fn.space.view.history;
  promised : l.space.promised ≡ l.fn.space.promised;
  stop : l.device.books.stop ≡ l.fn.device.books.stop;
  faults : g.D.Disk.faults l.fn.device.disk ≤ g.D.Disk.faults l.device.disk;
  disk_clock : g.D.Disk.clock l.fn.device.disk ≤ g.D.Disk.clock l.device.disk;
  spare : l.device.books.spare ≡ l.fn.device.books.spare;
  sealed : sealed_of l.device.books ≡ sealed_of l.fn.device.books;
  durable : durable_of l.fn.device.books ≤ durable_of l.device.books;
  counts : KeepsCounts l.fn.device.books.stop l.device.books.stop (g.D.Disk.faults l.fn.device.disk) (g.D.Disk.faults l.device.disk) (g.D.Disk.stops l.fn.device.disk) (g.D.Disk.stops l.device.disk);
  kept : (p : OpenView) → IsOpen p l.fn.space.view l.fn.device.books (g.D.Disk.state l.fn.device.disk) → IsOpen p l.space.view l.device.books (g.D.Disk.state l.device.disk);
  core : (t0 : Mounted) (adopted : Adoption) → HasCore t0 adopted l.fn.space.view l.fn.device.books (g.D.Disk.state l.fn.device.disk) (g.D.Disk.clock l.fn.device.disk) (g.D.Disk.since l.fn.device.disk)
      → HasCore t0 adopted l.space.view l.device.books (g.D.Disk.state l.device.disk) (g.D.Disk.clock l.device.disk) (g.D.Disk.since l.device.disk);
}

abbrev pub decreases-loop-fault : goal.decreases-loop-fault
decreases-loop-fault g l = calls_left l.device.books
