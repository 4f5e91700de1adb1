use Rattle.bfs_disk.specs.Disk.{HasSectors}
use Rattle.bfs_check.specs.Slots.{AreKept}
use Rattle.bfs_passes_tests.proofs.ahead_tests.right.Given as goal

abbrev pub invariant-loop-pair : goal.invariant-loop-pair
invariant-loop-pair g l = record {
  sectors : HasSectors (g.D.Disk.size l.disk) 160;
  kept : AreKept (g.D.Disk.state l.disk) l.windows.tags l.windows.bytes.items;
}
