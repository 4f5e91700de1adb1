use Rattle.std.proofs.Common.{◌<◌}
use Rattle.bfs_tree.specs.Histories.{Mounted}
use Rattle.bfs_device_blocks.specs.Lent.{HasCore}
use Rattle.bfs_core.specs.Moments.{Adoption}
use Rattle.bfs_volume_tests.proofs.volume_tests.by_events.Given as goal

abbrev pub invariant-loop-i : goal.invariant-loop-i
invariant-loop-i g l = record {
  few : l.made < 128;
  core : (t0 : Mounted) (adopted : Adoption) → HasCore t0 adopted l.fn.volume.space.view l.fn.volume.device.books (g.D.Disk.state l.fn.volume.device.disk) (g.D.Disk.clock l.fn.volume.device.disk) (g.D.Disk.since l.fn.volume.device.disk)
      → HasCore t0 adopted l.volume.space.view l.volume.device.books (g.D.Disk.state l.volume.device.disk) (g.D.Disk.clock l.volume.device.disk) (g.D.Disk.since l.volume.device.disk);
}
