use Rattle.std.proofs.Common.{◌≡◌, ◌≤◌, ℕ, Some, take}
use Rattle.bfs_tree.specs.Histories.{Mounted}
use Rattle.bfs_device_blocks.specs.Lent.{HasCore}
use Rattle.bfs_core.specs.Moments.{Adoption}
use Rattle.bfs_command.specs.Spelled.{Spelled}
use Rattle.bfs_volume.specs.Stamps.{HasDrawn}
use Rattle.bfs_volume.specs.Failing.{HasFailures}
use Rattle.bfs_run.proofs.lines.run_script.Given as goal

abbrev pub invariant-lines : goal.invariant-lines
invariant-lines g l = record {
  spelled : Spelled l.root l.volume.space.view.history (take l.at l.script);
  core : (t0 : Mounted) (adopted : Adoption) → HasCore t0 adopted l.fn.volume.space.view l.fn.volume.device.books (g.D.Disk.state l.fn.volume.device.disk) (g.D.Disk.clock l.fn.volume.device.disk) (g.D.Disk.since l.fn.volume.device.disk)
      → HasCore t0 adopted l.volume.space.view l.volume.device.books (g.D.Disk.state l.volume.device.disk) (g.D.Disk.clock l.volume.device.disk) (g.D.Disk.since l.volume.device.disk);
  clock : g.C.Clock.stands l.volume.clock ≡ g.C.Clock.stands l.fn.volume.clock;
  stamps : (s : ℕ) → g.C.Clock.stands l.fn.volume.clock ≡ Some s → HasDrawn l.fn.volume.space.view.history l.volume.space.view.history s;
  later : g.D.Disk.faults l.fn.volume.device.disk ≤ g.D.Disk.faults l.volume.device.disk;
  disk_clock : g.D.Disk.clock l.fn.volume.device.disk ≤ g.D.Disk.clock l.volume.device.disk;
  failures : HasFailures l.fn.volume.space.view.history l.volume.space.view.history l.fn.volume.device.books.stop l.volume.device.books.stop (g.D.Disk.faults l.fn.volume.device.disk) (g.D.Disk.faults l.volume.device.disk) (g.D.Disk.stops l.fn.volume.device.disk) (g.D.Disk.stops l.volume.device.disk);
}
