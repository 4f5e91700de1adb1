use Rattle.std.proofs.Common.{◌≡◌, ◌+◌, ◌≤◌, ℕ, Some}
use Rattle.bfs_tree.specs.Histories.{Mounted}
use Rattle.bfs_device_blocks.specs.Lent.{HasCore}
use Rattle.bfs_core.specs.Moments.{Adoption}
use Rattle.bfs_command.specs.Forms.{InForm}
use Rattle.bfs_command.specs.Left.{most_left}
use Rattle.bfs_volume.specs.Stamps.{HasDrawn}
use Rattle.bfs_volume.specs.Failing.{HasFailures}
use Rattle.bfs_run.specs.Scripts.{HasGone}
use Rattle.bfs_run.proofs.line.run_line.Given as goal

abbrev pub invariant-turns : goal.invariant-turns
invariant-turns g l = record {
  form : InForm l.calls.command;
  gone : HasGone l.line l.initial.calls l.calls l.fn.volume.space.view.history l.volume.space.view.history;
  core : (t0 : Mounted) (adopted : Adoption) → HasCore t0 adopted l.fn.volume.space.view l.fn.volume.device.books (g.D.Disk.state l.fn.volume.device.disk) (g.D.Disk.clock l.fn.volume.device.disk) (g.D.Disk.since l.fn.volume.device.disk)
      → HasCore t0 adopted l.volume.space.view l.volume.device.books (g.D.Disk.state l.volume.device.disk) (g.D.Disk.clock l.volume.device.disk) (g.D.Disk.since l.volume.device.disk);
  clock : g.C.Clock.stands l.volume.clock ≡ g.C.Clock.stands l.fn.volume.clock;
  stamps : (s : ℕ) → g.C.Clock.stands l.fn.volume.clock ≡ Some s → HasDrawn l.fn.volume.space.view.history l.volume.space.view.history s;
  later : g.D.Disk.faults l.fn.volume.device.disk ≤ g.D.Disk.faults l.volume.device.disk;
  disk_clock : g.D.Disk.clock l.fn.volume.device.disk ≤ g.D.Disk.clock l.volume.device.disk;
  failures : HasFailures l.fn.volume.space.view.history l.volume.space.view.history l.fn.volume.device.books.stop l.volume.device.books.stop (g.D.Disk.faults l.fn.volume.device.disk) (g.D.Disk.faults l.volume.device.disk) (g.D.Disk.stops l.fn.volume.device.disk) (g.D.Disk.stops l.volume.device.disk);
}

abbrev pub decreases-turns : goal.decreases-turns
decreases-turns g l = most_left l.calls + l.holds
