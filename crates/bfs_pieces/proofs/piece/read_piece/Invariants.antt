use Rattle.std.proofs.Common.{◌≡◌, ◌≤◌, ◌-◌, length, take, Some}
use Rattle.bfs_disk.specs.State.{State}
use Rattle.bfs_disk.specs.Blocks.{contents_of}
use Rattle.bfs_tree.specs.Histories.{Mounted}
use Rattle.bfs_device.specs.Layouts.{layout_of}
use Rattle.bfs_device.specs.Data.{IsRested}
use Rattle.bfs_core.specs.Spaces.{SpaceView}
use Rattle.bfs_core.specs.Moments.{Adoption}
use Rattle.bfs_device_blocks.specs.Lent.{HasCore}
use Rattle.bfs_pieces.specs.Pieces.{IsPieceOf}
use Rattle.bfs_pieces.proofs.Spreading.{IsAt}
use Rattle.bfs_pieces.proofs.piece.read_piece.Given as goal

abbrev pub invariant-loop-done : goal.invariant-loop-done
invariant-loop-done g l = record {
  so : IsAt l.fn.device.books.sup.block_size l.skip (length l.fn.into) l.index l.from l.done;
  long : length l.into ≡ length l.fn.into;
  buffer : length l.block ≡ l.fn.device.books.sup.block_size;
  bytes : (st : State) → g.D.Disk.state l.fn.device.disk ≡ Some st → IsPieceOf (contents_of st (layout_of l.fn.device.books.sup).sectors) l.fn.device.books.sup.block_size l.places l.skip (take l.done l.into);
  unmoved : l.done ≡ 0 → l.device ≡ l.fn.device;
  rests : IsRested l.fn.device.books l.device.books;
  state : g.D.Disk.state l.device.disk ≡ g.D.Disk.state l.fn.device.disk;
  size : g.D.Disk.size l.device.disk ≡ g.D.Disk.size l.fn.device.disk;
  core : (t0 : Mounted) (adopted : Adoption) (sp : SpaceView) → HasCore t0 adopted sp l.fn.device.books (g.D.Disk.state l.fn.device.disk) (g.D.Disk.clock l.fn.device.disk) (g.D.Disk.since l.fn.device.disk)
      → HasCore t0 adopted sp l.device.books (g.D.Disk.state l.device.disk) (g.D.Disk.clock l.device.disk) (g.D.Disk.since l.device.disk);
  faults : g.D.Disk.faults l.fn.device.disk ≤ g.D.Disk.faults l.device.disk;
  disk_clock : g.D.Disk.clock l.fn.device.disk ≤ g.D.Disk.clock l.device.disk;
  stops : g.D.Disk.stops l.device.disk ≡ g.D.Disk.stops l.fn.device.disk;
}

abbrev pub decreases-loop-done : goal.decreases-loop-done
decreases-loop-done g l = length l.into - l.done
