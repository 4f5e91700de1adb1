use Rattle.std.proofs.Common.{◌≡◌, ◌≤◌, ◌-◌, ℕ, length, take, Some}
use Rattle.bfs_disk.specs.State.{State}
use Rattle.bfs_disk.specs.Blocks.{contents_of}
use Rattle.bfs_tree.specs.Histories.{Mounted, state_after}
use Rattle.bfs_device.specs.Layouts.{layout_of}
use Rattle.bfs_core.specs.Spaces.{SpaceView}
use Rattle.bfs_core.specs.Cores.{newest_map}
use Rattle.bfs_core.specs.Moments.{Adoption}
use Rattle.bfs_device_blocks.specs.Lent.{HasCore, IsBehindEntry}
use Rattle.bfs_pieces.specs.Pieces.{IsHeldPiece, IsPieceOf, IsUnknown}
use Rattle.bfs_pieces.specs.Parts.{KeepsOthers}
use Rattle.bfs_pieces.proofs.Spreading.{IsAt}
use Rattle.bfs_pieces.proofs.piece.write_piece.Given as goal

abbrev pub invariant-loop-done : goal.invariant-loop-done
invariant-loop-done g l = record {
  so : IsAt l.fn.device.books.sup.block_size l.skip (length l.from) l.index l.skipped l.done;
  buffer : length l.block ≡ l.fn.device.books.sup.block_size;
  written : (t0 : Mounted) (adopted : Adoption) (sp : SpaceView) (id at : ℕ) → HasCore t0 adopted sp l.fn.device.books (g.D.Disk.state l.fn.device.disk) (g.D.Disk.clock l.fn.device.disk) (g.D.Disk.since l.fn.device.disk)
      → IsBehindEntry adopted sp → ((st : State) → g.D.Disk.state l.fn.device.disk ≡ Some st → IsHeldPiece t0 sp (newest_map l.fn.device.books st) id at (length l.from) l.skip l.places) → IsUnknown (state_after t0 sp.history).known id at (length l.from)
      → HasCore t0 adopted sp l.device.books (g.D.Disk.state l.device.disk) (g.D.Disk.clock l.device.disk) (g.D.Disk.since l.device.disk)
      × ((next : State) → g.D.Disk.state l.device.disk ≡ Some next → IsHeldPiece t0 sp (newest_map l.device.books next) id at (length l.from) l.skip l.places
      × IsPieceOf (contents_of next (layout_of l.fn.device.books.sup).sectors) l.fn.device.books.sup.block_size l.places l.skip (take l.done l.from));
  others : KeepsOthers (layout_of l.fn.device.books.sup).sectors l.places (g.D.Disk.state l.fn.device.disk) (g.D.Disk.state l.device.disk);
  unmoved : l.done ≡ 0 → l.device ≡ l.fn.device;
  rest : l.device.books ≡ record l.fn.device.books { moment = l.device.books.moment; stop = l.fn.device.books.stop };
  size : g.D.Disk.size l.device.disk ≡ g.D.Disk.size l.fn.device.disk;
  faults : g.D.Disk.faults l.fn.device.disk ≤ g.D.Disk.faults l.device.disk;
  disk_clock : g.D.Disk.clock l.fn.device.disk ≤ g.D.Disk.clock l.device.disk;
  stops : g.D.Disk.stops l.fn.device.disk ≤ g.D.Disk.stops l.device.disk;
}

abbrev pub decreases-loop-done : goal.decreases-loop-done
decreases-loop-done g l = length l.from - l.done
