-- A piece of a file over a device: where its bytes are, and why a read or a write of it fails.
use Rattle.std.specs.Prelude.{◌≡◌, ◌≤◌, ◌<◌, ◌+◌, ◌*◌, ◌/◌, ◌%◌, ℕ, List, length, Option, Some, None, IsTrue, slice_get, slice_index, is_some}
use Rattle.std.specs.FinMap.{get}
use Rattle.bfs_base.specs.Counts.{Rose}
use Rattle.bfs_tree.specs.States.{Known}
use Rattle.bfs_tree.specs.Trees.{Node, IsNode, is_file}
use Rattle.bfs_tree.specs.Histories.{Mounted, after}
use Rattle.bfs_sound.specs.Inodes.{stream_blocks}
use Rattle.bfs_device.specs.declared.journal.Stop.{Stop}
use Rattle.bfs_device.specs.declared.journal.DeviceFault.{DeviceFault}
use Rattle.bfs_device.specs.declared.journal.DeviceFault.TheVariants.{Disk, Stopped}
use Rattle.bfs_core.specs.Spaces.{SpaceView, face}

-- Byte k of the piece is in the blocks, skip bytes behind their start.
abbrev pub IsPieceOf : (ℕ → List ℕ) → ℕ → List ℕ → ℕ → List ℕ → Type 0
IsPieceOf contents size places skip bytes = (k : ℕ) → k < length bytes → slice_get (contents (slice_index places ((skip + k) / size))) ((skip + k) % size) ≡ Some (slice_index bytes k)

-- A piece of a regular file lies below its size, and these are the blocks of the file's stream that have it, from the one in which
-- it begins: skip bytes behind that block's start.
pub record IsHeldPiece (t0 : Mounted) (sp : SpaceView) (m : ℕ → Option (List ℕ)) (id at count skip : ℕ) (places : List ℕ) : Type 0 where
  pub node : Node
  pub there : IsNode (after t0 sp.history) id node
  pub file : IsTrue (is_file node.kind)
  pub within : at + count ≤ node.size
  pub places_are : (i : ℕ) → i < length places → slice_get (stream_blocks (face sp m) id) (at / sp.sup.block_size + i) ≡ Some (slice_index places i)
  pub skip_is : skip ≡ at % sp.sup.block_size
  pub covers : skip + count ≤ sp.sup.block_size * length places

-- no byte of the piece is known
abbrev pub IsUnknown : Known → ℕ → ℕ → ℕ → Type 0
IsUnknown known id at count = (k : ℕ) → k < count → get known (id, at + k) ≡ None

-- A fault of a piece and its cause: a disk call failed in it, while the device went on, so that the count of faults rose between
-- its begin and its end; or the device had stopped before the piece.
abbrev pub HasPieceCause : Option Stop → ℕ → ℕ → DeviceFault → Type 0
HasPieceCause stop old_faults faults (Disk before after stops) = (stop ≡ None) × (old_faults ≤ before) × Rose before after × (after ≤ faults)
HasPieceCause stop old_faults faults (Stopped durable count) = stop ≡ Some (record { durable = durable; faults = count })

-- where a disk call failed, the fault tells whether the device has stopped
abbrev pub TellsStop : Option Stop → DeviceFault → Type 0
TellsStop stop (Disk before after stops) = stops ≡ is_some stop
TellsStop stop (Stopped durable count) = Unit {0}

-- where a write of the piece has stopped the device, the stop has the count of faults after it, as the fault does, and the count of stops rose
abbrev pub HasHalted : Option Stop → ℕ → ℕ → DeviceFault → Type 0
HasHalted stop old_stops stops (Disk before after stopped) = (s : Stop) → stop ≡ Some s → (s.faults ≡ after) × Rose old_stops stops
HasHalted stop old_stops stops (Stopped durable count) = Unit {0}
