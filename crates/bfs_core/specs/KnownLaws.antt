-- What is true of known bytes: one law for each event, and that a file's block may be written.
use Rattle.std.specs.Prelude.{◌*◌, length, ◌≡◌, ℕ, List, Bool, Some, IsTrue, slice_get}
use Rattle.bfs_disk.specs.State.{State, Holds, Filled, IsHalfWritten, written}
use Rattle.bfs_disk.specs.Blocks.{contents_of}
use Rattle.bfs_txn.specs.declared.group.Group.{Group}
use Rattle.bfs_tree.specs.declared.reply.Entry.{Entry}
use Rattle.bfs_tree.specs.Trees.{Node, IsNode, is_file}
use Rattle.bfs_tree.specs.Histories.{Mounted, after}
use Rattle.bfs_log.specs.Replay.{super_of}
use Rattle.bfs_sound.specs.Inodes.{stream_blocks}
use Rattle.bfs_sound.specs.Whole.{IsWhole}
use Rattle.bfs_device.specs.Layouts.{layout_of}
use Rattle.bfs_device.specs.Books.{Books, AreSame, IsOnDisk}
use Rattle.bfs_device.specs.Seals.{adopted, sealed_with}
use Rattle.bfs_device.specs.Data.{AreSameBut}
use Rattle.bfs_device.specs.Ahead.{IsSteady, GoesOn}
use Rattle.bfs_core.specs.Spaces.{SpaceView, Entered, IsFaceData, IsGroupFor, face, opened, sealed_space, released_space}
use Rattle.bfs_core.specs.Cores.{Core, newest_map}
use Rattle.bfs_core.specs.KnownBytes.{HasKnown, HasBytesOf, HasKnownIn, KeepsFiles}

-- a block of a regular file's stream is file data in Face
abbrev pub FileIsData : Type 0
FileIsData = (t0 : Mounted) (sp : SpaceView) (b : Books) (t : ℕ → Bool) (st : State) (id : ℕ) (n : Node) (at block : ℕ) → Core t0 sp b t st → IsNode (after t0 sp.history) id n → IsTrue (is_file n.kind)
    → slice_get (stream_blocks (face sp (newest_map b st)) id) at ≡ Some block → IsFaceData t0 sp (newest_map b st) block

-- a mount
abbrev pub KnownIsOpened : Type 0
KnownIsOpened = (t0 : Mounted) (image : List ℕ) (st : State) → IsWhole image t0.tree → Holds image st → Filled st → IsOnDisk (Some st.size) (super_of image) → HasBytesOf image t0
    → HasKnown t0 (opened (super_of image)) (adopted (super_of image)) st

-- a call of the device that goes on: a step, a read, or room
abbrev pub KnownGoesOn : Type 0
KnownGoesOn = (t0 : Mounted) (sp : SpaceView) (b new : Books) (t : ℕ → Bool) (st next : State) → Core t0 sp b t st → IsSteady new → GoesOn b new → AreSame b st new next → HasKnown t0 sp b st → HasKnown t0 sp new next

-- a call of the space, or a note, that appends an entry
abbrev pub KnownIsEntered : Type 0
KnownIsEntered = (t0 : Mounted) (sp new : SpaceView) (b : Books) (st : State) (e : Entry) → Entered t0 sp new (newest_map b st) e → KeepsFiles t0 sp new (newest_map b st) (contents_of st (layout_of b.sup).sectors)
    → HasKnown t0 sp b st → HasKnown t0 new b st

-- a release of what has left, and a seal
abbrev pub KnownIsReleased : Type 0
KnownIsReleased = (t0 : Mounted) (sp : SpaceView) (b : Books) (st : State) (n : ℕ) → HasKnown t0 sp b st → HasKnown t0 (released_space n sp) b st

abbrev pub KnownIsSealed : Type 0
KnownIsSealed = (t0 : Mounted) (sp : SpaceView) (b : Books) (t : ℕ → Bool) (st : State) (g : Group) → Core t0 sp b t st → IsGroupFor sp g → HasKnown t0 sp b st → HasKnown t0 (sealed_space sp) (sealed_with b g) st

-- a data write at a block that is file data, after which that block has the known bytes of its places
abbrev pub KnownIsWritten : Type 0
KnownIsWritten = (t0 : Mounted) (sp : SpaceView) (b new : Books) (t : ℕ → Bool) (st next : State) (block : ℕ) → Core t0 sp b t st → IsFaceData t0 sp (newest_map b st) block
    → new ≡ record b { moment = new.moment; stop = new.stop } → AreSameBut block b st new next → HasKnownIn t0 sp (newest_map b st) block (contents_of next (layout_of b.sup).sectors block)
    → HasKnown t0 sp b st → HasKnown t0 sp new next

-- Such a write, where what is written has the known bytes of the block's places too: each sector is old or new after it, as a
-- failed write leaves it, and so the block has them.
abbrev pub KnownIsHalfWritten : Type 0
KnownIsHalfWritten = (t0 : Mounted) (sp : SpaceView) (b : Books) (t : ℕ → Bool) (st next : State) (block : ℕ) (bytes : List ℕ) → Core t0 sp b t st → IsFaceData t0 sp (newest_map b st) block → Filled st → IsOnDisk (Some st.size) b.sup
    → length bytes ≡ 512 * (layout_of b.sup).sectors → IsHalfWritten st ((layout_of b.sup).sectors * block) bytes next → HasKnown t0 sp b st → HasKnownIn t0 sp (newest_map b st) block bytes
    → HasKnownIn t0 sp (newest_map b st) block (contents_of next (layout_of b.sup).sectors block)

-- a write that succeeded leaves each sector new
abbrev pub WrittenIsHalf : Type 0
WrittenIsHalf = (st : State) (at : ℕ) (bytes : List ℕ) → IsHalfWritten st at bytes (written st at bytes)
