-- What is true of cores, whatever keeps them: one law for each event, and what a crash leaves.
use Rattle.std.specs.Prelude.{◌≡◌, ◌⊎◌, ◌≤◌, ℕ, List, Bool, true, Option, Some, None, IfSome, length, take}
use Rattle.bfs_disk.specs.State.{State, Holds, Filled, IsImage}
use Rattle.bfs_txn.specs.declared.group.Group.{Group}
use Rattle.bfs_tree.specs.declared.reply.Entry.{Entry}
use Rattle.bfs_tree.specs.Histories.{Follows, Mounted, after}
use Rattle.bfs_log.specs.Replay.{super_of, blocks_of, Replayed}
use Rattle.bfs_bitmap.specs.Runs.{is_reserved}
use Rattle.bfs_tree.specs.Trees.{Tree}
use Rattle.bfs_sound.specs.Volumes.{IsMarked}
use Rattle.bfs_sound.specs.Owners.{IsMetadata}
use Rattle.bfs_sound.specs.Whole.{Recovers, IsWhole, Whole, volume_of}
use Rattle.bfs_device.specs.Layouts.{IsData, layout_of}
use Rattle.bfs_device.specs.Books.{Books, IsRight, IsNext, AreSame, IsOnDisk, RecoversOne, durable_of, sealed_of}
use Rattle.bfs_device.specs.Phases.{none}
use Rattle.bfs_device.specs.Seals.{last_used, sealed_with, adopted}
use Rattle.bfs_device.specs.Steps.{still_touched, stepped}
use Rattle.bfs_device.specs.Data.{newest_in, touching, AreSameBut}
use Rattle.bfs_device.specs.Ahead.{IsSteady, GoesOn}
use Rattle.bfs_core.specs.Spaces.{SpaceView, Entered, HasSet, IsFaceData, IsFaceMetadata, IsGroupFor, IsSoundOver, face, noted, opened, released_space, sealed_space}
use Rattle.bfs_core.specs.Cores.{Core, IsKnown, RecoversFrom, RecoversWithin, face_blocks, face_super, newest_map}
use Rattle.bfs_core.specs.Moments.{IsLessTouched}

-- a mount of an image that is whole: a quiet disk that holds it, adopted, and a space opened with its superblock
abbrev pub CoreIsOpened : Type 0
CoreIsOpened = (t0 : Mounted) (image : List ℕ) (st : State) → IsWhole image t0.tree → Holds image st → Filled st → IsOnDisk (Some st.size) (super_of image)
    → Core t0 (opened (super_of image)) (adopted (super_of image)) none st

-- a mount of an image that recovers: the same, of a quiet disk that holds what replay of the image gives
abbrev pub CoreIsMounted : Type 0
CoreIsMounted = (t0 : Mounted) (image result : List ℕ) (st : State) → Recovers image t0.tree → Replayed image result → Holds result st → Filled st → IsOnDisk (Some st.size) (super_of result)
    → Core t0 (opened (super_of result)) (adopted (super_of result)) none st

-- a call of the device that goes on: a step, a read, or room
abbrev pub CoreGoesOn : Type 0
CoreGoesOn = (t0 : Mounted) (sp : SpaceView) (b new : Books) (t u : ℕ → Bool) (st next : State) → Core t0 sp b t st → IsSteady new → GoesOn b new → IsRight new u next → AreSame b st new next
    → IsLessTouched b new t u → (new.stop ≡ None → b.stop ≡ None) → Core t0 sp new u next

-- what a step touches: no more than before
abbrev pub StepTouches : Type 0
StepTouches = (b : Books) (t : ℕ → Bool) → IsLessTouched b (stepped b) t (still_touched b t)

-- a call of the space, or a note, that appends an entry
abbrev pub CoreIsEntered : Type 0
CoreIsEntered = (t0 : Mounted) (sp new : SpaceView) (b : Books) (t : ℕ → Bool) (st : State) (e : Entry) → Core t0 sp b t st → Entered t0 sp new (newest_map b st) e → IsKnown b e → Core t0 new b t st

-- a note whose entry leaves the tree as it is: it is entered, and sets no block
abbrev pub NoteIsEntered : Type 0
NoteIsEntered = (t0 : Mounted) (sp : SpaceView) (m : ℕ → Option (List ℕ)) (e : Entry) → IsSoundOver t0 sp m → Follows t0 sp.history e → after t0 (noted sp e).history ≡ after t0 sp.history
    → Entered t0 sp (noted sp e) m e × HasSet t0 sp (noted sp e) m none

-- a release of what the device says to have left the log
abbrev pub CoreIsReleased : Type 0
CoreIsReleased = (t0 : Mounted) (sp : SpaceView) (b : Books) (t : ℕ → Bool) (st : State) → Core t0 sp b t st → Core t0 (released_space b.left sp) b t st

-- a seal: the device may take the group, and both have it then
abbrev pub CoreMaySeal : Type 0
CoreMaySeal = (t0 : Mounted) (sp : SpaceView) (b : Books) (t : ℕ → Bool) (st : State) (g : Group) → Core t0 sp b t st → IsGroupFor sp g → IsNext (layout_of b.sup) b.sup.block_size (sealed_of b) (last_used b) g

abbrev pub CoreIsSealed : Type 0
CoreIsSealed = (t0 : Mounted) (sp : SpaceView) (b : Books) (t : ℕ → Bool) (st : State) (g : Group) → Core t0 sp b t st → IsGroupFor sp g → Core t0 (sealed_space sp) (sealed_with b g) t st

-- A data write at a block that is file data in Face. It is neither block 0 nor of the log, and no waiting group has it, so that
-- the device may write it.
abbrev pub PieceIsApart : Type 0
PieceIsApart = (t0 : Mounted) (sp : SpaceView) (b : Books) (t : ℕ → Bool) (st : State) (block : ℕ) → Core t0 sp b t st → IsFaceData t0 sp (newest_map b st) block
    → IsData (layout_of b.sup) block × (newest_in b.groups block ≡ None)

-- Core is kept by it, whether it succeeded, failed and stopped the device, or was refused by one that had stopped.
abbrev pub PieceIsKept : Type 0
PieceIsKept = (t0 : Mounted) (sp : SpaceView) (b new : Books) (t : ℕ → Bool) (st next : State) (block : ℕ) → Core t0 sp b t st → IsFaceData t0 sp (newest_map b st) block
    → new ≡ record b { moment = new.moment; stop = new.stop } → (new.stop ≡ None → b.stop ≡ None) → IsRight new (touching block t) next → AreSameBut block b st new next → Core t0 sp new (touching block t) next

-- Face is whole with the tree after the history, and what the device tells of a block has a block's length
abbrev pub CoreIsWhole : Type 0
CoreIsWhole = (t0 : Mounted) (sp : SpaceView) (b : Books) (t : ℕ → Bool) (st : State) → Core t0 sp b t st → Filled st → IsOnDisk (Some st.size) b.sup → Whole (face_super sp b) (face_blocks sp b st) (after t0 sp.history)

abbrev pub NewestIsSized : Type 0
NewestIsSized = (b : Books) (st : State) → IsSteady b → Filled st → IsOnDisk (Some st.size) b.sup → (k : ℕ) → IfSome (newest_map b st k) (λ bytes. length bytes ≡ b.sup.block_size)

-- the numbers are in order: what has left, what is durable, what is sealed, and the history's length
pub record AreInOrder (sp : SpaceView) (b : Books) : Type 0 where
  pub left : b.left ≤ durable_of b
  pub durable : durable_of b ≤ sealed_of b
  pub sealed : sealed_of b ≡ sp.sealed
  pub history : sp.sealed ≤ length sp.history

abbrev pub CoreIsOrdered : Type 0
CoreIsOrdered = (t0 : Mounted) (sp : SpaceView) (b : Books) (t : ℕ → Bool) (st : State) → Core t0 sp b t st → AreInOrder sp b

-- what a crash may leave now recovers to the tree after a prefix from the durable entries to the sealed ones
abbrev pub CoreRecovers : Type 0
CoreRecovers = (t0 : Mounted) (sp : SpaceView) (b : Books) (t : ℕ → Bool) (st : State) (image : List ℕ) → Core t0 sp b t st → IsOnDisk (Some st.size) b.sup → IsImage st image
    → RecoversWithin t0 sp.history (durable_of b) (sealed_of b) image

-- and so does what a crash in a call may leave, where that is one of the versions
abbrev pub VersionRecovers : Type 0
VersionRecovers = (t0 : Mounted) (sp : SpaceView) (b : Books) (t : ℕ → Bool) (st : State) (image : List ℕ) → Core t0 sp b t st → RecoversOne b t st image
    → RecoversWithin t0 sp.history (durable_of b) (sealed_of b) image

-- a crash, and mounting what it left: a Core again, of the tree after such a prefix
abbrev pub CoreComesBack : Type 0
CoreComesBack = (t0 : Mounted) (sp : SpaceView) (b : Books) (t : ℕ → Bool) (st next : State) (image result : List ℕ) → Core t0 sp b t st → IsOnDisk (Some st.size) b.sup → IsImage st image
    → Replayed image result → Holds result next → Filled next → IsOnDisk (Some next.size) (super_of result)
    → (k : ℕ) × (durable_of b ≤ k) × (k ≤ sealed_of b) × ((again : Mounted) → again.tree ≡ after t0 (take k sp.history) → Core again (opened (super_of result)) (adopted (super_of result)) none next)

-- where all entries are durable, that is the tree after all of them
abbrev pub AllRecovers : Type 0
AllRecovers = (t0 : Mounted) (history : List Entry) (image : List ℕ) → RecoversFrom t0 history (length history) image → Recovers image (after t0 history)

-- A tree that an image brings back: the image recovers to it, and each block that is metadata in what replay gives is metadata
-- in Face or reserved, and reserved blocks aren't marked in Face.
pub record IsReserved (t0 : Mounted) (sp : SpaceView) (m : ℕ → Option (List ℕ)) (image : List ℕ) : Type 0 where
  pub tree : Tree
  pub recovers : Recovers image tree
  pub blocks : (k : ℕ) → IsMetadata (volume_of (super_of recovers.result) (blocks_of recovers.result)) tree k → IsFaceMetadata t0 sp m k ⊎ (is_reserved sp.given k ≡ true)
  pub unmarked : (k : ℕ) → is_reserved sp.given k ≡ true → ¬ IsMarked (face sp m) k

-- Nothing that a crash may bring back is free for other use.
abbrev pub CoreReserves : Type 0
CoreReserves = (t0 : Mounted) (sp : SpaceView) (b : Books) (t : ℕ → Bool) (st : State) (image : List ℕ) → Core t0 sp b t st → IsOnDisk (Some st.size) b.sup → IsImage st image → IsReserved t0 sp (newest_map b st) image
