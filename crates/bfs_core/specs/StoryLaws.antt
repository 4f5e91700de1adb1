-- What is true of a space and a device over one story: one law for each event, and that together they are a Core.
use Rattle.std.specs.Prelude.{◌≡◌, ◌≤◌, ℕ, List, Option, Bool, Some, None}
use Rattle.bfs_disk.specs.State.{State, Holds, Filled}
use Rattle.bfs_super.specs.declared.sup.Super.{Super}
use Rattle.bfs_txn.specs.declared.group.Group.{Group}
use Rattle.bfs_tree.specs.declared.reply.Entry.{Entry}
use Rattle.bfs_tree.specs.Histories.{Mounted}
use Rattle.bfs_log.specs.Replay.{super_of, blocks_of}
use Rattle.bfs_sound.specs.Volumes.{IsMarked}
use Rattle.bfs_sound.specs.Whole.{IsWhole, volume_of}
use Rattle.bfs_device.specs.Books.{Books, IsRight, AreSame, IsOnDisk, RecoversOne}
use Rattle.bfs_device.specs.Phases.{none}
use Rattle.bfs_device.specs.Seals.{adopted, sealed_with}
use Rattle.bfs_device.specs.Data.{newest_in, touching, AreSameBut}
use Rattle.bfs_device.specs.Ahead.{IsSteady, GoesOn}
use Rattle.bfs_core.specs.Spaces.{SpaceView, Entered, HasSet, IsGroupFor, face, opened, sealed_space, released_space}
use Rattle.bfs_core.specs.Cores.{Core, IsKnown, RecoversWithin, newest_map}
use Rattle.bfs_core.specs.Moments.{IsLessTouched}
use Rattle.bfs_core.specs.Stories.{Words, Story, IsStory, SpaceFits, DeviceFits, IsPair, Longer, TellsFace, IsMetadataIn, begun, no_words, with_numbers, end_of}

-- a space and a device that fit one story are a Core
abbrev pub PairIsCore : Type 0
PairIsCore = (y : Story) (w : Words) (sp : SpaceView) (b : Books) (t : ℕ → Bool) (st : State) → IsStory y w.left → SpaceFits y w sp → DeviceFits y w sp.sup b t st → Core y.t0 sp b t st

-- a mount: a story begins
abbrev pub PairIsOpened : Type 0
PairIsOpened = (t0 : Mounted) (image : List ℕ) (st : State) → IsWhole image t0.tree → Holds image st → Filled st → IsOnDisk (Some st.size) (super_of image)
    → IsPair (begun t0 (volume_of (super_of image) (blocks_of image))) no_words (opened (super_of image)) (adopted (super_of image)) none st

-- A call of the space, or a note, that appends an entry, over what tells the sealed volume: the longer story has the new Face
-- and what the entry set, and the space fits it.
abbrev pub SpaceIsEntered : Type 0
SpaceIsEntered = (y z : Story) (w : Words) (sp new : SpaceView) (m : ℕ → Option (List ℕ)) (e : Entry) → IsStory y w.left → SpaceFits y w sp → TellsFace y w.sealed m
    → Entered y.t0 sp new m e → HasSet y.t0 sp new m (z.sets (end_of z)) → Longer y z e → z.faces (end_of z) ≡ face new m → IsStory z w.left × SpaceFits z w new

-- and the device fits it too
abbrev pub DeviceIsLonger : Type 0
DeviceIsLonger = (y z : Story) (w : Words) (s : Super) (b : Books) (t : ℕ → Bool) (st : State) (e : Entry) → Longer y z e → IsKnown b e → w.sealed ≤ end_of y → DeviceFits y w s b t st → DeviceFits z w s b t st

-- a device that fits tells the sealed volume
abbrev pub DeviceTells : Type 0
DeviceTells = (y : Story) (w : Words) (s : Super) (b : Books) (t : ℕ → Bool) (st : State) → IsStory y w.left → w.sealed ≤ end_of y → DeviceFits y w s b t st → TellsFace y w.sealed (newest_map b st)

-- what a crash may leave of a device that fits, where it is one of the versions, recovers to the tree after a prefix of the
-- story from the durable entries to the sealed ones
abbrev pub DeviceRecovers : Type 0
DeviceRecovers = (y : Story) (w : Words) (s : Super) (b : Books) (t : ℕ → Bool) (st : State) → IsStory y w.left → w.sealed ≤ end_of y → DeviceFits y w s b t st
    → (image : List ℕ) → RecoversOne b t st image → RecoversWithin y.t0 y.history w.durable w.sealed image

-- a release of what the left word says; and a word that rises
abbrev pub SpaceIsReleased : Type 0
SpaceIsReleased = (y : Story) (w : Words) (sp : SpaceView) → SpaceFits y w sp → SpaceFits y w (released_space w.left sp)

abbrev pub SpaceIsRaised : Type 0
SpaceIsRaised = (y : Story) (w u : Words) (sp : SpaceView) → w.sealed ≡ u.sealed → w.left ≤ u.left → SpaceFits y w sp → SpaceFits y u sp

abbrev pub StoryIsRaised : Type 0
StoryIsRaised = (y : Story) (left later : ℕ) → left ≤ later → IsStory y left → IsStory y later

-- a seal, at which both are there: the sealed word is the history's length then
abbrev pub PairIsSealed : Type 0
PairIsSealed = (y : Story) (w : Words) (sp : SpaceView) (b : Books) (t : ℕ → Bool) (st : State) (g : Group) → IsPair y w sp b t st → IsGroupFor sp g
    → (let u : Words = record w { sealed = end_of y } in IsPair y u (sealed_space sp) (sealed_with b g) t st)

-- a call of the device that goes on: a step, a read, or room; the words are its numbers then
abbrev pub DeviceGoesOn : Type 0
DeviceGoesOn = (y : Story) (w : Words) (s : Super) (b new : Books) (t u : ℕ → Bool) (st next : State) → w.sealed ≤ end_of y → DeviceFits y w s b t st → IsSteady new → GoesOn b new → IsRight new u next → AreSame b st new next
    → IsLessTouched b new t u → (new.stop ≡ None → b.stop ≡ None) → DeviceFits y (with_numbers w new) s new u next

-- a data write at a block that is file data in the last volume: no waiting group has it, and the device fits after it, whether it
-- succeeded or failed
abbrev pub DeviceWritesApart : Type 0
DeviceWritesApart = (y : Story) (w : Words) (s : Super) (b : Books) (t : ℕ → Bool) (st : State) (block : ℕ) → IsStory y w.left → DeviceFits y w s b t st
    → IsMarked (y.faces (end_of y)) block → ¬ IsMetadataIn y (end_of y) block → newest_in b.groups block ≡ None

abbrev pub DeviceIsWritten : Type 0
DeviceIsWritten = (y : Story) (w : Words) (s : Super) (b new : Books) (t : ℕ → Bool) (st next : State) (block : ℕ) → IsStory y w.left → w.sealed ≤ end_of y → DeviceFits y w s b t st
    → IsMarked (y.faces (end_of y)) block → ¬ IsMetadataIn y (end_of y) block
    → new ≡ record b { moment = new.moment; stop = new.stop } → (new.stop ≡ None → b.stop ≡ None) → IsRight new (touching block t) next → AreSameBut block b st new next → DeviceFits y w s new (touching block t) next
