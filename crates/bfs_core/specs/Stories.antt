-- What a space and a device say, each by itself, over one story: a history with the volume after each of its entries.
use Rattle.std.specs.Prelude.{◌≡◌, ◌≢◌, ◌⊎◌, ◌↔◌, ◌≤◌, ◌<◌, ◌++◌, ℕ, List, [], ◌∷◌, length, take, Bool, true, false, Option, Some, None, unwrap_or}
use Rattle.std.specs.List.{All}
use Rattle.bfs_base.specs.Lists.{times}
use Rattle.bfs_disk.specs.State.{State, Tells}
use Rattle.bfs_super.specs.declared.sup.Super.{Super}
use Rattle.bfs_super.specs.Conditions.{IsValid}
use Rattle.bfs_bitmap.specs.Runs.{is_reserved}
use Rattle.bfs_txn.specs.Changed.{AreOfSize, newest}
use Rattle.bfs_txn.specs.declared.group.Group.{Group}
use Rattle.bfs_tree.specs.declared.reply.Entry.{Entry}
use Rattle.bfs_tree.specs.Trees.{Tree}
use Rattle.bfs_tree.specs.Histories.{Mounted, Legal, after}
use Rattle.bfs_sound.specs.Volumes.{Volume, IsMarked}
use Rattle.bfs_sound.specs.Owners.{IsMetadata, fixed_blocks}
use Rattle.bfs_sound.specs.Whole.{IsSound}
use Rattle.bfs_device.specs.Layouts.{layout_of, IsData}
use Rattle.bfs_device.specs.Books.{Books, IsRight, IsVersion, durable_of, sealed_of, used_of, version}
use Rattle.bfs_device.specs.Ahead.{IsSteady, IsGroupOf, geometry_with}
use Rattle.bfs_core.specs.Spaces.{SpaceView, IsHeld, IsFresh}
use Rattle.bfs_core.specs.Cores.{IsKnown}
use Rattle.bfs_core.specs.Moments.{Adoption, Kept}

-- how many entries are sealed, are durable, and have left the log
pub record Words : Type 0 where
  pub sealed : ℕ
  pub durable : ℕ
  pub left : ℕ

-- what stood at mounting, the history, the volume after each number of entries, and which blocks each entry set
pub record Story : Type 0 where
  pub t0 : Mounted
  pub history : List Entry
  pub faces : ℕ → Volume
  pub sets : ℕ → ℕ → Bool

abbrev pub end_of : Story → ℕ
end_of y = length y.history

-- the tree after so many entries, and the blocks that are metadata in the volume then
abbrev pub tree_in : Story → ℕ → Tree
tree_in y n = after y.t0 (take n y.history)

abbrev pub IsMetadataIn : Story → ℕ → ℕ → Type 0
IsMetadataIn y n k = IsMetadata (y.faces n) (tree_in y n) k

-- the block is metadata after so many entries, or not marked
abbrev pub IsUnspoiled : Story → ℕ → ℕ → Type 0
IsUnspoiled y n k = IsMetadataIn y n k ⊎ (¬ IsMarked (y.faces n) k)

-- The history is legal, and each volume is sound with its tree. From what has left the log on, a block that is metadata, or that
-- an entry set, is metadata or not marked in every later volume: it becomes no file's data.
pub record IsStory (y : Story) (left : ℕ) : Type 0 where
  pub legal : Legal y.t0 y.history
  pub sound : (n : ℕ) → n ≤ end_of y → IsSound (y.faces n) (tree_in y n)
  pub metadata : (i j k : ℕ) → left ≤ i → i ≤ j → j ≤ end_of y → IsMetadataIn y i k → IsUnspoiled y j k
  pub sets : (i j k : ℕ) → left < i → i ≤ j → j ≤ end_of y → y.sets i k ≡ true → IsUnspoiled y j k

-- an entry behind the sealed ones set the block
abbrev pub IsSetSince : Story → ℕ → ℕ → Type 0
IsSetSince y sealed k = (i : ℕ) × (sealed < i) × (i ≤ end_of y) × (y.sets i k ≡ true)

-- a block that was marked is marked at the end, and is metadata there just where it was
pub record StaysTo (y : Story) (n k : ℕ) : Type 0 where
  pub marked : IsMarked (y.faces (end_of y)) k
  pub metadata : IsMetadataIn y n k ↔ IsMetadataIn y (end_of y) k

-- the block has the same bytes in both volumes, or is block 0 or one of the log
abbrev pub IsSameAt : Story → ℕ → ℕ → ℕ → Type 0
IsSameAt y i j k = times k (fixed_blocks (y.faces j)) ≡ 0 → (y.faces i).blocks k ≡ (y.faces j).blocks k

-- The open group has just the blocks that the entries behind the sealed ones set, and makes the last volume of the sealed one.
pub record GroupFits (y : Story) (sealed : ℕ) (group : List (ℕ × List ℕ)) : Type 0 where
  pub exact : (k : ℕ) → (newest group k ≢ None) ↔ IsSetSince y sealed k
  pub changed : (k : ℕ) (bytes : List ℕ) → IsMetadataIn y (end_of y) k → newest group k ≡ Some bytes → bytes ≡ (y.faces (end_of y)).blocks k
  pub rest : (k : ℕ) → IsMetadataIn y (end_of y) k → newest group k ≡ None → IsMetadataIn y sealed k × IsSameAt y sealed (end_of y) k

-- What was given back covers what has to stay: no reserved block is marked. A block that was marked since what has left stays
-- marked, or is held; one that an entry set is metadata, or was held for all before that entry; and one of the open group is
-- metadata, or was given back since the last seal.
pub record GivenFits (y : Story) (left : ℕ) (sp : SpaceView) : Type 0 where
  pub unmarked : (k : ℕ) → is_reserved sp.given k ≡ true → ¬ IsMarked (y.faces (end_of y)) k
  pub blocks : (n k : ℕ) → left ≤ n → n ≤ end_of y → IsMarked (y.faces n) k → StaysTo y n k ⊎ IsHeld n sp.given k
  pub sets : (i k : ℕ) → left < i → i ≤ end_of y → y.sets i k ≡ true → IsMetadataIn y (end_of y) k ⊎ ((n : ℕ) → n < i → IsHeld n sp.given k)
  pub own : (k : ℕ) → newest sp.group k ≢ None → IsMetadataIn y (end_of y) k ⊎ IsFresh sp.given k

-- SpaceFits: the space has a valid superblock, the history and the sealed word, the geometries of the sealed volume and of the
-- last, an open group that leads from the one to the other and has blocks' bytes, and reserves what has to stay.
pub record SpaceFits (y : Story) (w : Words) (sp : SpaceView) : Type 0 where
  pub valid : IsValid sp.sup
  pub history : sp.history ≡ y.history
  pub sealed : sp.sealed ≡ w.sealed
  pub covered : w.sealed ≤ end_of y
  pub geometry : (y.faces (end_of y)).geometry ≡ geometry_with sp.sup sp.used
  pub ends : (y.faces w.sealed).geometry ≡ geometry_with sp.sup sp.sealed_used
  pub idle : sp.group ≡ [] → sp.used ≡ sp.sealed_used
  pub sized : AreOfSize sp.sup.block_size sp.group
  pub group : GroupFits y w.sealed sp.group
  pub given : GivenFits y w.left sp

-- each version of the device is the volume of its number, at what is metadata there, and no data write has named that since
-- the last barrier
pub record VersionsFit (y : Story) (b : Books) (touched : ℕ → Bool) (st : State) : Type 0 where
  pub geometry : (n : ℕ) → IsVersion b n → (y.faces n).geometry ≡ geometry_with b.sup (used_of b n)
  pub reads : (n k : ℕ) → IsVersion b n → IsMetadataIn y n k → IsData (layout_of b.sup) k → version b st n k ≡ (y.faces n).blocks k
  pub untouched : (n k : ℕ) → IsVersion b n → IsMetadataIn y n k → touched k ≡ false

-- the block was file data in a volume since what has left
abbrev pub IsFileSince : Story → ℕ → ℕ → Type 0
IsFileSince y left k = (n : ℕ) × (left ≤ n) × (n ≤ end_of y) × IsMarked (y.faces n) k × ¬ IsMetadataIn y n k

-- an entry from this one on set the block
abbrev pub IsSetFrom : Story → ℕ → ℕ → Type 0
IsSetFrom y first k = (i : ℕ) × (first ≤ i) × (i ≤ end_of y) × (y.sets i k ≡ true)

-- DeviceFits: the device is right, is of the space's volume, has the words as its numbers, and knows each entry. Its versions
-- are the story's volumes; a touched block was file data; and a block of a group was set by an entry of that group or a later one.
pub record DeviceFits (y : Story) (w : Words) (s : Super) (b : Books) (touched : ℕ → Bool) (st : State) : Type 0 where
  pub steady : IsSteady b
  pub right : IsRight b touched st
  pub volume : (used : ℕ) → geometry_with b.sup used ≡ geometry_with s used
  pub sealed : sealed_of b ≡ w.sealed
  pub durable : durable_of b ≡ w.durable
  pub left : b.left ≡ w.left
  pub known : All (IsKnown b) y.history
  pub versions : VersionsFit y b touched st
  pub files : (k : ℕ) → touched k ≡ true → IsFileSince y w.left k
  pub groups : (g : Group) (k : ℕ) → IsGroupOf g b.groups → newest g.blocks k ≢ None → IsSetFrom y g.first k

-- a device's own numbers as the words
abbrev pub with_numbers : Words → Books → Words
with_numbers w b = record { sealed = w.sealed; durable = durable_of b; left = b.left }

-- DeviceFits from adoption on: the disk tells, the device fits, and what a crash might have left since each mark is kept.
abbrev pub FitsSince : Story → Words → Super → Adoption → Books → Option State → ℕ → (ℕ → List ℕ → Type 0) → Type 0
FitsSince y w s adopted b told clock since = Tells told (λ st. (t : ℕ → Bool) × DeviceFits y w s b t st) × Kept y.t0 y.history adopted b.marks (durable_of b) b.moment clock since

-- a space and a device over one story
pub record IsPair (y : Story) (w : Words) (sp : SpaceView) (b : Books) (touched : ℕ → Bool) (st : State) : Type 0 where
  pub story : IsStory y w.left
  pub space : SpaceFits y w sp
  pub device : DeviceFits y w sp.sup b touched st

-- the story with one entry more
pub record Longer (y z : Story) (e : Entry) : Type 0 where
  pub t0 : z.t0 ≡ y.t0
  pub history : z.history ≡ y.history ++ e ∷ []
  pub faces : (n : ℕ) → n ≤ end_of y → z.faces n ≡ y.faces n
  pub sets : (i k : ℕ) → i ≤ end_of y → z.sets i k ≡ y.sets i k

-- what is told is the volume after so many entries, at what is metadata there but for block 0 and the log
abbrev pub TellsFace : Story → ℕ → (ℕ → Option (List ℕ)) → Type 0
TellsFace y n m = (k : ℕ) → IsMetadataIn y n k → times k (fixed_blocks (y.faces n)) ≡ 0 → unwrap_or (m k) [] ≡ (y.faces n).blocks k

-- a story that begins: this volume, and no entry yet
abbrev pub begun : Mounted → Volume → Story
begun t0 v = record { t0 = t0; history = []; faces = λ n. v; sets = λ i k. false }

abbrev pub no_words : Words
no_words = record { sealed = 0; durable = 0; left = 0 }
