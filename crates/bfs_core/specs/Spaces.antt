-- A space as plain data, and what is true of it over the blocks that are told below it.
use Rattle.std.specs.Prelude.{◌≡◌, ◌≢◌, ◌⊎◌, ◌↔◌, ◌≤◌, ◌<◌, ◌+◌, ℕ, List, [], ◌∷◌, ◌++◌, length, map, filter, not, Bool, true, false, Option, None, unwrap_or}
use Rattle.bfs_super.specs.declared.sup.Super.{Super}
use Rattle.bfs_super.specs.Conditions.{natural}
use Rattle.bfs_bitmap.specs.declared.given.Given.{Given}
use Rattle.bfs_bitmap.specs.Bits.{in_run}
use Rattle.bfs_bitmap.specs.Givens.{numbered, is_left}
use Rattle.bfs_bitmap.specs.Runs.{is_reserved}
use Rattle.bfs_txn.specs.Changed.{AreOfSize, newest, over}
use Rattle.bfs_txn.specs.declared.group.Group.{Group}
use Rattle.bfs_tree.specs.declared.reply.Entry.{Entry}
use Rattle.bfs_tree.specs.Histories.{Mounted, Legal, Follows, after}
use Rattle.bfs_sound.specs.Volumes.{Volume, IsMarked}
use Rattle.bfs_sound.specs.Owners.{IsMetadata}
use Rattle.bfs_sound.specs.Whole.{IsSound}
use Rattle.bfs_device.specs.Layouts.{layout_of}
use Rattle.bfs_device.specs.Books.{IsSealed}
use Rattle.bfs_device.specs.Ahead.{geometry_with}

-- The superblock that the space was opened with, the used blocks now and after the last seal, the open group, the history, how
-- many entries of it sealed groups cover, and the runs that were given back, each with the number of its group once that is
-- sealed.
pub record SpaceView : Type 0 where
  pub sup : Super
  pub used : ℕ
  pub group : List (ℕ × List ℕ)
  pub history : List Entry
  pub sealed : ℕ
  pub sealed_used : ℕ
  pub given : List Given

-- a space that was opened with a superblock: nothing has happened yet
abbrev pub opened : Super → SpaceView
opened s = record { sup = s; used = natural s.used_blocks; group = []; history = []; sealed = 0; sealed_used = natural s.used_blocks; given = [] }

-- Face: each block is the open group's, else what is told below; the geometry has the space's used blocks.
abbrev pub face_over : List (ℕ × List ℕ) → (ℕ → Option (List ℕ)) → ℕ → List ℕ
face_over group m k = unwrap_or (over group m k) []

abbrev pub face : SpaceView → (ℕ → Option (List ℕ)) → Volume
face sp m = record { geometry = geometry_with sp.sup sp.used; blocks = face_over sp.group m }

-- the block is metadata in Face
abbrev pub IsFaceMetadata : Mounted → SpaceView → (ℕ → Option (List ℕ)) → ℕ → Type 0
IsFaceMetadata t0 sp m k = IsMetadata (face sp m) (after t0 sp.history) k

-- the block is marked in Face and no metadata there: file data
abbrev pub IsFaceData : Mounted → SpaceView → (ℕ → Option (List ℕ)) → ℕ → Type 0
IsFaceData t0 sp m k = IsMarked (face sp m) k × ¬ IsFaceMetadata t0 sp m k

-- the block is in a run that was given back, and that stays reserved once the groups up to this number have left
abbrev pub IsHeld : ℕ → List Given → ℕ → Type 0
IsHeld n [] k = ⊥
IsHeld n (g ∷ gs) k = ((in_run g.first g.len k ≡ true) × (is_left n g ≡ false)) ⊎ IsHeld n gs k

-- the block is in a run that was given back since the last seal
abbrev pub IsFresh : List Given → ℕ → Type 0
IsFresh [] k = ⊥
IsFresh (g ∷ gs) k = ((in_run g.first g.len k ≡ true) × (g.group ≡ None)) ⊎ IsFresh gs k

-- What a space keeps over what is told below: its history is legal, Face is sound with the tree after it, no reserved block is
-- marked, each block of the open group is metadata or was given back since the last seal, and has a block's bytes, and groups
-- cover a prefix.
pub record IsSoundOver (t0 : Mounted) (sp : SpaceView) (m : ℕ → Option (List ℕ)) : Type 0 where
  pub legal : Legal t0 sp.history
  pub sound : IsSound (face sp m) (after t0 sp.history)
  pub unmarked : (k : ℕ) → is_reserved sp.given k ≡ true → ¬ IsMarked (face sp m) k
  pub own : (k : ℕ) → newest sp.group k ≢ None → IsFaceMetadata t0 sp m k ⊎ IsFresh sp.given k
  pub sized : AreOfSize sp.sup.block_size sp.group
  pub covered : sp.sealed ≤ length sp.history

-- what only a seal changes
pub record SameSeals (old new : SpaceView) : Type 0 where
  pub sup : new.sup ≡ old.sup
  pub sealed : new.sealed ≡ old.sealed
  pub sealed_used : new.sealed_used ≡ old.sealed_used

-- a block that was marked is, and is metadata just where it was
pub record StaysMarked (t0 : Mounted) (old new : SpaceView) (m : ℕ → Option (List ℕ)) (k : ℕ) : Type 0 where
  pub marked : IsMarked (face new m) k
  pub metadata : IsFaceMetadata t0 old m k ↔ IsFaceMetadata t0 new m k

-- A call has appended one entry, over what is told below. Each marked block stays so, metadata or file data as it was, or was
-- given back since the last seal. What was reserved is, until the same group has left.
pub record Entered (t0 : Mounted) (old new : SpaceView) (m : ℕ → Option (List ℕ)) (entry : Entry) : Type 0 where
  pub same : SameSeals old new
  pub history : new.history ≡ old.history ++ entry ∷ []
  pub follows : Follows t0 old.history entry
  pub sound : IsSoundOver t0 new m
  pub blocks : (k : ℕ) → IsMarked (face old m) k → StaysMarked t0 old new m k ⊎ IsFresh new.given k
  pub held : (n k : ℕ) → IsHeld n old.given k → IsHeld n new.given k
  pub idle : new.group ≡ [] → (old.group ≡ []) × (new.used ≡ old.used)

-- What an entry set: the open group has these blocks beside those that it had, and what is metadata now and wasn't set was
-- metadata before.
pub record HasSet (t0 : Mounted) (old new : SpaceView) (m : ℕ → Option (List ℕ)) (set : ℕ → Bool) : Type 0 where
  pub group : (k : ℕ) → (newest new.group k ≢ None) ↔ ((newest old.group k ≢ None) ⊎ (set k ≡ true))
  pub rest : (k : ℕ) → IsFaceMetadata t0 new m k → set k ≡ false → IsFaceMetadata t0 old m k

-- a space with one entry more, and nothing else
abbrev pub noted : SpaceView → Entry → SpaceView
noted sp entry = record sp { history = sp.history ++ entry ∷ [] }

-- the group of a seal: the entries that no group covers, the open group's blocks, and the used blocks
pub record IsGroupFor (sp : SpaceView) (g : Group) : Type 0 where
  pub first : g.first ≡ sp.sealed + 1
  pub last : g.last ≡ length sp.history
  pub some : sp.sealed < length sp.history
  pub used : g.used ≡ sp.used
  pub blocks : g.blocks ≡ sp.group
  pub sealed : IsSealed (layout_of sp.sup) sp.sup.block_size g

-- a space after its seal
abbrev pub sealed_space : SpaceView → SpaceView
sealed_space sp = record sp { group = []; sealed = length sp.history; sealed_used = sp.used; given = map (numbered (length sp.history)) sp.given }

-- a space that has released the groups up to a number
abbrev pub released_space : ℕ → SpaceView → SpaceView
released_space n sp = record sp { given = filter (λ g. not (is_left n g)) sp.given }
