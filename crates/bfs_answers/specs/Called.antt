-- What a call has made of a volume when it is kept, and that its space then has one entry more.
use Rattle.std.specs.Prelude.{◌≡◌, ◌⊎◌, ◌↔◌, ◌<◌, ℕ, List, [], ◌∷◌, ◌++◌, map, Bool, true, false, Option, is_some, IsSome}
use Rattle.bfs_base.specs.Lists.{times}
use Rattle.bfs_super.specs.declared.geometry.Geometry.{Geometry}
use Rattle.bfs_super.specs.Geometry.{geometry_of}
use Rattle.bfs_bitmap.specs.declared.given.Given.{Given}
use Rattle.bfs_bitmap.specs.Givens.{settled}
use Rattle.bfs_bitmap.specs.Runs.{Room, Fits, IsSettled, is_reserved}
use Rattle.bfs_txn.specs.Changed.{AreOfSize, newest, over}
use Rattle.bfs_stream.specs.Sizes.{sizes_of}
use Rattle.bfs_stream.specs.Grown.{IsOfVolume}
use Rattle.bfs_tree.specs.declared.reply.Entry.{Entry}
use Rattle.bfs_tree.specs.Histories.{Mounted, Follows, after}
use Rattle.bfs_tree.specs.Trees.{Tree}
use Rattle.bfs_sound.specs.Volumes.{IsMarked}
use Rattle.bfs_sound.specs.Owners.{fixed_blocks, IsMetadata}
use Rattle.bfs_shift.specs.Lists.{Lists, Agrees}
use Rattle.bfs_shift.specs.Laws.{lists_of}
use Rattle.bfs_shift.specs.Shifts.{volume_in}
use Rattle.bfs_shift.specs.Work.{IsAtWork}
use Rattle.bfs_moves.specs.Laws.{IsApart}
use Rattle.bfs_leave.specs.Leaving.{GivesBack}
use Rattle.bfs_look.specs.Ready.{IsReady}
use Rattle.bfs_calls.specs.Done.{IsDone}
use Rattle.bfs_core.specs.Spaces.{SpaceView, Entered, HasSet, IsFaceMetadata, IsFresh, IsSoundOver, face}

-- a block that was marked is, and is metadata just where it was
pub record StaysAs (g : Geometry) (m map : ℕ → Option (List ℕ)) (tree after : Tree) (k : ℕ) : Type 0 where
  pub marked : IsMarked (volume_in g map) k
  pub metadata : IsMetadata (volume_in g m) tree k ↔ IsMetadata (volume_in g map) after k

-- What a call has made of a volume that is sound with a tree. It stands for another tree with the same root, whose lists agree with
-- it, and no block is loose; the bitmap has perhaps more runs that were given back; no reserved block is
-- marked. A block that was marked stays as it was, or was given back. What was changed stays changed, and a block that was changed is
-- neither block 0 nor of the log, and is metadata or was given back; what is metadata and wasn't changed was metadata before.
pub record IsCalled (g : Geometry) (v now : Room) (m map : ℕ → Option (List ℕ)) (tree after : Tree) (old new : ℕ → Bool) : Type 0 where
  pub lists : Lists
  pub work : IsAtWork g now map after lists []
  pub agrees : Agrees after lists
  pub root : after.root ≡ tree.root
  pub given : List Given
  pub longer : now.given ≡ v.given ++ given
  pub reserved : (k : ℕ) → is_reserved now.given k ≡ true → ¬ IsMarked (volume_in g map) k
  pub blocks : (k : ℕ) → IsMarked (volume_in g m) k → StaysAs g m map tree after k ⊎ IsFresh now.given k
  pub kept : (k : ℕ) → old k ≡ true → new k ≡ true
  pub changed : (k : ℕ) → new k ≡ true → (old k ≡ true) ⊎ (IsApart g k × (IsMetadata (volume_in g map) after k ⊎ IsFresh now.given k))
  pub set : (k : ℕ) → IsMetadata (volume_in g map) after k → new k ≡ false → IsMetadata (volume_in g m) tree k

-- is the block in an open group?
abbrev pub is_changed : List (ℕ × List ℕ) → ℕ → Bool
is_changed group k = is_some (newest group k)

-- a space with the bitmap and the open group that a call has left, and its entry
abbrev pub with_entry : SpaceView → Room → List (ℕ × List ℕ) → Entry → SpaceView
with_entry sp now group e = record sp { used = now.tally.used; group = group; history = sp.history ++ e ∷ []; given = map settled now.given }

-- each metadata block of Face is told, but block 0 and those of the log
abbrev pub IsFaceTold : Mounted → SpaceView → (ℕ → Option (List ℕ)) → Type 0
IsFaceTold t0 sp m = (k : ℕ) → IsFaceMetadata t0 sp m k → times k (fixed_blocks (face sp m)) ≡ 0 → IsSome (over sp.group m k)

-- A call begins on the Face of its space, where the bitmap is that of the volume and counts what the space does.
abbrev pub FaceIsAtWork : Type 0
FaceIsAtWork = (t0 : Mounted) (sp : SpaceView) (m : ℕ → Option (List ℕ)) (v : Room) → IsSoundOver t0 sp m → IsFaceTold t0 sp m → IsOfVolume (sizes_of sp.sup) v → 0 < sp.sup.block_size
    → Fits v (over sp.group m) → v.tally.used ≡ sp.used
    → IsAtWork (geometry_of sp.sup) v (over sp.group m) (after t0 sp.history) (lists_of (face sp m) (after t0 sp.history)) [] × Agrees (after t0 sp.history) (lists_of (face sp m) (after t0 sp.history))

-- A call that is kept is entered: of the open group that it leaves each block has a block's bytes, and its entry may follow.
abbrev pub CallIsEntered : Type 0
CallIsEntered = (t0 : Mounted) (sp : SpaceView) (m : ℕ → Option (List ℕ)) (v now : Room) (group : List (ℕ × List ℕ)) (e : Entry) → IsSoundOver t0 sp m → 0 < sp.sup.block_size
    → v.given ≡ sp.given → AreOfSize sp.sup.block_size group → Follows t0 sp.history e
    → IsCalled (geometry_of sp.sup) v now (over sp.group m) (over group m) (after t0 sp.history) (after t0 (with_entry sp now group e).history) (is_changed sp.group) (is_changed group)
    → Entered t0 sp (with_entry sp now group e) m e × HasSet t0 sp (with_entry sp now group e) m (is_changed group)

-- The Face of a space is ready for a call, where the bitmap has the runs that the space has given back.
abbrev pub FaceIsReady : Type 0
FaceIsReady = (t0 : Mounted) (sp : SpaceView) (m : ℕ → Option (List ℕ)) (v : Room) → IsSoundOver t0 sp m → IsFaceTold t0 sp m → IsOfVolume (sizes_of sp.sup) v → 0 < sp.sup.block_size
    → Fits v (over sp.group m) → v.tally.used ≡ sp.used → v.given ≡ sp.given
    → IsReady (geometry_of sp.sup) v (over sp.group m) (after t0 sp.history) (lists_of (face sp m) (after t0 sp.history))

-- What a call has done that gives nothing back is what a space asks of a call.
abbrev pub DoneIsCalled : Type 0
DoneIsCalled = (g : Geometry) (v now : Room) (m : ℕ → Option (List ℕ)) (tree after : Tree) (lists : Lists) (told : Option (ℕ → Option (List ℕ))) (old new : ℕ → Bool)
    → IsReady g v m tree lists → (done : IsDone g v now m tree after told old new) → IsCalled g v now m done.step.map tree after old new

-- What a call has done that may have given blocks back is what a space asks of a call: where it began settled, and has ended with no block
-- loose, with lists that agree with the tree since, and with the same root.
abbrev pub LeftIsCalled : Type 0
LeftIsCalled = (g : Geometry) (v now : Room) (m map : ℕ → Option (List ℕ)) (tree after : Tree) (before lists : Lists) (old new : ℕ → Bool)
    → IsReady g v m tree before → IsSettled v → IsAtWork g now map after lists [] → Agrees after lists → after.root ≡ tree.root → GivesBack g v now m map tree after old new
    → IsCalled g v now m map tree after old new
