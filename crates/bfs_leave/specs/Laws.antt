-- How steps that may give blocks back are put together, and what is known at the end of a call that was made of them.
use Rattle.std.specs.Prelude.{◌≡◌, ◌⊎◌, ◌↔◌, ℕ, List, [], ◌++◌, Bool, true, false, Option, None}
use Rattle.std.specs.List.{AllByRecursion}
use Rattle.bfs_super.specs.declared.geometry.Geometry.{Geometry}
use Rattle.bfs_bitmap.specs.declared.given.Given.{Given}
use Rattle.bfs_bitmap.specs.Runs.{Room, IsSettled, is_reserved}
use Rattle.bfs_tree.specs.Trees.{Tree}
use Rattle.bfs_sound.specs.Volumes.{IsMarked}
use Rattle.bfs_sound.specs.Owners.{IsMetadata}
use Rattle.bfs_shift.specs.Lists.{Lists}
use Rattle.bfs_shift.specs.Shifts.{volume_in}
use Rattle.bfs_shift.specs.Work.{IsAtWork, GoesOn}
use Rattle.bfs_moves.specs.Laws.{IsApart}
use Rattle.bfs_leave.specs.Leaving.{IsClear, GivesBack}

-- steps that give nothing back are such steps, where no reserved block was marked; and so are two in a row
abbrev pub GoesOnGives : Type 0
GoesOnGives = (g : Geometry) (v now : Room) (m map : ℕ → Option (List ℕ)) (tree after : Tree) (old new : ℕ → Bool) → IsClear g v m
    → GoesOn g v now m map tree after old new → GivesBack g v now m map tree after old new

abbrev pub GivesBackTwice : Type 0
GivesBackTwice = (g : Geometry) (v now later : Room) (m mid map : ℕ → Option (List ℕ)) (tree between after : Tree) (old new last : ℕ → Bool)
    → GivesBack g v now m mid tree between old new → GivesBack g now later mid map between after new last → GivesBack g v later m map tree after old last

-- a block that was marked is, and is metadata just where it was
pub record StaysSo (g : Geometry) (m map : ℕ → Option (List ℕ)) (tree after : Tree) (k : ℕ) : Type 0 where
  pub marked : IsMarked (volume_in g map) k
  pub metadata : IsMetadata (volume_in g m) tree k ↔ IsMetadata (volume_in g map) after k

-- A call that may give blocks back has ended with nothing loose. The bitmap has more runs that were given back, behind the others, without
-- a group's number yet; no reserved block is marked. A block that was marked stays as it was, or is in one of these runs. What was changed
-- stays changed, and a block that was changed is neither block 0 nor of the log, and is metadata or in one of these runs; what is
-- metadata and wasn't changed was metadata before.
pub record IsCallLeft (g : Geometry) (v now : Room) (m map : ℕ → Option (List ℕ)) (tree after : Tree) (old new : ℕ → Bool) : Type 0 where
  pub given : List Given
  pub longer : now.given ≡ v.given ++ given
  pub unnumbered : AllByRecursion (λ run. run.group ≡ None) given
  pub reserved : IsClear g now map
  pub blocks : (k : ℕ) → IsMarked (volume_in g m) k → StaysSo g m map tree after k ⊎ (is_reserved given k ≡ true)
  pub kept : (k : ℕ) → old k ≡ true → new k ≡ true
  pub changed : (k : ℕ) → new k ≡ true → (old k ≡ true) ⊎ (IsApart g k × (IsMetadata (volume_in g map) after k ⊎ (is_reserved given k ≡ true)))
  pub set : (k : ℕ) → IsMetadata (volume_in g map) after k → new k ≡ false → IsMetadata (volume_in g m) tree k

abbrev pub CallIsLeft : Type 0
CallIsLeft = (g : Geometry) (v now : Room) (m map : ℕ → Option (List ℕ)) (tree after : Tree) (before lists : Lists) (old new : ℕ → Bool)
    → IsSettled v → IsClear g v m → IsAtWork g v m tree before [] → IsAtWork g now map after lists [] → GivesBack g v now m map tree after old new
    → IsCallLeft g v now m map tree after old new
