-- An attribute that is taken, wherever it stands, and why none was.
use Rattle.std.specs.Prelude.{◌≡◌, ◌⊎◌, ◌↔◌, ℕ, List, Bool, true, Option, None, Some}
use Rattle.std.specs.FinMap.{get}
use Rattle.std.specs.Option.{option_map}
use Rattle.bfs_bitmap.specs.Runs.{Room}
use Rattle.bfs_node.specs.declared.fault.TreeFault.{TreeFault}
use Rattle.bfs_node.specs.declared.fault.TreeFault.TheVariants.{Exists, Absent, Damaged, Pages, NoMemory}
use Rattle.bfs_stream.specs.declared.fault.GrowFault.{GrowFault}
use Rattle.bfs_stream_pages.specs.Steps.{IsUndamaged}
use Rattle.bfs_smalldata.specs.Items.{items_of}
use Rattle.bfs_smalldata.specs.Edits.{IsFitting, without}
use Rattle.bfs_sound.specs.Volumes.{Volume}
use Rattle.bfs_sound.specs.Attributes.{attribute_directory}
use Rattle.bfs_attr.specs.Bearers.{Bearer, volume_at, attributes_at}
use Rattle.bfs_attr.specs.SmallData.{HasSmall}
use Rattle.bfs_attr.specs.Changed.{Holds, IsInSmallData}

-- None was taken: none has this name; or a block could not be had, and none is damaged; or there is no memory.
abbrev pub IsNotRemoved : Volume → ℕ → List ℕ → TreeFault GrowFault → Type 0
IsNotRemoved v id name Exists = ⊥
IsNotRemoved v id name Absent = get (attributes_at v id) name ≡ None
IsNotRemoved v id name (Damaged page sort) = ⊥
IsNotRemoved v id name (Pages fault) = IsUndamaged fault
IsNotRemoved v id name NoMemory = Unit {0}

-- The attributes of an inode are held, their attribute directory stands at this block, and none in small data has this name.
pub record IsBeyond (b : Bearer) (v : Room) (m : ℕ → Option (List ℕ)) (d : ℕ) (name : List ℕ) : Type 0 where
  pub holds : Holds b v m
  pub there : attribute_directory (volume_at b.geometry m) b.id ≡ Some d
  pub beyond : ¬ IsInSmallData (volume_at b.geometry m) b.id name

-- Where none was taken since none has the name, nothing else is told since, and the block of the inode alone may count as changed.
abbrev pub IsUntouched : Bearer → Room → Room → (ℕ → Option (List ℕ)) → Option (ℕ → Option (List ℕ)) → (ℕ → Bool) → (ℕ → Bool) → TreeFault GrowFault → Type 0
IsUntouched b v now m told old new Exists = Unit {0}
IsUntouched b v now m told old new Absent = (now ≡ v) × (told ≡ Some m) × ((k : ℕ) → new k ≡ true → (old k ≡ true) ⊎ (k ≡ b.id))
IsUntouched b v now m told old new (Damaged page sort) = Unit {0}
IsUntouched b v now m told old new (Pages fault) = Unit {0}
IsUntouched b v now m told old new NoMemory = Unit {0}

-- an attribute of this name fits into one area of small data just where it fits into the other
abbrev pub FitAlike : List ℕ → List ℕ → List ℕ → Type 0
FitAlike name old new = (n : ℕ) → IsFitting new name n ↔ IsFitting old name n

-- The small data has the items that it had, or those without the attribute of the name, which was there.
abbrev pub LosesItem : List ℕ → List ℕ → List ℕ → Type 0
LosesItem name old new = (items_of new ≡ items_of old) ⊎ (HasSmall old name × (items_of new ≡ option_map (without name) (items_of old)))
