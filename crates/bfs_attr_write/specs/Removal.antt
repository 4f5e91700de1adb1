-- A row that is taken out of an attribute directory, with the inode that it names.
use Rattle.std.specs.Prelude.{◌≡◌, ◌<◌, ◌⊎◌, ℕ, true, List, Bool, Option, Some, IfSome}
use Rattle.bfs_base.specs.declared.kind.KeyKind.TheVariants.{Text}
use Rattle.bfs_bitmap.specs.Runs.{Room, per_block, is_reserved, marked}
use Rattle.bfs_node.specs.declared.fault.TreeFault.{TreeFault}
use Rattle.bfs_node.specs.declared.fault.TreeFault.TheVariants.{Exists, Absent, Damaged, Pages, NoMemory}
use Rattle.bfs_super.specs.Geometry.{geometry_of}
use Rattle.bfs_super.specs.declared.sup.Super.{Super}
use Rattle.bfs_stream.specs.declared.fault.GrowFault.{GrowFault}
use Rattle.bfs_stream_pages.specs.Held.{stream_of}
use Rattle.bfs_stream_pages.specs.Steps.{IsUndamaged}
use Rattle.bfs_maps.specs.Refused.{IsNumberPage}
use Rattle.bfs_sound.specs.Attributes.{attribute_directory}
use Rattle.bfs_sound.specs.Inodes.{is_proper}
use Rattle.bfs_sound.specs.Volumes.{Volume}
use Rattle.bfs_attr.specs.Bearers.{Bearer, bearer_of, volume_at, origin}
use Rattle.bfs_tree.specs.Trees.{Attributes}
use Rattle.bfs_attr.specs.Changed.{Holds, AttributesNow}
use Rattle.bfs_attr.specs.Laws.{HasNoRow}

-- The attributes of an inode are held, their attribute directory stands at this block, and the name is neither `.` nor `..`.
pub record CanTake (b : Bearer) (v : Room) (m : ℕ → Option (List ℕ)) (d : ℕ) (name : List ℕ) : Type 0 where
  pub holds : Holds b v m
  pub there : attribute_directory (volume_at b.geometry m) b.id ≡ Some d
  pub proper : is_proper name ≡ true

-- A row was taken, and the inode that it named given back: the attributes are these since, and the inode that bears them is as it was.
pub record HasRowTaken (b : Bearer) (v now : Room) (m : ℕ → Option (List ℕ)) (attributes : Attributes) (told : Option (ℕ → Option (List ℕ))) (old new : ℕ → Bool) : Type 0 where
  pub now_are : AttributesNow b v now m attributes told old new
  pub bearer : now_are.map b.id ≡ m b.id

-- Why no row was taken: the attribute directory has none of this name; or a block could not be had, and none is damaged; or there
-- is no memory.
abbrev pub IsNotTakenOut : Volume → ℕ → List ℕ → TreeFault GrowFault → Type 0
IsNotTakenOut v id name Exists = ⊥
IsNotTakenOut v id name Absent = HasNoRow v id name
IsNotTakenOut v id name (Damaged page sort) = ⊥
IsNotTakenOut v id name (Pages fault) = IsUndamaged fault
IsNotTakenOut v id name NoMemory = Unit {0}

-- So it is whatever stands there: a page isn't as it has to be in the stream since; or a block could not be had, and none is
-- damaged, unless there is no inode whose attributes are held and have their directory at this block.
abbrev pub IsTakenOutFault : Super → ℕ → List ℕ → Room → (ℕ → Option (List ℕ)) → Option (ℕ → Option (List ℕ)) → TreeFault GrowFault → Type 0
IsTakenOutFault s d name v m told Exists = ⊥
IsTakenOutFault s d name v m told Absent = Unit {0}
IsTakenOutFault s d name v m told (Damaged page sort) = IfSome told (λ map. ¬ IsNumberPage Text (stream_of (origin (geometry_of s) d) map) page sort)
IsTakenOutFault s d name v m told (Pages fault) = IsUndamaged fault ⊎ ((inode : ℕ) → CanTake (bearer_of inode s) v m d name → ⊥)
IsTakenOutFault s d name v m told NoMemory = Unit {0}

-- What was given back and isn't free yet stays so; and where none of it was marked, none is.
pub record KeepsClear (v now : Room) (m map : ℕ → Option (List ℕ)) : Type 0 where
  pub holds : (k : ℕ) → is_reserved v.given k ≡ true → is_reserved now.given k ≡ true
  pub clear : ((k : ℕ) → k < v.blocks → is_reserved v.given k ≡ true → ¬ (marked (per_block v) m k ≡ 1)) → (k : ℕ) → k < v.blocks → is_reserved now.given k ≡ true → ¬ (marked (per_block v) map k ≡ 1)
