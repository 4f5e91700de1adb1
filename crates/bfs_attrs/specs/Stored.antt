-- An attribute that is put into the attribute directory, and why none was.
use Rattle.std.specs.Prelude.{◌≡◌, ◌⊎◌, ℕ, ℤ, List, drop, Bool, true, Option, None}
use Rattle.std.specs.FinMap.{get}
use Rattle.bfs_bitmap.specs.Runs.{Room}
use Rattle.bfs_node.specs.declared.fault.TreeFault.{TreeFault}
use Rattle.bfs_node.specs.declared.fault.TreeFault.TheVariants.{Exists, Absent, Damaged, Pages, NoMemory}
use Rattle.bfs_stream.specs.Faults.{IsGrowCause}
use Rattle.bfs_stream.specs.declared.fault.GrowFault.{GrowFault}
use Rattle.bfs_stream.specs.Told.{contents}
use Rattle.bfs_stream_pages.specs.Causes.{HasFailed}
use Rattle.bfs_tree.specs.Trees.{Attribute, Attributes}
use Rattle.bfs_txn.specs.Faults.{Counts}
use Rattle.bfs_sound.specs.Inodes.{is_proper}
use Rattle.bfs_sound.specs.Volumes.{sizes}
use Rattle.bfs_make.specs.Made.{IsNotStored}
use Rattle.bfs_attr.specs.Bearers.{Bearer, volume_at, origin, attributes_at}
use Rattle.bfs_attr.specs.Changed.{AttributesNow}
use Rattle.bfs_attr_write.specs.Adding.{IsStored}
use Rattle.bfs_attr_write.specs.Directories.{CanMake, HasDirectoryMade, IsNotMade}

-- The attribute's inode was stored at a block, and then its row wasn't put, for a reason.
pub record HasNoRowFor (b : Bearer) (v : Room) (m : ℕ → Option (List ℕ)) (d : ℕ) (attribute : Attribute) (fault : GrowFault) : Type 0 where
  pub now : Room
  pub map : ℕ → Option (List ℕ)
  pub id : ℕ
  pub old : ℕ → Bool
  pub new : ℕ → Bool
  pub stored : IsStored b v now m map id attribute old new
  pub failed : HasFailed (origin b.geometry d) now map fault

-- Why it was not put there: its inode, with so many blocks of bytes, was not stored; or it was, and its row not put; or there is no
-- memory.
abbrev pub IsNotAdded : Bearer → Room → (ℕ → Option (List ℕ)) → ℕ → Attribute → ℕ → TreeFault GrowFault → Type 0
IsNotAdded b v m d attribute blocks Exists = ⊥
IsNotAdded b v m d attribute blocks Absent = ⊥
IsNotAdded b v m d attribute blocks (Damaged page sort) = ⊥
IsNotAdded b v m d attribute blocks (Pages fault) = IsNotStored (sizes b.geometry) v m blocks fault ⊎ HasNoRowFor b v m d attribute fault
IsNotAdded b v m d attribute blocks NoMemory = Unit {0}

-- the causes of a fault in what lies below, where so many blocks are asked for at once
abbrev pub HasAddCause : ℕ → Counts → Counts → TreeFault GrowFault → Type 0
HasAddCause n old new Exists = Unit {0}
HasAddCause n old new Absent = ⊥
HasAddCause n old new (Damaged page sort) = Unit {0}
HasAddCause n old new (Pages fault) = IsGrowCause n old new fault
HasAddCause n old new NoMemory = Unit {0}

-- The attributes of an inode are held, it has no attribute directory, and none of them has this name, which is neither `.` nor `..`.
pub record CanBegin (b : Bearer) (v : Room) (m : ℕ → Option (List ℕ)) (name : List ℕ) : Type 0 where
  pub make : CanMake b v m
  pub unknown : get (attributes_at (volume_at b.geometry m) b.id) name ≡ None
  pub proper : is_proper name ≡ true

-- The attributes are these since, and the small data is as it was.
pub record HasBegun (b : Bearer) (v now : Room) (m : ℕ → Option (List ℕ)) (attributes : Attributes) (told : Option (ℕ → Option (List ℕ))) (old new : ℕ → Bool) : Type 0 where
  pub now_are : AttributesNow b v now m attributes told old new
  pub small : drop 232 (contents now_are.map b.id) ≡ drop 232 (contents m b.id)

-- The attribute directory was made, and then the attribute wasn't put there, for a reason.
pub record HasNotFollowed (b : Bearer) (v : Room) (m : ℕ → Option (List ℕ)) (attribute : Attribute) (blocks : ℕ) (fault : GrowFault) : Type 0 where
  pub now : Room
  pub d : ℕ
  pub stamp : ℤ
  pub told : Option (ℕ → Option (List ℕ))
  pub old : ℕ → Bool
  pub new : ℕ → Bool
  pub made : HasDirectoryMade b v now m d stamp told old new
  pub failed : IsNotAdded b now made.now_are.map d attribute blocks (Pages fault)

-- Why none was put there: the attribute directory was not made; or it was, and the attribute not put there; or there is no memory.
abbrev pub IsNotBegun : Bearer → Room → (ℕ → Option (List ℕ)) → Attribute → ℕ → TreeFault GrowFault → Type 0
IsNotBegun b v m attribute blocks Exists = ⊥
IsNotBegun b v m attribute blocks Absent = ⊥
IsNotBegun b v m attribute blocks (Damaged page sort) = ⊥
IsNotBegun b v m attribute blocks (Pages fault) = IsNotMade (sizes b.geometry) v m (Pages fault) ⊎ HasNotFollowed b v m attribute blocks fault
IsNotBegun b v m attribute blocks NoMemory = Unit {0}
