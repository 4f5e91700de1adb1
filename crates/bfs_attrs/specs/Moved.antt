-- An attribute that moves out of small data.
use Rattle.std.specs.Prelude.{◌≡◌, ◌⊎◌, ℕ, List, drop, Bool, Option, Some}
use Rattle.std.specs.FinMap.{get}
use Rattle.std.specs.Option.{option_map}
use Rattle.bfs_bitmap.specs.Runs.{Room}
use Rattle.bfs_node.specs.declared.fault.TreeFault.{TreeFault}
use Rattle.bfs_node.specs.declared.fault.TreeFault.TheVariants.{Exists, Absent, Damaged, Pages, NoMemory}
use Rattle.bfs_smalldata.specs.Items.{items_of}
use Rattle.bfs_smalldata.specs.Edits.{without}
use Rattle.bfs_stream.specs.Told.{contents}
use Rattle.bfs_stream.specs.declared.fault.GrowFault.{GrowFault}
use Rattle.bfs_stream_pages.specs.Steps.{IsUndamaged}
use Rattle.bfs_tree.specs.Trees.{Attribute}
use Rattle.bfs_attr.specs.Bearers.{Bearer, volume_at, attributes_at}
use Rattle.bfs_attr.specs.Changed.{Holds, AttributesNow, HasTaken, IsInSmallData}
use Rattle.bfs_attrs.specs.Put.{IsNotPutNew}

-- The attributes of an inode are held, and this one of a name stands in small data.
pub record IsWithin (b : Bearer) (v : Room) (m : ℕ → Option (List ℕ)) (name : List ℕ) (attribute : Attribute) : Type 0 where
  pub holds : Holds b v m
  pub within : IsInSmallData (volume_at b.geometry m) b.id name
  pub there : get (attributes_at (volume_at b.geometry m) b.id) name ≡ Some attribute

-- The attributes are those before, and the small data has the items before without the first of this name.
pub record HasMovedOut (b : Bearer) (v now : Room) (m : ℕ → Option (List ℕ)) (name : List ℕ) (told : Option (ℕ → Option (List ℕ))) (old new : ℕ → Bool) : Type 0 where
  pub now_are : AttributesNow b v now m (attributes_at (volume_at b.geometry m) b.id) told old new
  pub items : items_of (drop 232 (contents now_are.map b.id)) ≡ option_map (without name) (items_of (drop 232 (contents m b.id)))

-- It was taken out of small data, and then wasn't put into the attribute directory, for a reason.
pub record HasNotArrived (b : Bearer) (v : Room) (m : ℕ → Option (List ℕ)) (name : List ℕ) (attribute : Attribute) (blocks : ℕ) (fault : GrowFault) : Type 0 where
  pub told : Option (ℕ → Option (List ℕ))
  pub old : ℕ → Bool
  pub new : ℕ → Bool
  pub taken : HasTaken b v v m name told old new
  pub failed : IsNotPutNew b v taken.now_are.map attribute blocks (Pages fault)

-- Why it did not move: a block could not be had, and none is damaged; or it wasn't put after it was taken; or there is no memory.
abbrev pub IsNotMoved : Bearer → Room → (ℕ → Option (List ℕ)) → List ℕ → Attribute → ℕ → TreeFault GrowFault → Type 0
IsNotMoved b v m name attribute blocks Exists = ⊥
IsNotMoved b v m name attribute blocks Absent = ⊥
IsNotMoved b v m name attribute blocks (Damaged page sort) = ⊥
IsNotMoved b v m name attribute blocks (Pages fault) = IsUndamaged fault ⊎ HasNotArrived b v m name attribute blocks fault
IsNotMoved b v m name attribute blocks NoMemory = Unit {0}
