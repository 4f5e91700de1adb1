-- An attribute of a name that none has, and why it was not put.
use Rattle.std.specs.Prelude.{◌≡◌, ◌⊎◌, ℕ, List, Option, None}
use Rattle.std.specs.FinMap.{get}
use Rattle.std.specs.Option.{option_map}
use Rattle.bfs_bitmap.specs.Runs.{Room}
use Rattle.bfs_node.specs.declared.fault.TreeFault.{TreeFault}
use Rattle.bfs_node.specs.declared.fault.TreeFault.TheVariants.{Exists, Absent, Damaged, Pages, NoMemory}
use Rattle.bfs_smalldata.specs.Items.{Item, items_of}
use Rattle.bfs_smalldata.specs.Edits.{with_item}
use Rattle.bfs_stream.specs.declared.fault.GrowFault.{GrowFault}
use Rattle.bfs_stream_pages.specs.Steps.{IsUndamaged}
use Rattle.bfs_tree.specs.Trees.{Attribute}
use Rattle.bfs_attr.specs.Bearers.{Bearer, volume_at, attributes_at}
use Rattle.bfs_attr.specs.Changed.{Holds}
use Rattle.bfs_attrs.specs.Stored.{IsNotAdded, IsNotBegun}

-- The attributes of an inode are held, and none of them has this name.
pub record IsUnknown (b : Bearer) (v : Room) (m : ℕ → Option (List ℕ)) (name : List ℕ) : Type 0 where
  pub holds : Holds b v m
  pub unknown : get (attributes_at (volume_at b.geometry m) b.id) name ≡ None

-- Why none was put: a block could not be had, and none is damaged; or it doesn't fit into small data, and was not put into the
-- attribute directory; or there is no memory.
abbrev pub IsNotPutNew : Bearer → Room → (ℕ → Option (List ℕ)) → Attribute → ℕ → TreeFault GrowFault → Type 0
IsNotPutNew b v m attribute blocks Exists = ⊥
IsNotPutNew b v m attribute blocks Absent = ⊥
IsNotPutNew b v m attribute blocks (Damaged page sort) = ⊥
IsNotPutNew b v m attribute blocks (Pages fault) = IsUndamaged fault ⊎ (((d : ℕ) × IsNotAdded b v m d attribute blocks (Pages fault)) ⊎ IsNotBegun b v m attribute blocks (Pages fault))
IsNotPutNew b v m attribute blocks NoMemory = Unit {0}

-- The small data has the items that it had with this one, or those alone.
abbrev pub GainsItem : Item → List ℕ → List ℕ → Type 0
GainsItem item old new = (items_of new ≡ option_map (with_item item) (items_of old)) ⊎ (items_of new ≡ items_of old)
