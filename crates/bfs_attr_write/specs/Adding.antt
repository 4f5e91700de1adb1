-- A row that is put for a stored attribute into an attribute directory.
use Rattle.std.specs.Prelude.{◌≡◌, ℕ, true, List, Option, None, Some, Bool}
use Rattle.std.specs.FinMap.{get}
use Rattle.bfs_base.specs.Lists.{Has}
use Rattle.bfs_bitmap.specs.Runs.{Room}
use Rattle.bfs_node.specs.declared.fault.TreeFault.{TreeFault}
use Rattle.bfs_node.specs.declared.fault.TreeFault.TheVariants.{Exists, Absent, Damaged, Pages, NoMemory}
use Rattle.bfs_stream.specs.Grown.{AreWritten}
use Rattle.bfs_stream.specs.Places.{whole_at}
use Rattle.bfs_stream.specs.Sizes.{Origin}
use Rattle.bfs_stream.specs.Told.{contents}
use Rattle.bfs_stream.specs.declared.fault.GrowFault.{GrowFault}
use Rattle.bfs_stream_pages.specs.Causes.{HasFailed}
use Rattle.bfs_tree.specs.Trees.{Attribute, Attributes}
use Rattle.bfs_maps.specs.Mapped.{HasHeld}
use Rattle.bfs_sound.specs.Attributes.{attribute_directory}
use Rattle.bfs_sound.specs.Inodes.{is_proper}
use Rattle.bfs_sound.specs.Volumes.{sizes}
use Rattle.bfs_make.specs.Made.{IsNewStream}
use Rattle.bfs_attr.specs.Bearers.{Bearer, volume_at, origin, attributes_at}
use Rattle.bfs_attr.specs.Changed.{attribute_blocks, Holds, AttributesNow}
use Rattle.bfs_attr.specs.Made.{IsAttributeInode}

-- The attributes of an inode are held, their attribute directory stands at this block, and none of them has this name, which is
-- neither `.` nor `..`.
pub record CanAdd (b : Bearer) (v : Room) (m : ℕ → Option (List ℕ)) (d : ℕ) (name : List ℕ) : Type 0 where
  pub holds : Holds b v m
  pub there : attribute_directory (volume_at b.geometry m) b.id ≡ Some d
  pub unknown : get (attributes_at (volume_at b.geometry m) b.id) name ≡ None
  pub proper : is_proper name ≡ true

-- The inode of an attribute was stored at a block: its stream is new and is held, each of its blocks is changed since, and nothing
-- else has changed.
pub record IsStored (b : Bearer) (v now : Room) (m map : ℕ → Option (List ℕ)) (id : ℕ) (attribute : Attribute) (old new : ℕ → Bool) : Type 0 where
  pub fresh : IsNewStream (origin b.geometry id) v now m map
  pub held : HasHeld (origin b.geometry id) now map
  pub inode : IsAttributeInode (volume_at b.geometry map) id attribute
  pub written : AreWritten v old new (whole_at (sizes b.geometry) (contents map) id)
  pub entered : (k : ℕ) → Has (whole_at (sizes b.geometry) (contents map) id) k → new k ≡ true

-- A row was put: the attributes are these since, the inode that bears them is as it was, and none of their blocks has gone.
pub record HasRowPut (b : Bearer) (v now : Room) (m : ℕ → Option (List ℕ)) (attributes : Attributes) (told : Option (ℕ → Option (List ℕ))) (old new : ℕ → Bool) : Type 0 where
  pub now_are : AttributesNow b v now m attributes told old new
  pub bearer : now_are.map b.id ≡ m b.id
  pub keeps : (k : ℕ) → Has (attribute_blocks b.geometry m b.id) k → Has (attribute_blocks b.geometry now_are.map b.id) k

-- Why no row was put for it: a block of the directory's tree could not be had, or a page added, for a reason; or there is no memory.
abbrev pub IsRowFault : Origin → Room → (ℕ → Option (List ℕ)) → TreeFault GrowFault → Type 0
IsRowFault o v m Exists = ⊥
IsRowFault o v m Absent = ⊥
IsRowFault o v m (Damaged page sort) = ⊥
IsRowFault o v m (Pages fault) = HasFailed o v m fault
IsRowFault o v m NoMemory = Unit {0}
