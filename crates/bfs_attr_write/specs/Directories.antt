-- An attribute directory that is made, and one that is dropped.
use Rattle.std.specs.Prelude.{◌≡◌, ℕ, ℤ, List, [], drop, max, Bool, Option, None, Some}
use Rattle.bfs_bitmap.specs.Runs.{Room}
use Rattle.bfs_bytes.specs.declared.Run.{Run}
use Rattle.bfs_inode.specs.Inode.{inode_at}
use Rattle.bfs_inode.specs.Refusals.{Names}
use Rattle.bfs_node.specs.declared.fault.TreeFault.{TreeFault}
use Rattle.bfs_node.specs.declared.fault.TreeFault.TheVariants.{Exists, Absent, Damaged, Pages, NoMemory}
use Rattle.bfs_super.specs.Conditions.{ceil}
use Rattle.bfs_stream.specs.Faults.{IsGrowCause}
use Rattle.bfs_stream.specs.Sizes.{Sizes}
use Rattle.bfs_stream.specs.Told.{contents}
use Rattle.bfs_stream.specs.declared.fault.GrowFault.{GrowFault}
use Rattle.bfs_txn.specs.Faults.{Counts}
use Rattle.bfs_txn.specs.Told.{with_block}
use Rattle.bfs_sound.specs.Volumes.{Volume, sizes}
use Rattle.bfs_sound.specs.Attributes.{attribute_directory}
use Rattle.bfs_sound.specs.Inodes.{proper_rows}
use Rattle.bfs_make.specs.Made.{IsInodeOf, IsNotStored, formed_at}
use Rattle.bfs_attr.specs.Bearers.{Bearer, volume_at, attributes_at}
use Rattle.bfs_attr.specs.Changed.{Holds, AttributesNow}
use Rattle.bfs_attr.specs.Made.{directory_form}

-- The attributes of an inode are held, and it has no attribute directory.
pub record CanMake (b : Bearer) (v : Room) (m : ℕ → Option (List ℕ)) : Type 0 where
  pub holds : Holds b v m
  pub missing : attribute_directory (volume_at b.geometry m) b.id ≡ None

-- They are held, and it has an attribute directory at this block, which names no attribute.
pub record CanDrop (b : Bearer) (v : Room) (m : ℕ → Option (List ℕ)) (d : ℕ) : Type 0 where
  pub holds : Holds b v m
  pub there : attribute_directory (volume_at b.geometry m) b.id ≡ Some d
  pub empty : proper_rows (volume_at b.geometry m) d ≡ []

-- The block of an inode is another: of its fields the address of the attribute directory alone has changed, and is this run.
pub record HasAddress (m : ℕ → Option (List ℕ)) (id : ℕ) (run : Run) (told : Option (ℕ → Option (List ℕ))) : Type 0 where
  pub block : List ℕ
  pub is : told ≡ Some (with_block id block m)
  pub inode : inode_at block ≡ record (inode_at (contents m id)) { attributes = run }

-- At this block stands an inode as it is made for the attribute directory of an inode, with this stamp: it has its own address, and
-- that of the inode as its parent's.
pub record IsDirectoryInode (v : Volume) (id d : ℕ) (stamp : ℤ) : Type 0 where
  pub address : Run
  pub parent : Run
  pub own : Names address d v.geometry.shift
  pub above : Names parent id v.geometry.shift
  pub inode : IsInodeOf (sizes v.geometry).block_size (formed_at address (directory_form parent stamp)) (v.blocks d)

-- Made: the attributes are those before, the attribute directory stands at this block and names none of them, its inode was made with
-- the stamp, and the small data is as it was.
pub record HasDirectoryMade (b : Bearer) (v now : Room) (m : ℕ → Option (List ℕ)) (d : ℕ) (stamp : ℤ) (told : Option (ℕ → Option (List ℕ))) (old new : ℕ → Bool) : Type 0 where
  pub now_are : AttributesNow b v now m (attributes_at (volume_at b.geometry m) b.id) told old new
  pub there : attribute_directory (volume_at b.geometry now_are.map) b.id ≡ Some d
  pub empty : proper_rows (volume_at b.geometry now_are.map) d ≡ []
  pub inode : IsDirectoryInode (volume_at b.geometry now_are.map) b.id d stamp
  pub small : drop 232 (contents now_are.map b.id) ≡ drop 232 (contents m b.id)

-- Dropped: the attributes are those before, there is no attribute directory, and the small data is as it was.
pub record HasDirectoryDropped (b : Bearer) (v now : Room) (m : ℕ → Option (List ℕ)) (told : Option (ℕ → Option (List ℕ))) (old new : ℕ → Bool) : Type 0 where
  pub now_are : AttributesNow b v now m (attributes_at (volume_at b.geometry m) b.id) told old new
  pub missing : attribute_directory (volume_at b.geometry now_are.map) b.id ≡ None
  pub small : drop 232 (contents now_are.map b.id) ≡ drop 232 (contents m b.id)

-- Why none was made: its inode, or the 2,048 bytes of its tree, were not stored; or a block could not be had, and none is damaged; or
-- there is no memory.
abbrev pub IsNotMade : Sizes → Room → (ℕ → Option (List ℕ)) → TreeFault GrowFault → Type 0
IsNotMade s v m Exists = ⊥
IsNotMade s v m Absent = ⊥
IsNotMade s v m (Damaged page sort) = ⊥
IsNotMade s v m (Pages fault) = IsNotStored s v m (ceil 2048 s.block_size) fault
IsNotMade s v m NoMemory = Unit {0}

-- the causes of a fault in what lies below, for a block size
abbrev pub HasMakeCause : ℕ → Counts → Counts → TreeFault GrowFault → Type 0
HasMakeCause size old new Exists = ⊥
HasMakeCause size old new Absent = ⊥
HasMakeCause size old new (Damaged page sort) = ⊥
HasMakeCause size old new (Pages fault) = IsGrowCause (max 1 (ceil 2048 size)) old new fault
HasMakeCause size old new NoMemory = Unit {0}
