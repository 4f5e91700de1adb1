-- Why attributes are not read.
use Rattle.std.specs.Prelude.{◌≡◌, ◌⊎◌, ℕ, Option, Some}
use Rattle.bfs_base.specs.declared.kind.KeyKind.TheVariants.{Text}
use Rattle.bfs_node.specs.declared.fault.TreeFault.{TreeFault}
use Rattle.bfs_node.specs.declared.fault.TreeFault.TheVariants.{Exists, Absent, Damaged, Pages, NoMemory}
use Rattle.bfs_txn.specs.declared.fault.BlockFault.TheVariants as block
use Rattle.bfs_stream.specs.declared.fault.GrowFault.{GrowFault}
use Rattle.bfs_stream.specs.declared.fault.GrowFault.TheVariants as grow
use Rattle.bfs_stream_pages.specs.Steps.{IsUndamaged}
use Rattle.bfs_values.specs.Kinds.{IsWanted}
use Rattle.bfs_sound.specs.Volumes.{Volume}
use Rattle.bfs_sound.specs.Inodes.{content}
use Rattle.bfs_values.specs.Reached.{IsWholeTree}
use Rattle.bfs_values.specs.Rows.{rows_in}
use Rattle.bfs_sound.specs.Attributes.{attribute_directory}
use Rattle.bfs_attr.specs.Bearers.{HasAttributes}
use Rattle.bfs_attr.specs.Directories.{AreInodes}
use Rattle.bfs_attr.specs.declared.directory.Shortage.{Shortage}
use Rattle.bfs_attr.specs.declared.directory.Shortage.TheVariants as short

-- the bytes of an attribute directory are a whole tree, and each row of it but `.` and `..` names a block of the volume
abbrev pub HasRows : Volume → ℕ → Type 0
HasRows v d = IsWholeTree Text (content v d) × AreInodes v.geometry.blocks (rows_in Text (content v d))

-- A block that may be called damaged: the inode that bears the attributes; the inode of the attribute directory; or, where the
-- directory's rows aren't as they have to be, a block that was reached by one.
abbrev pub IsBlamed : Volume → ℕ → Option ℕ → ℕ → Type 0
IsBlamed v id directory k = (k ≡ id) ⊎ ((directory ≡ Some k) ⊎ ((d : ℕ) × (directory ≡ Some d) × ¬ HasRows v d))

-- in the attribute directory a page that is called damaged isn't as it has to be; or a block could not be had, and one that is
-- damaged is one that may be blamed
abbrev pub IsDirectoryFault : Volume → ℕ → Option ℕ → TreeFault GrowFault → Type 0
IsDirectoryFault v id directory Exists = ⊥
IsDirectoryFault v id directory Absent = ⊥
IsDirectoryFault v id directory (Damaged page sort) = (d : ℕ) × (directory ≡ Some d) × ¬ IsWanted Text (content v d) page sort
IsDirectoryFault v id directory (Pages fault) = IsUndamaged fault ⊎ ((k : ℕ) × (fault ≡ grow.Block (block.Damaged k)) × IsBlamed v id directory k)
IsDirectoryFault v id directory NoMemory = Unit {0}

-- Attributes that are told were not read: a page of the attribute directory isn't as it has to be; or a block could not be had,
-- and none is damaged, unless the attributes don't stand, and then it is one that may be blamed; or there is no room for the
-- answer.
abbrev pub IsAttributeFault : Volume → ℕ → TreeFault GrowFault → Type 0
IsAttributeFault v id Exists = ⊥
IsAttributeFault v id Absent = ⊥
IsAttributeFault v id (Damaged page sort) = (d : ℕ) × (attribute_directory v id ≡ Some d) × ¬ IsWanted Text (content v d) page sort
IsAttributeFault v id (Pages fault) = IsUndamaged fault ⊎ ((k : ℕ) × (fault ≡ grow.Block (block.Damaged k)) × IsBlamed v id (attribute_directory v id) k × ¬ HasAttributes v id)
IsAttributeFault v id NoMemory = Unit {0}

-- no page is called damaged
abbrev pub IsNoPage : TreeFault GrowFault → Type 0
IsNoPage Exists = ⊥
IsNoPage Absent = ⊥
IsNoPage (Damaged page sort) = ⊥
IsNoPage (Pages fault) = Unit {0}
IsNoPage NoMemory = Unit {0}

-- the fault that a want of inodes is: the attribute directory's inode is damaged; or there is no memory
abbrev pub IsFaultOf : ℕ → Shortage → TreeFault GrowFault → Type 0
IsFaultOf directory short.Unsound fault = fault ≡ Pages (grow.Block (block.Damaged directory))
IsFaultOf directory short.NoMemory fault = fault ≡ NoMemory
