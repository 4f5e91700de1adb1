-- An inode's block that was written.
use Rattle.std.specs.Prelude.{◌≡◌, ◌<◌, ℕ, ◌/◌, ◌%◌, List, length}
use Rattle.bfs_bytes.specs.Fields.{signed32_at, signed64_at}
use Rattle.bfs_inode.specs.Inode.{inode_at}
use Rattle.bfs_tree.specs.Trees.{Node}
use Rattle.bfs_sound.specs.Volumes.{Volume}
use Rattle.bfs_sound.specs.Inodes.{kind_bits, mode_bits}
use Rattle.bfs_shift.specs.Stocked.{HasWords}

-- Of the inode's fields, mode, user, group, stamps and stream may be others since; all else is the same.
pub record KeepsPlace (old new : List ℕ) : Type 0 where
  pub magic : (inode_at new).magic1 ≡ (inode_at old).magic1
  pub number : (inode_at new).inode_num ≡ (inode_at old).inode_num
  pub flags : (inode_at new).flags ≡ (inode_at old).flags
  pub parent : (inode_at new).parent ≡ (inode_at old).parent
  pub attributes : (inode_at new).attributes ≡ (inode_at old).attributes
  pub inode_size : (inode_at new).inode_size ≡ (inode_at old).inode_size
  pub small_data : (inode_at new).small_data ≡ (inode_at old).small_data

-- both blocks hold bytes, and the old one reaches past the fixed fields
pub record HasBytes (old new : List ℕ) : Type 0 where
  pub long : 232 < length old
  pub before : HasWords old
  pub after : HasWords new

-- another record of the same node: mode, user, group, stamps, size and target may be others
pub record IsSamePlace (n now : Node) : Type 0 where
  pub kind : now.kind ≡ n.kind
  pub name : now.name ≡ n.name
  pub parent : now.parent ≡ n.parent
  pub attributes : now.attributes ≡ n.attributes

-- the inode at this block has the node's kind, mode, user, group and stamps
pub record HasStatus (v : Volume) (id : ℕ) (n : Node) : Type 0 where
  pub kind : mode_bits v id / 4096 % 16 ≡ kind_bits n.kind
  pub mode : n.mode ≡ mode_bits v id % 4096
  pub uid : n.uid ≡ signed32_at (v.blocks id) 12
  pub gid : n.gid ≡ signed32_at (v.blocks id) 16
  pub created : n.created ≡ signed64_at (v.blocks id) 28
  pub modified : n.modified ≡ signed64_at (v.blocks id) 36
  pub changed : n.changed ≡ signed64_at (v.blocks id) 216
