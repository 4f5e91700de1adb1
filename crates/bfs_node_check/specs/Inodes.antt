-- What is wrong with an inode, by its bytes, and what is right about a node.
use Rattle.std.specs.Prelude.{◌≡◌, ◌≤◌, ◌<◌, ◌/◌, ◌%◌, ℕ, pos, List, length, drop, Some, true}
use Rattle.std.specs.List.{AllByRecursion}
use Rattle.bfs_bytes.specs.Fields.{unsigned_at, signed32_at}
use Rattle.bfs_inode.specs.declared.fault.InodeFault.{InodeFault}
use Rattle.bfs_inode.specs.Refusals.{IsRefusal}
use Rattle.bfs_smalldata.specs.Items.{Item, items_of}
use Rattle.bfs_tree.specs.declared.call.Kind.{Kind}
use Rattle.bfs_tree.specs.declared.call.Kind.TheVariants.{Link}
use Rattle.bfs_sound.specs.Volumes.{Volume}
use Rattle.bfs_sound.specs.Inodes.{kind_bits, mode_bits, is_short}
use Rattle.bfs_finding.specs.declared.finding.InodePart.TheVariants as parts
use Rattle.bfs_finding.specs.NodeFaults.{IsFieldOf, area_of, target_of}
use Rattle.bfs_node_check.specs.declared.inode.InodeWrong.{InodeWrong}
use Rattle.bfs_node_check.specs.declared.role.Role.{Role}
use Rattle.bfs_node_check.specs.Roles.{IsGoodMode, is_node}
use Rattle.bfs_node_check.specs.Areas.{IsShort, IsWrongArea, IsShortLink, target_in}

-- the first of its fields that is wrong; its mode; of a node the place of an item, or the target of a short link
pub data IsWrongInode (bytes : List ℕ) (block shift : ℕ) (role : Role) (w : InodeWrong) : Type 0 where
  in_field : (fault : InodeFault) → IsRefusal bytes block shift fault → IsFieldOf fault w.part w.found → IsWrongInode bytes block shift role w
  in_mode : ¬ IsGoodMode role (unsigned_at 4 bytes 20) → w.part ≡ parts.Mode → w.found ≡ signed32_at bytes 20 → IsWrongInode bytes block shift role w
  in_area : is_node role ≡ true → (at : ℕ) → IsWrongArea (drop 232 bytes) at → w.part ≡ parts.SmallData → w.found ≡ pos at → IsWrongInode bytes block shift role w
  in_target : is_node role ≡ true → IsShortLink bytes → 144 ≤ length (target_in bytes) → w.part ≡ parts.Target → w.found ≡ pos 144 → IsWrongInode bytes block shift role w

-- A node has a kind, small data with names of at most 255 bytes, and where it is a short link, a target that a zero ends.
pub record IsGoodNode (v : Volume) (b : ℕ) : Type 0 where
  pub kind : Kind
  pub kind_is : mode_bits v b / 4096 % 16 ≡ kind_bits kind
  pub items : List Item
  pub area : items_of (area_of v b) ≡ Some items
  pub short : AllByRecursion IsShort items
  pub target : kind ≡ Link → is_short v b ≡ true → length (target_of v b) < 144
