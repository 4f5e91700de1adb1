-- The record of a node by the bytes of its inode and what it names.
use Rattle.std.specs.Prelude.{◌≡◌, ℕ, ◌%◌, ◌/◌, List, [], ◌++◌, length, Some, true, if◌then◌else◌}
use Rattle.std.specs.FinMap.{from_entries}
use Rattle.bfs_base.specs.declared.kind.KeyKind.TheVariants.{Text}
use Rattle.bfs_bytes.specs.Fields.{signed32_at, signed64_at}
use Rattle.bfs_super.specs.Conditions.{natural}
use Rattle.bfs_smalldata.specs.Items.{Item, items_of}
use Rattle.bfs_smalldata.specs.Edits.{AreDistinct}
use Rattle.bfs_stream.specs.Places.{fields}
use Rattle.bfs_tree.specs.declared.call.Kind.{Kind}
use Rattle.bfs_tree.specs.declared.call.Kind.TheVariants.{File, Dir, Link}
use Rattle.bfs_tree.specs.Trees.{Node}
use Rattle.bfs_values.specs.Reached.{IsWholeTree}
use Rattle.bfs_sound.specs.Volumes.{Volume, sizes}
use Rattle.bfs_sound.specs.Inodes.{kind_bits, mode_bits, is_short, content}
use Rattle.bfs_sound.specs.Attributes.{attributes_in, attribute_directory, HasDirectory, attributes_of}
use Rattle.bfs_sound.specs.Nodes.{IsCalled, AreApart, HasNode}
use Rattle.bfs_finding.specs.NodeFaults.{area_of, target_of}
use Rattle.bfs_node_check.specs.declared.role.Role.{Role}
use Rattle.bfs_node_check.specs.Roles.{is_node}
use Rattle.bfs_inode_walk.specs.Visited.{IsSoundIn}

module _ (v : Volume) (id : ℕ) where
  -- the target of a link: in the inode, or where it is flagged as a long one, in its stream
  abbrev pub target_in : Kind → List ℕ
  target_in File = []
  target_in Dir = []
  target_in Link = if is_short v id then target_of v id else content v id

  -- the size of a file, and the length of a target
  abbrev pub size_in : Kind → ℕ
  size_in File = natural (fields (sizes v.geometry) v.blocks id).size
  size_in Dir = 0
  size_in Link = length (target_in Link)

  -- the record of a node of this kind with this name and parent, and these items in its small data
  abbrev pub record_in : Kind → List ℕ → ℕ → List Item → Node
  record_in kind name parent items = record {
    kind = kind;
    name = name;
    parent = parent;
    mode = mode_bits v id % 4096;
    uid = signed32_at (v.blocks id) 12;
    gid = signed32_at (v.blocks id) 16;
    created = signed64_at (v.blocks id) 28;
    modified = signed64_at (v.blocks id) 36;
    changed = signed64_at (v.blocks id) 216;
    size = size_in kind;
    target = target_in kind;
    attributes = from_entries (attributes_in items ++ attributes_of v (attribute_directory v id));
  }

-- what else there is to find of a node: its kind, its items, a directory's tree, and its attributes, no two of one name
pub record HasParts (v : Volume) (id : ℕ) (kind : Kind) (items : List Item) : Type 0 where
  pub kind_is : mode_bits v id / 4096 % 16 ≡ kind_bits kind
  pub area : items_of (area_of v id) ≡ Some items
  pub distinct : AreDistinct items
  pub tree : kind ≡ Dir → IsWholeTree Text (content v id)
  pub directory : HasDirectory v id (attribute_directory v id)
  pub apart : AreApart (attributes_in items ++ attributes_of v (attribute_directory v id))

-- a node whose inode is right for its place, with these parts and called so, has this record
abbrev pub RecordIsNode : Type 0
RecordIsNode = (v : Volume) (id : ℕ) (role : Role) (kind : Kind) (name : List ℕ) (parent : ℕ) (items : List Item) → is_node role ≡ true → IsSoundIn v role id → HasParts v id kind items
    → IsCalled v id (record_in v id kind name parent items) items → HasNode v id (record_in v id kind name parent items)
