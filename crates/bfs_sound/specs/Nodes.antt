-- Node: the record of the inode at a block.
use Rattle.std.specs.Prelude.{◌≡◌, ◌≢◌, ◌≤◌, ◌<◌, ℕ, ◌/◌, ◌%◌, List, [], ◌++◌, length, take, drop, Some, Bool, true, false, ◌==◌, count_by}
use Rattle.std.specs.List.{before_first, AllByRecursion}
use Rattle.std.specs.Str.{bytes_eq}
use Rattle.std.specs.FinMap.{from_entries}
use Rattle.bfs_base.specs.declared.kind.KeyKind.TheVariants.{Text}
use Rattle.bfs_bytes.specs.Fields.{signed32_at, signed64_at, run_in}
use Rattle.bfs_super.specs.Conditions.{natural}
use Rattle.bfs_inode.specs.Refusals.{IsInode, Names}
use Rattle.bfs_smalldata.specs.Items.{Item, items_of}
use Rattle.bfs_smalldata.specs.Edits.{named, AreDistinct}
use Rattle.bfs_stream.specs.Places.{fields, HasStream}
use Rattle.bfs_tree.specs.declared.call.Kind.{Kind}
use Rattle.bfs_tree.specs.declared.call.Kind.TheVariants.{File, Dir, Link}
use Rattle.bfs_tree.specs.Trees.{Node}
use Rattle.bfs_values.specs.Reached.{IsWholeTree}
use Rattle.bfs_sound.specs.Volumes.{Volume, sizes}
use Rattle.bfs_sound.specs.Inodes.{kind_bits, mode_bits, is_short, content}
use Rattle.bfs_sound.specs.Attributes.{Named, own_name, is_name_item, attributes_in, attribute_directory, HasDirectory, attributes_of}

-- The target of a link: the bytes before the first zero of the inode's 144, or where the link is flagged as a long one,
-- its stream's bytes.
abbrev pub HasTarget : Volume → ℕ → List ℕ → Bool → Type 0
HasTarget v id target true = (before_first (λ b. b == 0) (take 144 (drop 72 (v.blocks id))) ≡ target) × (length target < 144)
HasTarget v id target false = HasStream (sizes v.geometry) v.blocks id × (target ≡ content v id)

-- What stands in the inode's stream. A file has its bytes there, and a directory a tree of names.
abbrev pub HasContent : Volume → ℕ → Node → Kind → Type 0
HasContent v id n File =
    HasStream (sizes v.geometry) v.blocks id × (n.size ≡ natural (fields (sizes v.geometry) v.blocks id).size) × (n.target ≡ [])
HasContent v id n Dir =
    HasStream (sizes v.geometry) v.blocks id × IsWholeTree Text (content v id) × (n.size ≡ 0) × (n.target ≡ [])
HasContent v id n Link = HasTarget v id n.target (is_short v id) × (n.size ≡ length n.target)

-- The root has no name and is its own parent. Another node's name is the bytes of the item with its own name, and its
-- parent is the one that the inode names.
pub record IsCalled (v : Volume) (id : ℕ) (n : Node) (items : List Item) : Type 0 where
  pub root_name : id ≡ v.geometry.root → n.name ≡ []
  pub root_parent : id ≡ v.geometry.root → n.parent ≡ id
  pub name : id ≢ v.geometry.root → (item : Item) × (named own_name items ≡ Some item) × (is_name_item item ≡ true) × (item.bytes ≡ n.name)
  pub parent : id ≢ v.geometry.root → Names (run_in (v.blocks id) 44) n.parent v.geometry.shift

-- no two of these have one name
abbrev pub AreApart : List Named → Type 0
AreApart entries = (name : List ℕ) → count_by (λ e. bytes_eq e.0 name) entries ≤ 1

-- Node: the inode at this block keeps its format, and this is its record. Its attributes are the items of its small data
-- and the rows of its attribute directory, no two of one name.
pub record HasNode (v : Volume) (id : ℕ) (n : Node) : Type 0 where
  pub inode : IsInode (v.blocks id) id v.geometry.shift
  pub kind : mode_bits v id / 4096 % 16 ≡ kind_bits n.kind
  pub mode : n.mode ≡ mode_bits v id % 4096
  pub uid : n.uid ≡ signed32_at (v.blocks id) 12
  pub gid : n.gid ≡ signed32_at (v.blocks id) 16
  pub created : n.created ≡ signed64_at (v.blocks id) 28
  pub modified : n.modified ≡ signed64_at (v.blocks id) 36
  pub changed : n.changed ≡ signed64_at (v.blocks id) 216
  pub content_is : HasContent v id n n.kind
  pub items : List Item
  pub area : items_of (drop 232 (v.blocks id)) ≡ Some items
  pub distinct : AreDistinct items
  pub short : AllByRecursion (λ item. length item.name ≤ 255) items
  pub called : IsCalled v id n items
  pub directory : HasDirectory v id (attribute_directory v id)
  pub apart : AreApart (attributes_in items ++ attributes_of v (attribute_directory v id))
  pub attributes : n.attributes ≡ from_entries (attributes_in items ++ attributes_of v (attribute_directory v id))
