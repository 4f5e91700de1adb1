-- Stands: a tree's nodes, directories and indices stand on a volume.
use Rattle.std.specs.Prelude.{◌≡◌, ◌≢◌, ◌⊎◌, ◌↔◌, ℕ, ℤ, pos, List, Option, Some, None, codes}
use Rattle.std.specs.FinMap.{get, empty}
use Rattle.bfs_base.specs.Keys.{IsTreeKind}
use Rattle.bfs_base.specs.declared.kind.KeyKind.{KeyKind}
use Rattle.bfs_base.specs.declared.kind.KeyKind.TheVariants.{Text}
use Rattle.bfs_super.specs.Conditions.{natural}
use Rattle.bfs_node.specs.Page.{Row}
use Rattle.bfs_values.specs.Maps.{assoc}
use Rattle.bfs_tree.specs.declared.call.Kind.TheVariants.{Dir}
use Rattle.bfs_tree.specs.Trees.{Node, Tree, IsNode}
use Rattle.bfs_values.specs.Rows.{rows_in}
use Rattle.bfs_values.specs.Reached.{IsWholeTree}
use Rattle.bfs_sound.specs.Volumes.{Volume}
use Rattle.bfs_sound.specs.Inodes.{HasBit, mode_bits, content, IsOwner, rows_of, index_directory}
use Rattle.bfs_sound.specs.Nodes.{HasNode}

-- a child of the directory d with this name: a node but the root whose parent is d
pub record IsChild (tree : Tree) (d : ℕ) (name : List ℕ) (id : ℕ) : Type 0 where
  pub node : Node
  pub there : IsNode tree id node
  pub not_root : id ≢ tree.root
  pub parent : node.parent ≡ d
  pub named : node.name ≡ name

-- a row of the directory d: `.` to itself, `..` to its parent, or the name and the id of a child
abbrev pub IsRow : Tree → ℕ → Node → List ℕ → ℤ → Type 0
IsRow tree d n name value =
    ((name ≡ codes ".") × (value ≡ pos d))
    ⊎ ((name ≡ codes "..") × (value ≡ pos n.parent))
    ⊎ ((id : ℕ) × (value ≡ pos id) × IsChild tree d name id)

-- the rows of the directory d are these and no more
abbrev pub Lists : Volume → Tree → ℕ → Node → Type 0
Lists v tree d n = (name : List ℕ) (value : ℤ) → (assoc Text (rows_in Text (content v d)) name ≡ Some value) ↔ IsRow tree d n name value

-- a tree of names, and a tree of this kind of keys, in the stream of an inode that is marked as the index directory or an index
pub record IsIndex (v : Volume) (id : ℕ) (kind : KeyKind) : Type 0 where
  pub owner : IsOwner v id
  pub mode : HasBit (mode_bits v id) 29
  pub kind_is : IsTreeKind kind
  pub tree : IsWholeTree kind (content v id)

-- where there is an index directory, it is a tree of names in an inode that is marked as one
abbrev pub HasIndexDirectory : Volume → Option ℕ → Type 0
HasIndexDirectory v None = Unit {0}
HasIndexDirectory v (Some d) = IsIndex v d Text

-- the rows of the index directory, or none where there is none
abbrev pub index_rows : Volume → List Row
index_rows v = rows_of v (index_directory v)

-- the value of the index directory's row of a name
abbrev pub IsIndexRow : Volume → List ℕ → ℤ → Type 0
IsIndexRow v name value = assoc Text (index_rows v) name ≡ Some value

-- a row of the index directory names an index of the tree, of the tree's kind
pub record IsIndexOf (v : Volume) (tree : Tree) (name : List ℕ) (value : ℤ) : Type 0 where
  pub kind : KeyKind
  pub there : get tree.indices name ≡ Some kind
  pub number : value ≡ pos (natural value)
  pub index : IsIndex v (natural value) kind

-- Stands: each node's record is that of its inode, each directory's rows are `.`, `..` and its children, and the rows of the
-- index directory are the tree's indices, each with its kind. The tree has no indices just where the volume has no index
-- directory.
pub record Stands (v : Volume) (tree : Tree) : Type 0 where
  pub root : tree.root ≡ v.geometry.root
  pub nodes : (id : ℕ) (n : Node) → IsNode tree id n → HasNode v id n
  pub listings : (id : ℕ) (n : Node) → IsNode tree id n → n.kind ≡ Dir → Lists v tree id n
  pub directory : HasIndexDirectory v (index_directory v)
  pub none : (v.geometry.indices ≡ 0) ↔ (tree.indices ≡ empty)
  pub indices : (name : List ℕ) (value : ℤ) → IsIndexRow v name value → IsIndexOf v tree name value
  pub no_more : (name : List ℕ) (kind : KeyKind) → get tree.indices name ≡ Some kind → (value : ℤ) × IsIndexRow v name value
