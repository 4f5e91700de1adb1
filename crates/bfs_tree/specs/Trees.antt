-- The plain tree: nodes by id, and the kinds of the indices by name. It has no pages, runs or bits.
use Rattle.std.specs.Prelude.{◌≡◌, ◌≢◌, ◌⊎◌, ℕ, ℤ, pos, List, [], Option, Some, Bool, true, false, not, ◌&&◌, ◌==◌, codes}
use Rattle.std.specs.List.{filter, find}
use Rattle.std.specs.Str.{bytes_eq}
use Rattle.std.specs.Ordering.{nat_cmp}
use Rattle.std.specs.FinMap.{FinMap, get, insert, entries, empty}
use Rattle.bfs_base.specs.Keys.{text_cmp}
use Rattle.bfs_base.specs.declared.kind.KeyKind.{KeyKind}
use Rattle.bfs_base.specs.declared.kind.KeyKind.TheVariants.{Text, I64}
use Rattle.bfs_tree.specs.declared.call.Kind.{Kind}
use Rattle.bfs_tree.specs.declared.call.Kind.TheVariants.{File, Dir, Link}
use Rattle.bfs_tree.specs.Names.{is_bad_name}

-- an attribute: its type code and its bytes
pub record Attribute : Type 0 where
  pub code : ℕ
  pub bytes : List ℕ

-- the attributes by name, in the order of bytes
abbrev pub Attributes : Type 0
Attributes = FinMap text_cmp Attribute

-- the record of a node
pub record Node : Type 0 where
  pub kind : Kind
  pub name : List ℕ
  pub parent : ℕ
  pub mode : ℕ
  pub uid : ℤ
  pub gid : ℤ
  pub created : ℤ
  pub modified : ℤ
  pub changed : ℤ
  pub size : ℕ
  pub target : List ℕ
  pub attributes : Attributes

-- the nodes by id
abbrev pub Nodes : Type 0
Nodes = FinMap nat_cmp Node

-- the kinds of the indices by name; a volume may have none
abbrev pub Indices : Type 0
Indices = FinMap text_cmp KeyKind

pub record Tree : Type 0 where
  pub root : ℕ
  pub nodes : Nodes
  pub indices : Indices

abbrev pub is_file : Kind → Bool
is_file File = true
is_file Dir = false
is_file Link = false

abbrev pub is_dir : Kind → Bool
is_dir File = false
is_dir Dir = true
is_dir Link = false

abbrev pub is_link : Kind → Bool
is_link File = false
is_link Dir = false
is_link Link = true

-- of these nodes, all but the root whose parent is the directory d
abbrev pub children_in : ℕ → ℕ → List (ℕ × Node) → List (ℕ × Node)
children_in root d nodes = filter (λ e. not (e.0 == root) && (e.1.parent == d)) nodes

-- of these nodes, the first of those that has this name
abbrev pub child_in : ℕ → ℕ → List ℕ → List (ℕ × Node) → Option (ℕ × Node)
child_in root d name nodes = find (λ e. bytes_eq e.1.name name) (children_in root d nodes)

-- Children: all nodes but the root whose parent is d
abbrev pub children : Tree → ℕ → List (ℕ × Node)
children tree d = children_in tree.root d (entries tree.nodes)

-- the child of this name, with its id
abbrev pub child : Tree → ℕ → List ℕ → Option (ℕ × Node)
child tree d name = child_in tree.root d name (entries tree.nodes)

-- the node with this id is this one
abbrev pub IsNode : Tree → ℕ → Node → Type 0
IsNode tree id node = get tree.nodes id ≡ Some node

abbrev pub IsDirectory : Tree → ℕ → Type 0
IsDirectory tree id = (node : Node) × IsNode tree id node × (node.kind ≡ Dir)

-- Parents lead from a node up to another: the node is that one, or it has a parent from which they lead there.
pub data LeadsTo (tree : Tree) (top : ℕ) : ℕ → Type 0 where
  at_top : LeadsTo tree top top
  by_parent : (id : ℕ) (node : Node) → IsNode tree id node → LeadsTo tree top node.parent → LeadsTo tree top id

-- What a plain tree keeps of its nodes. The root is a directory that has no name and is its own parent. Each node's
-- parent is a directory of the tree, and parents lead to the root. Two nodes with one parent have different names, and
-- no name but the root's is bad.
pub record HasPlainNodes (tree : Tree) : Type 0 where
  pub root : IsDirectory tree tree.root
  pub own : (node : Node) → IsNode tree tree.root node → (node.name ≡ []) × (node.parent ≡ tree.root)
  pub parents : (id : ℕ) (node : Node) → IsNode tree id node → IsDirectory tree node.parent
  pub lead : (id : ℕ) (node : Node) → IsNode tree id node → LeadsTo tree tree.root id
  pub apart : (a b : ℕ) (m n : Node) → IsNode tree a m → IsNode tree b n → m.parent ≡ n.parent → m.name ≡ n.name → a ≡ b
  pub named : (id : ℕ) (node : Node) → IsNode tree id node → id ≢ tree.root → is_bad_name node.name ≡ false

-- the three built-in indices are there with their kinds
pub record HasBuiltIn (indices : Indices) : Type 0 where
  pub by_name : get indices (codes "name") ≡ Some Text
  pub by_size : get indices (codes "size") ≡ Some I64
  pub by_time : get indices (codes "last_modified") ≡ Some I64

-- there is no index, or the three built-in ones are there
abbrev pub HasPlainIndices : Indices → Type 0
HasPlainIndices indices = (indices ≡ empty) ⊎ HasBuiltIn indices

-- the conditions of a plain tree
pub record IsPlain (tree : Tree) : Type 0 where
  pub nodes : HasPlainNodes tree
  pub indices : HasPlainIndices tree.indices

-- a new node: of user and group 0, with no attributes, all three stamps the same
abbrev pub new_node : Kind → List ℕ → ℕ → ℕ → ℕ → List ℕ → ℤ → Node
new_node kind name parent mode size target stamp =
    record { kind = kind; name = name; parent = parent; mode = mode; uid = pos 0; gid = pos 0; created = stamp; modified = stamp; changed = stamp; size = size; target = target; attributes = empty }

-- the three indices that a tree has at first
abbrev pub built_in : Indices
built_in = insert (insert (insert empty (codes "name") Text) (codes "size") I64) (codes "last_modified") I64

-- Empty: the root alone, a directory of mode 0755 that is its own parent and has no name, and the three indices
abbrev pub empty_tree : ℕ → ℤ → Tree
empty_tree root stamp = record { root = root; nodes = insert empty root (new_node Dir [] root 493 0 [] stamp); indices = built_in }
