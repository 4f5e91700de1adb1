-- A node on its way into a tree.
use Rattle.std.specs.Prelude.{◌≡◌, ◌≢◌, ◌<◌, ℕ, ℤ, List, [], Option, Some, None, IfSome, Bool, codes}
use Rattle.std.specs.FinMap.{get, insert}
use Rattle.bfs_base.specs.declared.kind.KeyKind.{KeyKind}
use Rattle.bfs_base.specs.declared.kind.KeyKind.TheVariants.{Text}
use Rattle.bfs_super.specs.declared.geometry.Geometry.{Geometry}
use Rattle.bfs_bitmap.specs.Runs.{Room}
use Rattle.bfs_pages.specs.Maps.{assoc}
use Rattle.bfs_tree.specs.Changes.{made, touched}
use Rattle.bfs_tree.specs.States.{State}
use Rattle.bfs_tree.specs.declared.call.MakeKind.{MakeKind}
use Rattle.bfs_tree.specs.Listings.{key_in, with_key}
use Rattle.bfs_tree.specs.declared.call.Kind.{Kind}
use Rattle.bfs_tree.specs.declared.call.Kind.TheVariants.{Dir}
use Rattle.bfs_tree.specs.Trees.{Node, Tree, IsNode, IsPlain}
use Rattle.bfs_maps.specs.NumberTrees.{AreNumbers, IsNumberAt}
use Rattle.bfs_shift.specs.Lists.{Lists, Agrees}
use Rattle.bfs_shift.specs.TreeLaws.{GainsNode, first_rows, new_key}
use Rattle.bfs_shift.specs.Work.{IsAtWork, IsStepped}
use Rattle.bfs_calls.specs.Done.{IsDone}
use Rattle.bfs_calls.specs.declared.indices.BuiltIn.{BuiltIn}

-- the tree with one node more
abbrev pub with_new : Tree → ℕ → Node → Tree
with_new tree id node = record tree { nodes = insert tree.nodes id node }

-- and with a directory's content changed now
abbrev pub with_touched : Tree → ℕ → Node → ℤ → Tree
with_touched tree dir d stamp = record tree { nodes = insert tree.nodes dir (touched stamp d) }

-- of the three built-in indices, those that the index directory names are these
pub record AreBuiltIn (lists : Lists) (b : BuiltIn) : Type 0 where
  pub name : IsNumberAt Text lists.names (codes "name") b.name
  pub size : IsNumberAt Text lists.names (codes "size") b.size
  pub last_modified : IsNumberAt Text lists.names (codes "last_modified") b.last_modified

-- the inodes of those that are there lie below a number
pub record LieBelow (blocks : ℕ) (b : BuiltIn) : Type 0 where
  pub name : IfSome b.name (λ inode. inode < blocks)
  pub size : IfSome b.size (λ inode. inode < blocks)
  pub last_modified : IfSome b.last_modified (λ inode. inode < blocks)

-- The lists are those from before, but for the rows that a new directory has.
pub record HasFirstRows (lists begun : Lists) (id dir : ℕ) (kind : Kind) : Type 0 where
  pub own : kind ≡ Dir → begun.rows id ≡ first_rows id dir
  pub others : (k : ℕ) → k ≢ id → begun.rows k ≡ lists.rows k
  pub names : begun.names ≡ lists.names
  pub kinds : (index : List ℕ) → begun.kinds index ≡ lists.kinds index
  pub pairs : (index : List ℕ) → begun.pairs index ≡ lists.pairs index

-- A loose block has become a node, which stands in no directory and no index yet.
pub record IsFilled (g : Geometry) (v now : Room) (m : ℕ → Option (List ℕ)) (tree : Tree) (lists : Lists) (id dir : ℕ) (node : Node) (told : Option (ℕ → Option (List ℕ))) (old new : ℕ → Bool) : Type 0 where
  pub begun : Lists
  pub step : IsStepped g v now m tree (with_new tree id node) begun [] told old new
  pub rows : HasFirstRows lists begun id dir node.kind

-- A node was made of a free block.
pub record IsCreated (g : Geometry) (v now : Room) (m : ℕ → Option (List ℕ)) (tree : Tree) (lists : Lists) (id dir : ℕ) (node : Node) (told : Option (ℕ → Option (List ℕ))) (old new : ℕ → Bool) : Type 0 where
  pub absent : get tree.nodes id ≡ None
  pub filled : IsFilled g v now m tree lists id dir node told old new

-- A node was made, and stands in no directory and no index yet: the volume at work stands for the tree with it, and the lists are those
-- of the plain tree without it, but for its own rows. The directory that it is to stand in has no row of its name.
pub record IsBorn (g : Geometry) (v : Room) (m : ℕ → Option (List ℕ)) (tree : Tree) (lists begun : Lists) (dir : ℕ) (d : Node) (id : ℕ) (node : Node) : Type 0 where
  pub work : IsAtWork g v m (with_new tree id node) begun []
  pub rows : HasFirstRows lists begun id dir node.kind
  pub agrees : Agrees tree lists
  pub plain : IsPlain tree
  pub there : IsNode tree dir d
  pub dir_kind : d.kind ≡ Dir
  pub absent : get tree.nodes id ≡ None
  pub free : assoc Text (lists.rows dir) node.name ≡ None
  pub numbers : AreNumbers (lists.rows dir)

-- what is to be entered of a node: its kind, its name, and the keys under which indices list it, where it has no bytes and one stamp
pub record IsFor (tree : Tree) (id : ℕ) (node : Node) (kind : Kind) (name : List ℕ) (stamp : ℤ) : Type 0 where
  pub kind_is : node.kind ≡ kind
  pub name_is : node.name ≡ name
  pub keys : (index : List ℕ) (of : KeyKind) → key_in tree.root index of id node ≡ new_key index kind name 0 stamp

-- some node was born of this name
pub record HasUnnamed (g : Geometry) (v : Room) (m : ℕ → Option (List ℕ)) (dir id : ℕ) (name : List ℕ) : Type 0 where
  pub tree : Tree
  pub lists : Lists
  pub begun : Lists
  pub d : Node
  pub node : Node
  pub born : IsBorn g v m tree lists begun dir d id node
  pub name_is : node.name ≡ name

-- some node was born that is to be entered so
pub record HasBorn (g : Geometry) (v : Room) (m : ℕ → Option (List ℕ)) (dir id : ℕ) (kind : Kind) (name : List ℕ) (stamp : ℤ) (b : BuiltIn) : Type 0 where
  pub tree : Tree
  pub lists : Lists
  pub begun : Lists
  pub d : Node
  pub node : Node
  pub born : IsBorn g v m tree lists begun dir d id node
  pub is_for : IsFor tree id node kind name stamp
  pub built_in : AreBuiltIn lists b

-- A node stands in its directory and in no index yet: the volume at work stands for a tree since, and the indices list what they did
-- before the node came.
pub record IsNamed (g : Geometry) (v : Room) (m : ℕ → Option (List ℕ)) (tree since : Tree) (lists begun : Lists) (id : ℕ) : Type 0 where
  pub work : IsAtWork g v m since begun []
  pub names : begun.names ≡ lists.names
  pub kinds : (index : List ℕ) → begun.kinds index ≡ lists.kinds index
  pub pairs : (index : List ℕ) → begun.pairs index ≡ lists.pairs index
  pub agrees : Agrees tree lists
  pub plain : IsPlain tree
  pub absent : get tree.nodes id ≡ None

-- some node stands so
pub record HasNamed (g : Geometry) (v : Room) (m : ℕ → Option (List ℕ)) (id : ℕ) (kind : Kind) (name : List ℕ) (stamp : ℤ) (b : BuiltIn) : Type 0 where
  pub tree : Tree
  pub since : Tree
  pub lists : Lists
  pub begun : Lists
  pub node : Node
  pub named : IsNamed g v m tree since lists begun id
  pub is_for : IsFor tree id node kind name stamp
  pub built_in : AreBuiltIn lists b

-- each index lists the node that is to, and nothing else has changed of the lists
pub record ListsNode (tree : Tree) (lists begun now : Lists) (id : ℕ) (node : Node) : Type 0 where
  pub rows : (k : ℕ) → now.rows k ≡ begun.rows k
  pub names : now.names ≡ begun.names
  pub kinds : (index : List ℕ) → now.kinds index ≡ begun.kinds index
  pub pairs : (index : List ℕ) (value : ℤ) → assoc Text lists.names index ≡ Some value
      → now.pairs index ≡ with_key (lists.kinds index) id (key_in tree.root index (lists.kinds index) id node) (lists.pairs index)

-- the indices were changed so
pub record HasListed (g : Geometry) (v now : Room) (m : ℕ → Option (List ℕ)) (tree since : Tree) (lists begun : Lists) (id : ℕ) (node : Node) (told : Option (ℕ → Option (List ℕ))) (old new : ℕ → Bool) : Type 0 where
  pub last : Lists
  pub step : IsStepped g v now m since since last [] told old new
  pub lists_node : ListsNode tree lists begun last id node

-- The node was entered: its directory has its row and another stamp, and each index lists it that is to.
pub record HasEntered (g : Geometry) (v now : Room) (m : ℕ → Option (List ℕ)) (tree : Tree) (lists : Lists) (dir : ℕ) (d : Node) (id : ℕ) (node : Node) (stamp : ℤ) (told : Option (ℕ → Option (List ℕ))) (old new : ℕ → Bool) : Type 0 where
  pub last : Lists
  pub step : IsStepped g v now m (with_new tree id node) (with_touched (with_new tree id node) dir d stamp) last [] told old new
  pub gains : GainsNode tree lists last dir id node

-- A node was made and entered: the volume stands for the plain tree with it, in every state that has the tree.
pub record IsMadeIn (g : Geometry) (v now : Room) (m : ℕ → Option (List ℕ)) (tree : Tree) (s : State) (dir : ℕ) (name : List ℕ) (kind : MakeKind) (mode : ℕ) (stamp : ℤ) (id : ℕ) (told : Option (ℕ → Option (List ℕ))) (old new : ℕ → Bool) : Type 0 where
  pub absent : get tree.nodes id ≡ None
  pub done : IsDone g v now m tree (made s dir name kind mode stamp id).tree told old new
