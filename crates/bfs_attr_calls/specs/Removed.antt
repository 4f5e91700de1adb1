-- An attribute that is removed.
use Rattle.std.specs.Prelude.{◌≡◌, ◌≢◌, ◌⊎◌, ◌↔◌, ℕ, ℤ, List, [], Option, Some, None, Bool, true, false, IsSome}
use Rattle.std.specs.FinMap.{get, insert, remove}
use Rattle.std.specs.List.{Contains}
use Rattle.std.specs.List.Sorted.{IsStrictlySortedBy}
use Rattle.bfs_base.specs.declared.kind.KeyKind.TheVariants.{Text}
use Rattle.bfs_super.specs.declared.geometry.Geometry.{Geometry}
use Rattle.bfs_bitmap.specs.Runs.{Room}
use Rattle.bfs_pages.specs.Maps.{assoc}
use Rattle.bfs_tree.specs.Changes.{changed}
use Rattle.bfs_tree.specs.Listings.{key_in, pair_cmp, without_id}
use Rattle.bfs_tree.specs.Refusals.{is_built_in}
use Rattle.bfs_tree.specs.States.{State}
use Rattle.bfs_tree.specs.Trees.{Node, Tree, IsNode}
use Rattle.bfs_tree.specs.declared.call.Call.TheVariants.{AttrRemove}
use Rattle.bfs_tree.specs.declared.reply.Reply.TheVariants.{Done}
use Rattle.bfs_shift.specs.Lists.{Lists, Agrees}
use Rattle.bfs_shift.specs.Work.{IsAtWork, IsStepped}
use Rattle.bfs_unmake.specs.Leaving.{IsLeft}

-- the node's record without an attribute, with the stamp of that change
abbrev pub node_without : Node → List ℕ → ℤ → Node
node_without n name stamp = record n { attributes = remove n.attributes name; changed = stamp }

abbrev pub tree_with : Tree → ℕ → Node → Tree
tree_with tree id n = record tree { nodes = insert tree.nodes id n }

-- a node with this attribute has the id
pub record HasAttributeAt (tree : Tree) (id : ℕ) (name : List ℕ) : Type 0 where
  pub node : Node
  pub there : IsNode tree id node
  pub bears : IsSome (get node.attributes name)

-- a node of a volume at work stands at this block
pub record HasBearerAt (g : Geometry) (v : Room) (m : ℕ → Option (List ℕ)) (id : ℕ) : Type 0 where
  pub tree : Tree
  pub lists : Lists
  pub loose : List ℕ
  pub node : Node
  pub work : IsAtWork g v m tree lists loose
  pub there : IsNode tree id node

-- An index of the attribute's name that isn't built in lists the node no more, where it did, and all else is listed as it was.
pub record UnlistsUnder (tree : Tree) (lists now : Lists) (id : ℕ) (n : Node) (name : List ℕ) : Type 0 where
  pub rows : (d : ℕ) → now.rows d ≡ lists.rows d
  pub names : now.names ≡ lists.names
  pub kinds : (index : List ℕ) → now.kinds index ≡ lists.kinds index
  pub others : (index : List ℕ) → index ≢ name → now.pairs index ≡ lists.pairs index
  pub built_in : is_built_in name ≡ true → now.pairs name ≡ lists.pairs name
  pub own : (value : ℤ) → assoc Text lists.names name ≡ Some value → is_built_in name ≡ false
      → (now.pairs name ≡ without_id id (lists.pairs name)) ⊎ ((key_in tree.root name (lists.kinds name) id n ≡ None) × (now.pairs name ≡ lists.pairs name))

-- So it was taken out there, and the volume stands for the same tree.
pub record HasUnlistedUnder (g : Geometry) (v now : Room) (m : ℕ → Option (List ℕ)) (tree : Tree) (lists : Lists) (id : ℕ) (n : Node) (name : List ℕ) (told : Option (ℕ → Option (List ℕ))) (old new : ℕ → Bool) : Type 0 where
  pub last : Lists
  pub step : IsStepped g v now m tree tree last [] told old new
  pub unlists : UnlistsUnder tree lists last id n name

-- Lists that are so agree with the tree in which the node has the attribute no more, and that is the tree since the plain call.
abbrev pub AttributeUnlists : Type 0
AttributeUnlists = (tree : Tree) (lists now : Lists) (id : ℕ) (n : Node) (name : List ℕ) (stamp : ℤ) → IsNode tree id n → Agrees tree lists → UnlistsUnder tree lists now id n name
    → Agrees (tree_with tree id (node_without n name stamp)) now
    × ((s : State) → s.tree ≡ tree → (changed 0 stamp (AttrRemove id name) Done s).tree ≡ tree_with tree id (node_without n name stamp))

-- An attribute was removed: the volume stands for the tree that every state with the tree before has then, with the same root, whose lists
-- agree with it, and no block is loose.
pub record IsAttributeRemoved (g : Geometry) (v now : Room) (m : ℕ → Option (List ℕ)) (tree : Tree) (id : ℕ) (name : List ℕ) (stamp : ℤ) (told : Option (ℕ → Option (List ℕ))) (old new : ℕ → Bool) : Type 0 where
  pub after : Tree
  pub lists : Lists
  pub left : IsLeft g v now m tree after lists [] told old new
  pub agrees : Agrees after lists
  pub root : after.root ≡ tree.root
  pub follows : (s : State) → s.tree ≡ tree → (changed 0 stamp (AttrRemove id name) Done s).tree ≡ after

-- Where an index lists a node under a key, the pairs that it lists without the node's are in order, and are those but for this one.
abbrev pub PairsLess : Type 0
PairsLess = (tree : Tree) (lists : Lists) (id : ℕ) (n : Node) (index : List ℕ) (value : ℤ) (key : List ℕ) → Agrees tree lists → IsNode tree id n → assoc Text lists.names index ≡ Some value
    → key_in tree.root index (lists.kinds index) id n ≡ Some key
    → IsStrictlySortedBy (pair_cmp (lists.kinds index)) (without_id id (lists.pairs index))
    × ((k : List ℕ) (q : ℕ) → Contains (without_id id (lists.pairs index)) (k, q) ↔ (Contains (lists.pairs index) (k, q) × ((k ≡ key) × (q ≡ id) → ⊥)))
