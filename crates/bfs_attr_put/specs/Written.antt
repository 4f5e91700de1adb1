-- An attribute that is written.
use Rattle.std.specs.Prelude.{◌≡◌, ◌≢◌, ◌≤◌, ◌<◌, ℕ, ℤ, List, [], length, Option, Some, Bool, true, false}
use Rattle.std.specs.FinMap.{insert}
use Rattle.bfs_base.specs.declared.kind.KeyKind.TheVariants.{Text}
use Rattle.bfs_super.specs.declared.geometry.Geometry.{Geometry}
use Rattle.bfs_bitmap.specs.Runs.{Room}
use Rattle.bfs_pages.specs.Maps.{assoc}
use Rattle.bfs_tree.specs.Changes.{changed}
use Rattle.bfs_tree.specs.Listings.{key_of_attribute, relisted}
use Rattle.bfs_tree.specs.Names.{is_bad_attribute_name}
use Rattle.bfs_tree.specs.Refusals.{is_built_in}
use Rattle.bfs_tree.specs.States.{State}
use Rattle.bfs_tree.specs.Trees.{Attribute, Node, Tree, IsNode}
use Rattle.bfs_tree.specs.declared.call.Call.TheVariants.{AttrWrite}
use Rattle.bfs_tree.specs.declared.reply.Reply.TheVariants.{Done}
use Rattle.bfs_txn.specs.Faults.{Counts}
use Rattle.bfs_node.specs.declared.fault.TreeFault.{TreeFault}
use Rattle.bfs_node.specs.declared.fault.TreeFault.TheVariants as tree
use Rattle.bfs_stream.specs.declared.fault.GrowFault.{GrowFault}
use Rattle.bfs_stream.specs.Faults.{IsGrowCause}
use Rattle.bfs_shift.specs.Lists.{Lists, Agrees}
use Rattle.bfs_attr_calls.specs.LeaveLeaving.{IsLeft}
use Rattle.bfs_attr_calls.specs.Removed.{tree_with}

-- what holds of a call that writes an attribute, whatever the volume: its node is a block of the volume, and neither the name is bad nor
-- are the bytes too many
pub record MayBear (blocks id : ℕ) (name bytes : List ℕ) : Type 0 where
  pub inside : id < blocks
  pub good_name : is_bad_attribute_name name ≡ false
  pub short : length bytes ≤ 65536

-- the node's record with an attribute, with the stamp of that change
abbrev pub node_with : Node → List ℕ → Attribute → ℤ → Node
node_with n name attribute stamp = record n { attributes = insert n.attributes name attribute; changed = stamp }

-- An index of the attribute's name that isn't built in lists the node under the attribute's key, if it has one there, and under no other; all
-- else is listed as it was.
pub record ListsUnder (lists now : Lists) (id : ℕ) (name : List ℕ) (attribute : Attribute) : Type 0 where
  pub rows : (d : ℕ) → now.rows d ≡ lists.rows d
  pub names : now.names ≡ lists.names
  pub kinds : (index : List ℕ) → now.kinds index ≡ lists.kinds index
  pub others : (index : List ℕ) → index ≢ name → now.pairs index ≡ lists.pairs index
  pub built_in : is_built_in name ≡ true → now.pairs name ≡ lists.pairs name
  pub own : (value : ℤ) → assoc Text lists.names name ≡ Some value → is_built_in name ≡ false
      → now.pairs name ≡ relisted (lists.kinds name) id (key_of_attribute (lists.kinds name) attribute) (lists.pairs name)

-- Lists that are so agree with the tree in which the node has the attribute, and that is the tree since the plain call.
abbrev pub AttributeLists : Type 0
AttributeLists = (tree : Tree) (lists now : Lists) (id : ℕ) (n : Node) (name : List ℕ) (attribute : Attribute) (stamp : ℤ) → IsNode tree id n → Agrees tree lists → ListsUnder lists now id name attribute
    → Agrees (tree_with tree id (node_with n name attribute stamp)) now
    × ((s : State) → s.tree ≡ tree → (changed 0 stamp (AttrWrite id name attribute.code attribute.bytes) Done s).tree ≡ tree_with tree id (node_with n name attribute stamp))

-- An attribute was written: the volume stands for the tree that every state with the tree before has then, with the same root, whose lists
-- agree with it, and no block is loose.
pub record IsAttributeWritten (g : Geometry) (v now : Room) (m : ℕ → Option (List ℕ)) (tree : Tree) (id : ℕ) (name : List ℕ) (attribute : Attribute) (stamp : ℤ) (told : Option (ℕ → Option (List ℕ))) (old new : ℕ → Bool) : Type 0 where
  pub after : Tree
  pub lists : Lists
  pub left : IsLeft g v now m tree after lists [] told old new
  pub agrees : Agrees after lists
  pub root : after.root ≡ tree.root
  pub follows : (s : State) → s.tree ≡ tree → (changed 0 stamp (AttrWrite id name attribute.code attribute.bytes) Done s).tree ≡ after

-- the cause of a fault in what lies below, where so many blocks are asked for at once
abbrev pub HasWriteCause : ℕ → Counts → Counts → TreeFault GrowFault → Type 0
HasWriteCause blocks old new tree.Exists = ⊥
HasWriteCause blocks old new tree.Absent = ⊥
HasWriteCause blocks old new (tree.Damaged page sort) = Unit {0}
HasWriteCause blocks old new (tree.Pages fault) = IsGrowCause blocks old new fault
HasWriteCause blocks old new tree.NoMemory = Unit {0}
