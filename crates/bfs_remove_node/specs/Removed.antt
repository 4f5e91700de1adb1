-- A node that is removed: when it may be, and what the volume is then.
use Rattle.std.specs.Prelude.{◌≡◌, ℕ, ℤ, List, [], Option, Some, None, Bool, false}
use Rattle.bfs_super.specs.declared.geometry.Geometry.{Geometry}
use Rattle.bfs_bitmap.specs.Runs.{Room}
use Rattle.bfs_tree.specs.Changes.{removed}
use Rattle.bfs_tree.specs.Refusals.{is_full, own_refusal}
use Rattle.bfs_tree.specs.States.{State}
use Rattle.bfs_tree.specs.Trees.{Node, Tree, IsNode, child}
use Rattle.bfs_tree.specs.declared.call.Call.TheVariants.{Remove}
use Rattle.bfs_tree.specs.declared.call.Kind.TheVariants.{Dir}
use Rattle.bfs_shift.specs.Lists.{Lists, Agrees}
use Rattle.bfs_leave.specs.Leaving.{IsLeft}
use Rattle.bfs_remove_node.specs.declared.child.Child.{Child}

-- The child of a name may be removed as far as the tree goes: its directory is there, it is there, and it is no directory with children.
pub record MayBeRemoved (tree : Tree) (dir : ℕ) (name : List ℕ) : Type 0 where
  pub d : Node
  pub there : IsNode tree dir d
  pub dir_kind : d.kind ≡ Dir
  pub id : ℕ
  pub node : Node
  pub child_is : child tree dir name ≡ Some (id, node)
  pub empty : is_full tree id node ≡ false

-- where the call has no refusal of its own, its node may be removed
abbrev pub RefusalAllows : Type 0
RefusalAllows = (s : State) (dir : ℕ) (name : List ℕ) → own_refusal (Remove dir name) s ≡ None → MayBeRemoved s.tree dir name

-- some node is the child of this name, and has this id
abbrev pub IsChildAt : Tree → ℕ → List ℕ → ℕ → Type 0
IsChildAt tree dir name id = (node : Node) × (child tree dir name ≡ Some (id, node))

-- what was found is this node, by its id and its kind
pub record IsOf (e : ℕ × Node) (c : Child) : Type 0 where
  pub id : c.id ≡ e.0
  pub kind : c.kind ≡ e.1.kind

-- The child of a name was removed: the volume stands for the tree that every state with the tree before has then, with the same root, whose
-- lists agree with it, and no block is loose.
pub record IsRemovedIn (g : Geometry) (v now : Room) (m : ℕ → Option (List ℕ)) (tree : Tree) (dir : ℕ) (name : List ℕ) (stamp : ℤ) (told : Option (ℕ → Option (List ℕ))) (old new : ℕ → Bool) : Type 0 where
  pub after : Tree
  pub lists : Lists
  pub left : IsLeft g v now m tree after lists [] told old new
  pub agrees : Agrees after lists
  pub root : after.root ≡ tree.root
  pub follows : (s : State) → s.tree ≡ tree → (removed s dir stamp (child s.tree dir name)).tree ≡ after
