-- A node that is renamed: when it may be.
use Rattle.std.specs.Prelude.{◌≡◌, ℕ, List, Some, None, IfSome, false}
use Rattle.bfs_tree.specs.Names.{is_bad_name}
use Rattle.bfs_tree.specs.Refusals.{is_full, is_inside, is_one_dir, own_refusal, replaced}
use Rattle.bfs_tree.specs.States.{State}
use Rattle.bfs_tree.specs.Trees.{Node, Tree, IsNode, child}
use Rattle.bfs_tree.specs.declared.call.Call.TheVariants.{Rename}
use Rattle.bfs_tree.specs.declared.call.Kind.{Kind}
use Rattle.bfs_tree.specs.declared.call.Kind.TheVariants.{Dir}

-- a node of this kind may take the place of another: both are directories or neither is, and the other is no directory with children
pub record MayBeReplaced (tree : Tree) (kind : Kind) (other : ℕ × Node) : Type 0 where
  pub alike : is_one_dir kind other.1.kind ≡ false
  pub empty : is_full tree other.0 other.1 ≡ false

-- The child of a name may get a new name and a new directory, as far as the tree goes: both directories are there, and it is there; the new
-- name isn't bad; the new directory isn't the node or below it; and the node that it would replace may be replaced.
pub record MayBeRenamed (tree : Tree) (dir : ℕ) (name : List ℕ) (to_dir : ℕ) (to_name : List ℕ) : Type 0 where
  pub d : Node
  pub there : IsNode tree dir d
  pub dir_kind : d.kind ≡ Dir
  pub id : ℕ
  pub node : Node
  pub child_is : child tree dir name ≡ Some (id, node)
  pub t : Node
  pub to_there : IsNode tree to_dir t
  pub to_kind : t.kind ≡ Dir
  pub good_name : is_bad_name to_name ≡ false
  pub outside : is_inside tree id node to_dir ≡ false
  pub over : IfSome (replaced id (child tree to_dir to_name)) (MayBeReplaced tree node.kind)

-- where the call has no refusal of its own, its node may be renamed
abbrev pub RefusalAllows : Type 0
RefusalAllows = (s : State) (dir : ℕ) (name : List ℕ) (to_dir : ℕ) (to_name : List ℕ) → own_refusal (Rename dir name to_dir to_name) s ≡ None
    → MayBeRenamed s.tree dir name to_dir to_name
