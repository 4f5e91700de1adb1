-- A node that another one replaces.
use Rattle.std.specs.Prelude.{◌≡◌, ◌≢◌, ℕ, List, [], Option, Bool, false}
use Rattle.bfs_super.specs.declared.geometry.Geometry.{Geometry}
use Rattle.bfs_bitmap.specs.Runs.{Room}
use Rattle.bfs_tree.specs.Refusals.{is_full}
use Rattle.bfs_tree.specs.Trees.{Node, Tree, IsNode}
use Rattle.bfs_shift.specs.Lists.{Lists}
use Rattle.bfs_look.specs.Ready.{IsReady}
use Rattle.bfs_leave.specs.Leaving.{IsLeft, tree_without}

-- a node that isn't the root has this name in this directory, and is no directory with children
pub record StandsEmpty (tree : Tree) (id : ℕ) (node : Node) (dir : ℕ) (name : List ℕ) : Type 0 where
  pub there : IsNode tree id node
  pub apart : id ≢ tree.root
  pub parent : node.parent ≡ dir
  pub named : node.name ≡ name
  pub empty : is_full tree id node ≡ false

-- so it is in some tree that the volume stands for between two calls
pub record HasEmptyAt (g : Geometry) (v : Room) (m : ℕ → Option (List ℕ)) (id dir : ℕ) (name : List ℕ) : Type 0 where
  pub tree : Tree
  pub lists : Lists
  pub ready : IsReady g v m tree lists
  pub node : Node
  pub stands : StandsEmpty tree id node dir name

-- The node left the tree, the directory and the indices, and its blocks were given back: the volume stands for the tree without it, as between
-- two calls.
pub record HasLeftReady (g : Geometry) (v now : Room) (m : ℕ → Option (List ℕ)) (tree : Tree) (id : ℕ) (told : Option (ℕ → Option (List ℕ))) (old new : ℕ → Bool) : Type 0 where
  pub lists : Lists
  pub left : IsLeft g v now m tree (tree_without tree id) lists [] told old new
  pub ready : IsReady g now left.map (tree_without tree id) lists
