-- A call that renames a node was done.
use Rattle.std.specs.Prelude.{◌≡◌, ℕ, ℤ, List, [], Option, Some, None, IfSome, Bool}
use Rattle.bfs_super.specs.declared.geometry.Geometry.{Geometry}
use Rattle.bfs_bitmap.specs.Runs.{Room}
use Rattle.bfs_tree.specs.Changes.{renamed}
use Rattle.bfs_tree.specs.States.{State}
use Rattle.bfs_tree.specs.Trees.{Node, Tree, child}
use Rattle.bfs_shift.specs.Lists.{Lists, Agrees}
use Rattle.bfs_look.specs.Ready.{IsReady}
use Rattle.bfs_leave.specs.Leaving.{IsLeft, tree_without}
use Rattle.bfs_remove_node.specs.declared.child.Child.{Child}
use Rattle.bfs_rename.specs.Counted.{AreOf}
use Rattle.bfs_rename.specs.Replacing.{StandsEmpty}

-- the tree without a node, if there is one
abbrev pub tree_vacated : Tree → Option (ℕ × Node) → Tree
tree_vacated tree None = tree
tree_vacated tree (Some e) = tree_without tree e.0

-- the node that has a place, if there is one, may leave it
abbrev pub IsVacating : Tree → Option (ℕ × Node) → ℕ → List ℕ → Type 0
IsVacating tree o dir name = IfSome o (λ e. StandsEmpty tree e.0 e.1 dir name)

-- so it may in some tree that the volume stands for between two calls
pub record HasVacating (g : Geometry) (v : Room) (m : ℕ → Option (List ℕ)) (other : Option Child) (dir : ℕ) (name : List ℕ) : Type 0 where
  pub tree : Tree
  pub lists : Lists
  pub ready : IsReady g v m tree lists
  pub o : Option (ℕ × Node)
  pub of : AreOf o other
  pub vacating : IsVacating tree o dir name

-- The place is free: the volume stands for the tree without the node that had it, as between two calls.
pub record HasVacated (g : Geometry) (v now : Room) (m : ℕ → Option (List ℕ)) (tree : Tree) (o : Option (ℕ × Node)) (told : Option (ℕ → Option (List ℕ))) (old new : ℕ → Bool) : Type 0 where
  pub lists : Lists
  pub left : IsLeft g v now m tree (tree_vacated tree o) lists [] told old new
  pub ready : IsReady g now left.map (tree_vacated tree o) lists

-- The child of a name was renamed: the volume stands for the tree that every state with the tree before has then, with the same root, whose
-- lists agree with it, and no block is loose.
pub record IsRenamedIn (g : Geometry) (v now : Room) (m : ℕ → Option (List ℕ)) (tree : Tree) (dir : ℕ) (name : List ℕ) (to_dir : ℕ) (to_name : List ℕ) (stamp : ℤ) (told : Option (ℕ → Option (List ℕ))) (old new : ℕ → Bool) : Type 0 where
  pub after : Tree
  pub lists : Lists
  pub left : IsLeft g v now m tree after lists [] told old new
  pub agrees : Agrees after lists
  pub root : after.root ≡ tree.root
  pub follows : (s : State) → s.tree ≡ tree → (renamed s dir to_dir to_name stamp (child s.tree dir name)).tree ≡ after
