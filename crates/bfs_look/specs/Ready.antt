-- A volume between two calls, as a call that reads finds it.
use Rattle.std.specs.Prelude.{◌≡◌, ℕ, List, [], Option, Some, None, true}
use Rattle.std.specs.FinMap.{get}
use Rattle.bfs_super.specs.declared.geometry.Geometry.{Geometry}
use Rattle.bfs_bitmap.specs.Runs.{Room, is_reserved}
use Rattle.bfs_tree.specs.declared.call.Kind.{Kind}
use Rattle.bfs_tree.specs.Trees.{Node, Tree, IsNode, IsPlain}
use Rattle.bfs_sound.specs.Volumes.{IsMarked}
use Rattle.bfs_shift.specs.Lists.{Lists, Agrees}
use Rattle.bfs_shift.specs.Shifts.{volume_in}
use Rattle.bfs_shift.specs.Work.{IsAtWork}

-- The volume that a told map is stands for a plain tree, whose root is the volume's, and lists what the tree says; no block is
-- loose, and no block that was given back and isn't free yet is marked.
pub record IsReady (g : Geometry) (v : Room) (m : ℕ → Option (List ℕ)) (tree : Tree) (lists : Lists) : Type 0 where
  pub work : IsAtWork g v m tree lists []
  pub agrees : Agrees tree lists
  pub plain : IsPlain tree
  pub root : tree.root ≡ g.root
  pub reserved : (k : ℕ) → is_reserved v.given k ≡ true → ¬ IsMarked (volume_in g m) k

-- it stands for some tree
pub record HasReady (g : Geometry) (v : Room) (m : ℕ → Option (List ℕ)) : Type 0 where
  pub tree : Tree
  pub lists : Lists
  pub ready : IsReady g v m tree lists

-- some node has the id
abbrev pub HasNodeAt : Tree → ℕ → Type 0
HasNodeAt tree id = (n : Node) × IsNode tree id n

-- a node of this kind has the id; or no node has
abbrev pub IsKindOf : Tree → ℕ → Option Kind → Type 0
IsKindOf tree id None = get tree.nodes id ≡ None
IsKindOf tree id (Some kind) = (n : Node) × IsNode tree id n × (n.kind ≡ kind)
