-- A node that no index lists any more.
use Rattle.std.specs.Prelude.{◌≡◌, ◌≢◌, ℕ, ℤ, List, [], Bool, Option, Some}
use Rattle.bfs_base.specs.declared.kind.KeyKind.TheVariants.{Text}
use Rattle.bfs_super.specs.declared.geometry.Geometry.{Geometry}
use Rattle.bfs_bitmap.specs.Runs.{Room}
use Rattle.bfs_pages.specs.Maps.{assoc}
use Rattle.bfs_tree.specs.Listings.{without_id}
use Rattle.bfs_tree.specs.Trees.{Node, Tree, IsNode}
use Rattle.bfs_shift.specs.Lists.{Lists}
use Rattle.bfs_shift.specs.Work.{IsStepped}
use Rattle.bfs_look.specs.Ready.{IsReady}

-- the lists, where no index lists the node, and all else is as it was
pub record ListsWithout (lists now : Lists) (id : ℕ) : Type 0 where
  pub rows : (d : ℕ) → now.rows d ≡ lists.rows d
  pub names : now.names ≡ lists.names
  pub kinds : (index : List ℕ) → now.kinds index ≡ lists.kinds index
  pub pairs : (index : List ℕ) (value : ℤ) → assoc Text lists.names index ≡ Some value → now.pairs index ≡ without_id id (lists.pairs index)

-- the indices were changed so: the volume stands for the same tree
pub record HasUnlisted (g : Geometry) (v now : Room) (m : ℕ → Option (List ℕ)) (tree : Tree) (lists : Lists) (id : ℕ) (told : Option (ℕ → Option (List ℕ))) (old new : ℕ → Bool) : Type 0 where
  pub last : Lists
  pub step : IsStepped g v now m tree tree last [] told old new
  pub without : ListsWithout lists last id

-- a node that isn't the root stands at this block of a volume between two calls
pub record HasNodeIn (g : Geometry) (v : Room) (m : ℕ → Option (List ℕ)) (id : ℕ) : Type 0 where
  pub tree : Tree
  pub lists : Lists
  pub node : Node
  pub ready : IsReady g v m tree lists
  pub there : IsNode tree id node
  pub apart : id ≢ tree.root
