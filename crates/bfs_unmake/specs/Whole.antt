-- A node with all that is its own.
use Rattle.std.specs.Prelude.{◌<◌, ℕ, List, [], ◌∷◌, ◌++◌, Option, Bool, if◌then◌else◌}
use Rattle.std.specs.List.{AllByRecursion}
use Rattle.bfs_super.specs.declared.geometry.Geometry.{Geometry}
use Rattle.bfs_bitmap.specs.Runs.{Room}
use Rattle.bfs_tree.specs.Trees.{Node, Tree, IsNode}
use Rattle.bfs_sound.specs.Volumes.{Volume}
use Rattle.bfs_sound.specs.Attributes.{attribute_directory, attribute_inodes}
use Rattle.bfs_shift.specs.Lists.{Lists}
use Rattle.bfs_shift.specs.Work.{IsAtWork}

-- a node of a tree stands at this block of a volume at work
pub record HoldsNode (g : Geometry) (v : Room) (m : ℕ → Option (List ℕ)) (id : ℕ) : Type 0 where
  pub tree : Tree
  pub lists : Lists
  pub loose : List ℕ
  pub node : Node
  pub work : IsAtWork g v m tree lists loose
  pub there : IsNode tree id node

-- an inode that has its own block alone, as a link has that keeps its target there, and one that has a stream: each as a list of at most one
abbrev pub alone_in : ℕ → Bool → List ℕ
alone_in id alone = if alone then id ∷ [] else []

abbrev pub streamed_in : ℕ → Bool → List ℕ
streamed_in id alone = if alone then [] else id ∷ []

-- the inodes with streams that a node has: its own, unless it has its own block alone; that of its attribute directory; and those of its
-- attributes there
abbrev pub stream_inodes : Volume → ℕ → Bool → List ℕ
stream_inodes v id alone = streamed_in id alone ++ attribute_inodes v (attribute_directory v id)

-- each of these numbers is one of so many blocks
abbrev pub AllBelow : ℕ → List ℕ → Type 0
AllBelow blocks ids = AllByRecursion (λ id. id < blocks) ids
