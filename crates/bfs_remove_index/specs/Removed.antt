-- An index on its way out of a volume.
use Rattle.std.specs.Prelude.{◌≡◌, ℕ, List, [], ◌++◌, Bool, false, Option, Some, None}
use Rattle.std.specs.FinMap.{get, remove}
use Rattle.bfs_base.specs.declared.kind.KeyKind.{KeyKind}
use Rattle.bfs_base.specs.declared.kind.KeyKind.TheVariants.{Text}
use Rattle.bfs_super.specs.declared.geometry.Geometry.{Geometry}
use Rattle.bfs_bitmap.specs.Runs.{Room}
use Rattle.bfs_node.specs.Page.{Row}
use Rattle.bfs_maps.specs.Laws.{DiffersAt}
use Rattle.bfs_stream.specs.Told.{Stands}
use Rattle.bfs_tree.specs.Refusals.{is_built_in}
use Rattle.bfs_tree.specs.States.{State}
use Rattle.bfs_tree.specs.Trees.{Tree}
use Rattle.bfs_sound.specs.Volumes.{sizes}
use Rattle.bfs_sound.specs.Inodes.{inode_blocks}
use Rattle.bfs_shift.specs.Lists.{Lists, with_names, Agrees}
use Rattle.bfs_shift.specs.Shifts.{volume_in}
use Rattle.bfs_shift.specs.Work.{IsStepped}
use Rattle.bfs_leave.specs.Leaving.{IsLeft}

-- the tree has an index of this name, which isn't one of those that list every node by what it is
pub record IsOwnIndex (tree : Tree) (name : List ℕ) : Type 0 where
  pub kind : KeyKind
  pub there : get tree.indices name ≡ Some kind
  pub other : is_built_in name ≡ false

-- the tree without an index
abbrev pub without_index : Tree → List ℕ → Tree
without_index tree name = record tree { indices = remove tree.indices name }

-- A name was taken out of the index directory, and the index that it led to is loose, on the blocks that it had; its stream stands still.
pub record HasIndexTaken (g : Geometry) (v now : Room) (m : ℕ → Option (List ℕ)) (tree : Tree) (lists : Lists) (name : List ℕ) (inode : ℕ) (told : Option (ℕ → Option (List ℕ))) (old new : ℕ → Bool) : Type 0 where
  pub names : List Row
  pub step : IsStepped g v now m tree (without_index tree name) (with_names lists names) (inode_blocks (volume_in g m) inode ++ []) told old new
  pub differs : DiffersAt Text lists.names names name None
  pub same : inode_blocks (volume_in g step.map) inode ≡ inode_blocks (volume_in g m) inode
  pub stands : Stands (record { id = inode; sizes = sizes g }) step.map

-- An index was removed: the volume stands for the tree without it, whose lists agree with it and whose root is the same, and no block is
-- loose. In each state with this tree that is the tree since the plain call.
pub record IsIndexRemoved (g : Geometry) (v now : Room) (m : ℕ → Option (List ℕ)) (tree : Tree) (name : List ℕ) (told : Option (ℕ → Option (List ℕ))) (old new : ℕ → Bool) : Type 0 where
  pub after : Tree
  pub lists : Lists
  pub left : IsLeft g v now m tree after lists [] told old new
  pub agrees : Agrees after lists
  pub root : after.root ≡ tree.root
  pub follows : (s : State) → s.tree ≡ tree → after ≡ record s.tree { indices = remove s.tree.indices name }
