-- A node that moves to a place that is free.
use Rattle.std.specs.FinMap.{empty, insert}
use Rattle.std.specs.Prelude.{◌≡◌, ◌≢◌, ℕ, ℤ, List, [], codes, Option, None, Bool, false, if◌then◌else◌}
use Rattle.bfs_base.specs.declared.kind.KeyKind.TheVariants.{Text}
use Rattle.bfs_super.specs.declared.geometry.Geometry.{Geometry}
use Rattle.bfs_bitmap.specs.Runs.{Room}
use Rattle.bfs_tree.specs.Changes.{moved}
use Rattle.bfs_tree.specs.Names.{is_bad_name}
use Rattle.bfs_tree.specs.Refusals.{is_inside}
use Rattle.bfs_tree.specs.Trees.{Node, Tree, IsNode, child, is_dir}
use Rattle.bfs_tree.specs.declared.call.Kind.{Kind}
use Rattle.bfs_tree.specs.declared.call.Kind.TheVariants.{Dir}
use Rattle.bfs_maps.specs.NumberTrees.{IsNumberAt}
use Rattle.bfs_shift.specs.Lists.{Lists, Agrees}
use Rattle.bfs_shift.specs.TreeLaws.{MovesNode, moved_node}
use Rattle.bfs_shift.specs.Work.{IsStepped}
use Rattle.bfs_look.specs.Ready.{IsReady}
use Rattle.bfs_rename.specs.Rows.{row_taken, rows_moved}

-- A node that isn't the root has a name in a directory, and may have another one in a directory, perhaps the same one: both are there, the new
-- name isn't bad and is no child's, neither directory is the node, and the new one isn't below it.
pub record IsMove (tree : Tree) (dir : ℕ) (name : List ℕ) (to_dir : ℕ) (to_name : List ℕ) (id : ℕ) (n : Node) : Type 0 where
  pub d : Node
  pub there : IsNode tree dir d
  pub dir_kind : d.kind ≡ Dir
  pub t : Node
  pub to_there : IsNode tree to_dir t
  pub to_kind : t.kind ≡ Dir
  pub node_there : IsNode tree id n
  pub apart : id ≢ tree.root
  pub parent : n.parent ≡ dir
  pub named : n.name ≡ name
  pub good : is_bad_name to_name ≡ false
  pub dir_apart : id ≢ dir
  pub to_apart : id ≢ to_dir
  pub outside : is_inside tree id n to_dir ≡ false
  pub free : child tree to_dir to_name ≡ None

-- so it may in some tree that the volume stands for between two calls
pub record HasMove (g : Geometry) (v : Room) (m : ℕ → Option (List ℕ)) (dir : ℕ) (name : List ℕ) (to_dir : ℕ) (to_name : List ℕ) (id : ℕ) (kind : Kind) : Type 0 where
  pub tree : Tree
  pub lists : Lists
  pub ready : IsReady g v m tree lists
  pub n : Node
  pub move : IsMove tree dir name to_dir to_name id n
  pub kind_is : kind ≡ n.kind

-- and the index of names is this one, or there is none
pub record HasListedMove (g : Geometry) (v : Room) (m : ℕ → Option (List ℕ)) (dir : ℕ) (name : List ℕ) (to_dir : ℕ) (to_name : List ℕ) (id : ℕ) (kind : Kind) (names : Option ℕ) : Type 0 where
  pub has : HasMove g v m dir name to_dir to_name id kind
  pub listed : IsNumberAt Text has.lists.names (codes "name") names

-- the lists, where a node's row has moved, and where it is a directory, `..` leads to the new one
abbrev pub dots_moved : Lists → ℕ → ℕ → Kind → Lists
dots_moved lists to_dir id kind = if is_dir kind then rows_moved lists id (codes "..") id (codes "..") to_dir else lists

abbrev pub seat_lists : Lists → ℕ → List ℕ → ℕ → List ℕ → ℕ → Kind → Lists
seat_lists lists dir name to_dir to_name id kind = dots_moved (rows_moved lists dir name to_dir to_name id) to_dir id kind

-- Directories and indices list the node at its new place, and nothing else has changed.
pub record HasMovedLists (g : Geometry) (v now : Room) (m : ℕ → Option (List ℕ)) (tree : Tree) (lists : Lists) (dir : ℕ) (name : List ℕ) (to_dir : ℕ) (to_name : List ℕ) (id : ℕ) (n : Node) (told : Option (ℕ → Option (List ℕ))) (old new : ℕ → Bool) : Type 0 where
  pub last : Lists
  pub step : IsStepped g v now m tree tree last [] told old new
  pub moves : (stamp : ℤ) → MovesNode tree lists (row_taken lists dir name) last dir to_dir id n (moved_node to_dir to_name stamp n)

-- the tree, where a node has this name, this directory, and this stamp of the last change of its status
abbrev pub with_seat : Tree → ℕ → Node → ℕ → List ℕ → ℤ → Tree
with_seat tree id n to_dir to_name stamp = record tree { nodes = insert tree.nodes id (moved_node to_dir to_name stamp n) }

-- the tree after a move to a place that is free
abbrev pub moved_tree : Tree → ℕ → ℕ → List ℕ → ℤ → ℕ → Tree
moved_tree tree dir to_dir to_name stamp id = (moved (record { tree = tree; holds = []; known = empty }) dir to_dir to_name stamp id).tree

-- The node was moved: the volume stands for the tree since, and the lists agree with it.
pub record HasMoved (g : Geometry) (v now : Room) (m : ℕ → Option (List ℕ)) (tree : Tree) (dir to_dir : ℕ) (to_name : List ℕ) (stamp : ℤ) (id : ℕ) (told : Option (ℕ → Option (List ℕ))) (old new : ℕ → Bool) : Type 0 where
  pub last : Lists
  pub step : IsStepped g v now m tree (moved_tree tree dir to_dir to_name stamp id) last [] told old new
  pub agrees : Agrees (moved_tree tree dir to_dir to_name stamp id) last
