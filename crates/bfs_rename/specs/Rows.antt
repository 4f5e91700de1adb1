-- A row that leaves a directory, and one that comes into a directory.
use Rattle.std.specs.Prelude.{◌≡◌, ℕ, ℤ, pos, List, [], Option, Some, None}
use Rattle.bfs_base.specs.declared.kind.KeyKind.TheVariants.{Text}
use Rattle.bfs_super.specs.declared.geometry.Geometry.{Geometry}
use Rattle.bfs_bitmap.specs.Runs.{Room}
use Rattle.bfs_pages.specs.Maps.{assoc, put, without}
use Rattle.bfs_tree.specs.Trees.{Node, Tree, IsNode}
use Rattle.bfs_tree.specs.declared.call.Kind.TheVariants.{Dir}
use Rattle.bfs_maps.specs.NumberTrees.{AreNumbers}
use Rattle.bfs_shift.specs.Lists.{Lists, with_rows}
use Rattle.bfs_shift.specs.Work.{IsAtWork}

-- the lists, where a directory has lost the row of a name
abbrev pub row_taken : Lists → ℕ → List ℕ → Lists
row_taken lists dir name = with_rows lists dir (without Text (lists.rows dir) name)

-- the lists, where it has, and then a directory has gained one
abbrev pub rows_moved : Lists → ℕ → List ℕ → ℕ → List ℕ → ℕ → Lists
rows_moved lists dir name to_dir to_name id =
    with_rows (row_taken lists dir name) to_dir (put Text ((row_taken lists dir name).rows to_dir) to_name (pos id))

-- Both directories are there, with rows of plain numbers; the first has the name, and once that is taken the second hasn't the other name.
pub record IsRowMoving (tree : Tree) (lists : Lists) (dir : ℕ) (name : List ℕ) (to_dir : ℕ) (to_name : List ℕ) : Type 0 where
  pub d : Node
  pub there : IsNode tree dir d
  pub dir_kind : d.kind ≡ Dir
  pub t : Node
  pub to_there : IsNode tree to_dir t
  pub to_kind : t.kind ≡ Dir
  pub numbers : AreNumbers (lists.rows dir)
  pub to_numbers : AreNumbers (lists.rows to_dir)
  pub value : ℤ
  pub row : assoc Text (lists.rows dir) name ≡ Some value
  pub free : assoc Text ((row_taken lists dir name).rows to_dir) to_name ≡ None

-- both directories of some tree stand on a volume at work, with rows of plain numbers in the first
pub record HasPlaces (g : Geometry) (v : Room) (m : ℕ → Option (List ℕ)) (dir to_dir : ℕ) : Type 0 where
  pub tree : Tree
  pub lists : Lists
  pub work : IsAtWork g v m tree lists []
  pub d : Node
  pub there : IsNode tree dir d
  pub dir_kind : d.kind ≡ Dir
  pub t : Node
  pub to_there : IsNode tree to_dir t
  pub to_kind : t.kind ≡ Dir
  pub numbers : AreNumbers (lists.rows dir)
