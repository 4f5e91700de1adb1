-- What is true of rows, whatever keeps them, and of the pages that their values reach.
use Rattle.std.specs.Prelude.{◌≡◌, ◌≤◌, ◌%◌, ℕ, ℤ, List, ◌∷◌, ◌++◌, length, Some}
use Rattle.bfs_base.specs.Lists.{times}
use Rattle.bfs_base.specs.declared.kind.KeyKind.{KeyKind}
use Rattle.bfs_node.specs.Page.{Row, rows_of}
use Rattle.bfs_pages.specs.Maps.{assoc, put, without}
use Rattle.bfs_pages.specs.Order.{Key}
use Rattle.bfs_pages.specs.Shapes.{Shape, tree_rows, leaves_of}
use Rattle.bfs_pages.specs.Trees.{IsTree, page_in}
use Rattle.bfs_pages.specs.Ways.{KeysAscend}
use Rattle.bfs_pages.specs.Writes.{SamePages}
use Rattle.bfs_values.specs.declared.link.Link.TheVariants.{Number}
use Rattle.bfs_values.specs.Links.{link_in}
use Rattle.bfs_values.specs.Reached.{AreReached, AllMean}
use Rattle.bfs_values.specs.Rows.{rows_in}
use Rattle.bfs_values.specs.Stored.{SameNumbers}

-- a tree's rows are those of its stream's bytes, whatever shape it is seen in
abbrev pub RowsAreThose : Type 0
RowsAreThose = (kind : KeyKind) (bytes reached : List ℕ) (t : Shape) (fs : List ℕ) → IsTree kind bytes reached t fs → tree_rows t ≡ rows_in kind bytes

-- and their keys ascend
abbrev pub RowsAscend : Type 0
RowsAscend = (kind : KeyKind) (bytes reached : List ℕ) (t : Shape) (fs : List ℕ) → IsTree kind bytes reached t fs → KeysAscend kind (tree_rows t)

-- where two streams have a tree of one shape, a leaf of it has the same rows in both
abbrev pub LeafStays : Type 0
LeafStays = (kind : KeyKind) (b c r s : List ℕ) (t : Shape) (fs gs : List ℕ) (leaf : ℕ) → IsTree kind b r t fs → IsTree kind c s t gs → 1 ≤ times leaf (leaves_of t) → rows_of (page_in c leaf) ≡ rows_of (page_in b leaf)

-- a value is a plain number
abbrev pub IsPlain : ℤ → Type 0
IsPlain value = (n : ℕ) × (link_in value ≡ Number n)

-- The values of these rows reach these pages of a stream of whole pages, and mean numbers.
pub record Reaches (bytes : List ℕ) (rows : List Row) (reached : List ℕ) : Type 0 where
  pub whole : length bytes % 1024 ≡ 0
  pub values : AreReached bytes rows reached
  pub mean : AllMean bytes rows

-- Where the pages that values reach stay, and a row with a plain value is put, the values reach the same pages, and those of the
-- rows that were there mean the numbers that they meant.
abbrev pub PutReaches : Type 0
PutReaches = (kind : KeyKind) (b c reached : List ℕ) (rows : List Row) (key : Key) (value : ℤ) → Reaches b rows reached → length c % 1024 ≡ 0 → SamePages reached b c → IsPlain value
    → Reaches c (put kind rows key value) reached × SameNumbers b c rows

-- and so where a row with a plain value is taken
abbrev pub TakenReaches : Type 0
TakenReaches = (kind : KeyKind) (b c reached : List ℕ) (rows : List Row) (key : Key) (value : ℤ) → Reaches b rows reached → length c % 1024 ≡ 0 → SamePages reached b c → KeysAscend kind rows → assoc kind rows key ≡ Some value → IsPlain value
    → Reaches c (without kind rows key) reached × SameNumbers b c (without kind rows key)

-- and so where a row with a plain value gets another plain value
abbrev pub ReplacedReaches : Type 0
ReplacedReaches = (b c reached : List ℕ) (front : List Row) (key : Key) (old new : ℤ) (back : List Row) → Reaches b (front ++ ((key, old) ∷ back)) reached → length c % 1024 ≡ 0 → SamePages reached b c → IsPlain old → IsPlain new
    → Reaches c (front ++ ((key, new) ∷ back)) reached × SameNumbers b c (front ++ back)
