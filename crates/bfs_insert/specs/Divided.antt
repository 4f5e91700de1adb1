-- A full page is divided, and the page above gets a key more.
use Rattle.std.specs.Prelude.{◌≡◌, ◌≤◌, ◌<◌, ℕ, ℤ, ◌+◌, zero, suc, List, [], ◌∷◌, ◌++◌, length, Bool}
use Rattle.bfs_base.specs.declared.kind.KeyKind.{KeyKind}
use Rattle.bfs_node.specs.Page.{Row, rows_of, keys_of, links_of, taken_by}
use Rattle.bfs_pages.specs.Order.{Key, at_most}
use Rattle.bfs_pages.specs.Trees.{place_of, children_in}
use Rattle.bfs_pages.specs.Ways.{keys_split, last_split}

-- the bytes of rows, each with its key and ten bytes for the key's end and the value
abbrev pub weight : List Row → ℕ
weight [] = 0
weight (r ∷ rs) = length r.0 + 10 + weight rs

-- the rows with a key before row i, which takes that row's child and leaves it another; behind the last row the last child
abbrev pub bound_rows : List Row → ℤ → ℕ → Key → ℤ → List Row
bound_rows [] last i bound right = (bound, last) ∷ []
bound_rows (r ∷ rs) last zero bound right = (bound, r.1) ∷ (r.0, right) ∷ rs
bound_rows (r ∷ rs) last (suc i) bound right = r ∷ bound_rows rs last i bound right

abbrev pub bound_last : List Row → ℤ → ℕ → ℤ → ℤ
bound_last [] last i right = right
bound_last (r ∷ rs) last zero right = last
bound_last (r ∷ rs) last (suc i) right = bound_last rs last i right

-- The page above the halves has the key between them, and the first half is the one on a key's way, or the second.
pub record IsBetween (kind : KeyKind) (above new : List ℕ) (right : ℕ) (k sep : Key) (left : Bool) : Type 0 where
  pub keys : children_in (rows_of new) ≡ keys_split kind (children_in (rows_of above)) (place_of (links_of above).overflow) k sep right
  pub last : place_of (links_of new).overflow ≡ last_split kind (children_in (rows_of above)) (place_of (links_of above).overflow) k right
  pub way : at_most kind k sep ≡ left

-- the rows of a leaf fall apart behind the row with this key
pub record IsLeafSplit (rows left right : List Row) (sep : Key) : Type 0 where
  pub front : List Row
  pub value : ℤ
  pub next : Row
  pub back : List Row
  pub rows_are : rows ≡ front ++ ((sep, value) ∷ next ∷ back)
  pub left_are : left ≡ front ++ ((sep, value) ∷ [])
  pub right_are : right ≡ next ∷ back

-- the rows of an interior page fall apart at the row with this key and this value
pub record IsInteriorSplit (rows left right : List Row) (sep : Key) (value : ℤ) : Type 0 where
  pub rows_are : rows ≡ left ++ ((sep, value) ∷ right)

-- fewer than 752 bytes of a page are taken
abbrev pub IsRoomy : List ℕ → Type 0
IsRoomy page = taken_by (length (rows_of page)) (length (keys_of (rows_of page))) + 272 ≤ 1024

abbrev pub IsFullPage : List ℕ → Type 0
IsFullPage page =
    (taken_by (length (rows_of page)) (length (keys_of (rows_of page))) ≤ 1024) × (1024 < taken_by (length (rows_of page)) (length (keys_of (rows_of page))) + 272)
