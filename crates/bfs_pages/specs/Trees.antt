-- What the pages of a stream say, and that a tree stands there. A place is a byte offset in the stream; page 0 is the
-- header, so the place 0 stands for none.
use Rattle.std.specs.Prelude.{◌≡◌, ◌≤◌, ◌+◌, ◌-◌, ◌%◌, ℕ, ℤ, pos, negsuc, zero, suc, List, [], ◌∷◌, Option, Some, None, Bool, true, ◌&&◌, ◌==◌, nat_le, if◌then◌else◌, length}
use Rattle.bfs_node.specs.Lists.{times}
use Rattle.bfs_node.specs.BaseKeyKind.{KeyKind}
use Rattle.bfs_node.specs.Header.{header_at, code_of, IsHeader}
use Rattle.bfs_node.specs.declared.header.Header.{Header}
use Rattle.bfs_node.specs.Page.{Row, rows_of, links_of, taken_by, count_at, key_bytes_at, start_at, end_at, least_key, most_key}
use Rattle.bfs_txn.specs.Pages.{page_at}
use Rattle.bfs_pages.specs.Order.{Key}
use Rattle.bfs_pages.specs.Shapes.{Body, leaf_body, inner_body, Shape, tree_rows, met_by, leaves_of, entries_of, place, Stands, IsDeep, AscendAll}

-- a page begins at this byte of a stream with so many bytes
abbrev pub is_place : ℕ → ℕ → Bool
is_place size x = nat_le (x + 1) size && (x % 1024 == 0)

-- the page that begins there, other than the header
abbrev pub page_in : List ℕ → ℕ → List ℕ
page_in bytes x = if nat_le 1 x && is_place (length bytes) x then page_at bytes x else []

abbrev pub header_in : List ℕ → Header
header_in bytes = header_at (page_at bytes 0)

-- The place that a link names: -1 names none, which is 0. What can be no link gives 1, where no page begins.
abbrev pub place_of : ℤ → ℕ
place_of (pos zero) = 1
place_of (pos (suc n)) = suc n
place_of (negsuc zero) = 0
place_of (negsuc (suc n)) = 1

-- the keys before number n each end where they may, and have a length of their kind
abbrev pub are_ends : KeyKind → List ℕ → ℕ → Bool
are_ends kind page zero = true
are_ends kind page (suc j) =
    are_ends kind page j && (nat_le (start_at page j + least_key kind) (end_at page j) && nat_le (end_at page j) (start_at page j + most_key kind))

-- a page of this kind of keys, whose rows can be read
abbrev pub is_page : KeyKind → List ℕ → Bool
is_page kind page =
    (length page == 1024) && (nat_le (taken_by (count_at page) (key_bytes_at page)) 1024 && (are_ends kind page (count_at page) && (start_at page (count_at page) == key_bytes_at page)))

-- an interior page's value is the link to a child
abbrev pub children_in : List Row → List (Key × ℕ)
children_in [] = []
children_in (r ∷ rs) = (r.0, place_of r.1) ∷ children_in rs

-- a leaf has the overflow link -1, and an interior page has its last child there
abbrev pub body_of : ℤ → List Row → Body
body_of (negsuc zero) rows = leaf_body rows
body_of (negsuc (suc n)) rows = inner_body (children_in rows) (place_of (negsuc (suc n)))
body_of (pos n) rows = inner_body (children_in rows) (place_of (pos n))

abbrev pub body_in : KeyKind → List ℕ → Option Body
body_in kind page = if is_page kind page then Some (body_of (links_of page).overflow (rows_of page)) else None

-- the neighbours of a leaf, left and right
abbrev pub neighbours_in : List ℕ → ℕ × ℕ
neighbours_in page = (place_of (links_of page).left, place_of (links_of page).right)

-- a free page has the overflow link -2, and its left link is the next free page
abbrev pub next_if : ℤ → ℤ → Option ℕ
next_if (negsuc (suc zero)) left = Some (place_of left)
next_if (negsuc zero) left = None
next_if (negsuc (suc (suc n))) left = None
next_if (pos n) left = None

abbrev pub free_in : List ℕ → Option ℕ
free_in page = next_if (links_of page).overflow (links_of page).left

-- what the pages and the header of a stream say
pub record State : Type 0 where
  pub bodies : ℕ → Option Body
  pub links : ℕ → ℕ × ℕ
  pub frees : ℕ → Option ℕ
  pub root : ℕ
  pub levels : ℕ
  pub free : ℕ
  pub size : ℕ
  pub pages : ℕ → List ℕ

abbrev pub state_of : KeyKind → List ℕ → State
state_of kind bytes = record {
  bodies = λ x. body_in kind (page_in bytes x);
  links = λ x. neighbours_in (page_in bytes x);
  frees = λ x. free_in (page_in bytes x);
  root = place_of (header_in bytes).root_pointer;
  levels = (header_in bytes).levels - 1;
  free = place_of (header_in bytes).free_pointer;
  size = length bytes;
  pages = λ x. page_in bytes x;
}

-- the header's other fields: it is one of a tree of this kind of keys, which has a level, and tells the stream's size
pub record IsTreeHeader (kind : KeyKind) (size : ℕ) (h : Header) : Type 0 where
  pub header : IsHeader h
  pub kind_is : h.data_type ≡ code_of kind
  pub levels : 1 ≤ h.levels
  pub maximum : h.maximum_size ≡ pos size

-- the first place of a list, or this one
abbrev pub head_or : ℕ → List ℕ → ℕ
head_or none [] = none
head_or none (x ∷ xs) = x

-- the pages of a list are linked to their neighbours, with a page before and one behind
abbrev pub Linked : (ℕ → ℕ × ℕ) → ℕ → List ℕ → ℕ → Type 0
Linked links prev [] next = Unit {0}
Linked links prev (x ∷ xs) next = (links x ≡ (prev, head_or next xs)) × Linked links x xs next

-- the free list from a page on
abbrev pub FreeFrom : (ℕ → Option ℕ) → ℕ → List ℕ → Type 0
FreeFrom frees at [] = at ≡ 0
FreeFrom frees at (x ∷ xs) = (at ≡ x) × (frees x ≡ Some (head_or 0 xs)) × FreeFrom frees (head_or 0 xs) xs

-- so often a page begins at this place: once or never
unfoldable pub held : ℕ → ℕ → ℕ
held size x = if is_place size x then 1 else 0

-- A tree stands with its free list, and each page of the stream is the header, one of those that values reach, in the
-- tree, or in the free list, once.
pub record Built (st : State) (reached : List ℕ) (t : Shape) (fs : List ℕ) : Type 0 where
  pub root : place t ≡ st.root
  pub stands : Stands st.bodies t
  pub deep : IsDeep st.levels t
  pub chain : FreeFrom st.frees st.free fs
  pub once : (x : ℕ) → times x (0 ∷ []) + times x reached + times x (met_by t) + times x fs ≡ held st.size x

-- its keys ascend, and its leaves are linked
pub record Holds (kind : KeyKind) (st : State) (reached : List ℕ) (t : Shape) (fs : List ℕ) : Type 0 where
  pub built : Built st reached t fs
  pub ascends : AscendAll kind (entries_of t)
  pub linked : Linked st.links 0 (leaves_of t) 0

-- a stream's bytes are those of a tree with these pages that values reach, this shape and this free list
pub record IsTree (kind : KeyKind) (bytes : List ℕ) (reached : List ℕ) (t : Shape) (fs : List ℕ) : Type 0 where
  pub header : IsTreeHeader kind (length bytes) (header_in bytes)
  pub holds : Holds kind (state_of kind bytes) reached t fs

-- The rows of a stream's bytes: the stream has a tree of some shape, whose leaves have these rows.
abbrev pub HasRows : KeyKind → List ℕ → List ℕ → List Row → Type 0
HasRows kind bytes reached rows = (t : Shape) × (fs : List ℕ) × IsTree kind bytes reached t fs × (tree_rows t ≡ rows)
