-- What the steps of a removal make of the bytes of a stream, and why it is refused.
use Rattle.std.specs.Prelude.{◌≡◌, ◌⊎◌, ◌≢◌, ◌≤◌, ◌+◌, ℕ, ℤ, pos, zero, suc, List, [], ◌∷◌, length, Option, Some, None, IfSome}
use Rattle.bfs_base.specs.declared.kind.KeyKind.{KeyKind}
use Rattle.bfs_node.specs.Page.{Row, rows_of}
use Rattle.bfs_node.specs.declared.header.Header.{Header}
use Rattle.bfs_node.specs.declared.fault.TreeFault.{TreeFault}
use Rattle.bfs_node.specs.declared.fault.TreeFault.TheVariants.{Exists, Absent, Damaged, Pages, NoMemory}
use Rattle.bfs_pages.specs.Answers.{IsChild, IsOfKind}
use Rattle.bfs_pages.specs.Maps.{assoc}
use Rattle.bfs_pages.specs.Order.{Key}
use Rattle.bfs_pages.specs.Shapes.{Shape, leaf_shape, inner_body, tree_rows}
use Rattle.bfs_pages.specs.Trees.{page_in, header_in, state_of, Holds, place_of, body_in, free_in, neighbours_in}
use Rattle.bfs_pages.specs.Writes.{SamePages}
use Rattle.bfs_pages.specs.Ways.{under, KeysRise}
use Rattle.bfs_remove.specs.Cuts.{Marked, keys_without, last_without}
use Rattle.bfs_remove.specs.declared.way.Branch.{Branch}
use Rattle.bfs_remove.specs.declared.way.Way.{Way}

-- pages, and no more interior pages below them than the tree has levels for
abbrev pub IsBranch : ℕ → ℕ → Branch → Type 0
IsBranch size levels branch = IsChild size branch.page × IsChild size branch.child × (branch.below + 2 ≤ levels)

-- the way of a key leads to this leaf, and this is the last page with a key on it
pub record IsWayTo (kind : KeyKind) (b : List ℕ) (t : Shape) (k : Key) (page : List ℕ) (way : Way) : Type 0 where
  pub header : way.header ≡ header_in b
  pub page_is : page ≡ page_in b way.leaf
  pub leaf : under kind (state_of kind b).levels t k ≡ leaf_shape way.leaf (rows_of page)
  pub branch : Marked kind (state_of kind b).levels t k way.branch

-- A page is put before the free list of this header.
pub record IsGiven (b c : List ℕ) (at : ℕ) (h : Header) : Type 0 where
  pub size : length c ≡ length b
  pub header : header_in c ≡ record h { free_pointer = pos at }
  pub pages : (x : ℕ) → x ≢ at → page_in c x ≡ page_in b x
  pub free : free_in (page_in c at) ≡ Some (place_of h.free_pointer)

-- The pages in hand are in the free list, the tree stays, and so do the pages that values reach.
pub record IsReleased (kind : KeyKind) (b c reached : List ℕ) (t : Shape) : Type 0 where
  pub frees : List ℕ
  pub holds : Holds kind (state_of kind c) reached t frees
  pub stay : SamePages reached b c

-- A page has other neighbours, where there is one, and says what it said.
pub record IsMended (kind : KeyKind) (b c : List ℕ) (at : ℕ) (ends : ℕ × ℕ) : Type 0 where
  pub size : length c ≡ length b
  pub header : header_in c ≡ header_in b
  pub pages : (x : ℕ) → x ≢ at → page_in c x ≡ page_in b x
  pub body : body_in kind (page_in c at) ≡ body_in kind (page_in b at)
  pub free : free_in (page_in c at) ≡ free_in (page_in b at)
  pub ends_are : at ≢ 0 → neighbours_in (page_in c at) ≡ ends

-- the rows of an interior page without that at a place, or behind them, without the last one
abbrev pub rows_less : List Row → ℕ → List Row
rows_less [] i = []
rows_less (r ∷ []) i = []
rows_less (r ∷ (s ∷ rs)) zero = s ∷ rs
rows_less (r ∷ (s ∷ rs)) (suc i) = r ∷ rows_less (s ∷ rs) i

-- the last child of an interior page without the child at a place
abbrev pub last_less : List Row → ℤ → ℕ → ℤ
last_less [] last i = last
last_less (r ∷ []) last zero = last
last_less (r ∷ []) last (suc i) = r.1
last_less (r ∷ (s ∷ rs)) last zero = last
last_less (r ∷ (s ∷ rs)) last (suc i) = last_less (s ∷ rs) last i

-- An interior page with a key has lost the child that a key leads to.
pub record IsDropped (kind : KeyKind) (b c : List ℕ) (at : ℕ) (k : Key) : Type 0 where
  pub size : length c ≡ length b
  pub header : header_in c ≡ header_in b
  pub pages : (x : ℕ) → x ≢ at → page_in c x ≡ page_in b x
  pub ends : neighbours_in (page_in c at) ≡ neighbours_in (page_in b at)
  pub body : (keys : List (Key × ℕ)) (last : ℕ) → body_in kind (page_in b at) ≡ Some (inner_body keys last) → KeysRise kind keys → 1 ≤ length keys
      → body_in kind (page_in c at) ≡ Some (inner_body (keys_without kind keys k) (last_without kind keys last k))

-- the root is a leaf, or has a key
abbrev pub IsLow : List ℕ → Type 0
IsLow bytes = ((header_in bytes).levels ≡ 1) ⊎ (1 ≤ length (rows_of (page_in bytes (place_of (header_in bytes).root_pointer))))

-- A row wasn't taken out of a tree: its key isn't there, or a call of the pages failed.
abbrev pub IsNotTaken : {F : Type 0} → KeyKind → Shape → Key → TreeFault F → Type 0
IsNotTaken kind t k Exists = ⊥
IsNotTaken kind t k Absent = assoc kind (tree_rows t) k ≡ None
IsNotTaken kind t k (Damaged page sort) = ⊥
IsNotTaken kind t k (Pages fault) = Unit {0}
IsNotTaken kind t k NoMemory = ⊥

-- where the key isn't there, the stream stays; else the page just read isn't of its kind, or a call of the pages failed
abbrev pub IsWithheld : {F : Type 0} → KeyKind → Option (List ℕ) → Option (List ℕ) → (F → Type 0) → TreeFault F → Type 0
IsWithheld kind told now cause Exists = ⊥
IsWithheld kind told now cause Absent = now ≡ told
IsWithheld kind told now cause (Damaged page sort) = IfSome now (λ bytes. ¬ IsOfKind kind bytes page sort)
IsWithheld kind told now cause (Pages fault) = cause fault
IsWithheld kind told now cause NoMemory = ⊥
