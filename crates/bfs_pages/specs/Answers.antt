-- Which page is of which kind, and why a call on a tree is refused.
use Rattle.std.specs.Prelude.{◌≡◌, ◌≤◌, ◌<◌, ◌⊎◌, ℕ, negsuc, List, length, Option, Some, None, IfSome, true}
use Rattle.bfs_node.specs.BaseKeyKind.{KeyKind}
use Rattle.bfs_node.specs.Header.{header_at}
use Rattle.bfs_node.specs.Page.{rows_of, row_in, value_of, links_of}
use Rattle.bfs_node.specs.declared.header.Header.{Header}
use Rattle.bfs_node.specs.declared.fault.PageKind.{PageKind}
use Rattle.bfs_node.specs.declared.fault.PageKind.TheVariants.{Header as HeaderKind, Interior, Leaf, Fragment, Duplicates}
use Rattle.bfs_node.specs.declared.fault.TreeFault.{TreeFault}
use Rattle.bfs_node.specs.declared.fault.TreeFault.TheVariants.{Exists, Absent, Damaged, Pages, NoMemory}
use Rattle.bfs_node.specs.Lists.{times}
use Rattle.bfs_pages.specs.declared.finding.Found.{Found}
use Rattle.bfs_pages.specs.Maps.{assoc}
use Rattle.bfs_pages.specs.Order.{Key}
use Rattle.bfs_pages.specs.Shapes.{Shape, leaf_shape, tree_rows, leaves_of}
use Rattle.bfs_pages.specs.Ways.{under}
use Rattle.bfs_pages.specs.Trees.{header_in, state_of, is_place, page_in, place_of, is_page, neighbours_in, free_in, IsTreeHeader}

-- a page other than the header begins there
abbrev pub IsChild : ℕ → ℕ → Type 0
IsChild size x = (1 ≤ x) × (is_place size x ≡ true)

-- the same, or none
abbrev pub IsLink : ℕ → ℕ → Type 0
IsLink size x = (x ≡ 0) ⊎ IsChild size x

-- the header of a tree in a stream of so many bytes, whose links lead to pages
pub record IsHeaderFor (kind : KeyKind) (size : ℕ) (h : Header) : Type 0 where
  pub tree : IsTreeHeader kind size h
  pub root : IsChild size (place_of h.root_pointer)
  pub free : IsLink size (place_of h.free_pointer)

-- a page begins there that is free, and names no next one or a page
abbrev pub IsFreePage : List ℕ → ℕ → Type 0
IsFreePage bytes x = (next : ℕ) × (free_in (page_in bytes x) ≡ Some next) × IsLink (length bytes) next

-- the header of a tree, whose first free page is one that is free
abbrev pub IsHeaderPage : KeyKind → List ℕ → Header → Type 0
IsHeaderPage kind bytes h = IsHeaderFor kind (length bytes) h × ((place_of h.free_pointer ≡ 0) ⊎ IsFreePage bytes (place_of h.free_pointer))

-- a leaf: its rows can be read, and its neighbours are pages, or none
pub record IsLeafPage (kind : KeyKind) (size : ℕ) (page : List ℕ) : Type 0 where
  pub good : is_page kind page ≡ true
  pub overflow : (links_of page).overflow ≡ negsuc 0
  pub left : IsLink size (neighbours_in page).0
  pub right : IsLink size (neighbours_in page).1

-- an interior page: its keys can be read, and its children are pages
pub record IsInteriorPage (kind : KeyKind) (size : ℕ) (page : List ℕ) : Type 0 where
  pub good : is_page kind page ≡ true
  pub last : IsChild size (place_of (links_of page).overflow)
  pub children : (i : ℕ) → i < length (rows_of page) → IsChild size (place_of (value_of (row_in (rows_of page) i)))

-- the page at this byte is of this kind: its fields are right, and its links lead to pages
abbrev pub IsOfKind : KeyKind → List ℕ → ℕ → PageKind → Type 0
IsOfKind kind bytes at HeaderKind = (at ≡ 0) × IsHeaderPage kind bytes (header_in bytes)
IsOfKind kind bytes at Interior = IsInteriorPage kind (length bytes) (page_in bytes at)
IsOfKind kind bytes at Leaf = IsLeafPage kind (length bytes) (page_in bytes at)
IsOfKind kind bytes at Fragment = Unit {0}
IsOfKind kind bytes at Duplicates = Unit {0}

-- a page isn't of its kind, or a call of the pages failed
abbrev pub IsUnread : {F : Type 0} → KeyKind → Option (List ℕ) → (F → Type 0) → TreeFault F → Type 0
IsUnread kind told cause Exists = ⊥
IsUnread kind told cause Absent = ⊥
IsUnread kind told cause (Damaged page sort) = IfSome told (λ bytes. ¬ IsOfKind kind bytes page sort)
IsUnread kind told cause (Pages fault) = cause fault
IsUnread kind told cause NoMemory = ⊥

-- a page is blamed only if it is this one, for not being of this kind
abbrev pub IsAt : {F : Type 0} → ℕ → PageKind → TreeFault F → Type 0
IsAt at sort Exists = Unit {0}
IsAt at sort Absent = Unit {0}
IsAt at sort (Damaged page found) = (page ≡ at) × (found ≡ sort)
IsAt at sort (Pages fault) = Unit {0}
IsAt at sort NoMemory = Unit {0}

-- only the page that was read last is blamed; a stream without pages has none to read, and there it is the header
abbrev pub IsJustRead : {F : Type 0} → ℕ → ℕ → TreeFault F → Type 0
IsJustRead size last Exists = Unit {0}
IsJustRead size last Absent = Unit {0}
IsJustRead size last (Damaged page sort) = (page ≡ last) ⊎ ((size ≡ 0) × (page ≡ 0))
IsJustRead size last (Pages fault) = Unit {0}
IsJustRead size last NoMemory = Unit {0}

-- the same, or the header is blamed for its first free page, which was read last
abbrev pub IsBlamed : {F : Type 0} → Option (List ℕ) → ℕ → ℕ → TreeFault F → Type 0
IsBlamed told size last Exists = Unit {0}
IsBlamed told size last Absent = Unit {0}
IsBlamed told size last (Damaged page sort) = ((page ≡ last) ⊎ ((size ≡ 0) × (page ≡ 0))) ⊎ ((page ≡ 0) × (sort ≡ HeaderKind) × IfSome told (λ bytes. last ≡ place_of (header_in bytes).free_pointer))
IsBlamed told size last (Pages fault) = Unit {0}
IsBlamed told size last NoMemory = Unit {0}

-- these bytes are no page of this kind in a stream of so many bytes, whatever else is in the stream
abbrev pub IsUnlike : KeyKind → ℕ → List ℕ → PageKind → Type 0
IsUnlike kind size page HeaderKind = ¬ IsHeaderFor kind size (header_at page)
IsUnlike kind size page Interior = ¬ IsInteriorPage kind size page
IsUnlike kind size page Leaf = ¬ IsLeafPage kind size page
IsUnlike kind size page Fragment = ⊥
IsUnlike kind size page Duplicates = ⊥

-- the page that is blamed is the one that was read last, and the bytes that were read are no page of its kind; or the stream has
-- no pages, and it is the header
abbrev pub IsBroken : {F : Type 0} → KeyKind → ℕ → ℕ → List ℕ → TreeFault F → Type 0
IsBroken kind size last seen Exists = Unit {0}
IsBroken kind size last seen Absent = Unit {0}
IsBroken kind size last seen (Damaged page sort) = ((page ≡ last) × IsUnlike kind size seen sort) ⊎ ((size ≡ 0) × (page ≡ 0) × (sort ≡ HeaderKind))
IsBroken kind size last seen (Pages fault) = Unit {0}
IsBroken kind size last seen NoMemory = Unit {0}

-- the call failed by the pages alone: over a tree's pages none is damaged
abbrev pub IsOfPages : {F : Type 0} → TreeFault F → Type 0
IsOfPages Exists = ⊥
IsOfPages Absent = ⊥
IsOfPages (Damaged page sort) = ⊥
IsOfPages (Pages fault) = Unit {0}
IsOfPages NoMemory = ⊥

-- this page is the leaf on the way of a key
abbrev pub IsLeafFor : KeyKind → List ℕ → Shape → Key → ℕ → List ℕ → Type 0
IsLeafFor kind bytes t k at page = (page ≡ page_in bytes at) × (under kind (state_of kind bytes).levels t k ≡ leaf_shape at (rows_of page))

-- the value at a key, and a leaf of the tree that has it
abbrev pub IsFound : KeyKind → List ℕ → Shape → Key → Option Found → Type 0
IsFound kind bytes t k None = assoc kind (tree_rows t) k ≡ None
IsFound kind bytes t k (Some found) =
    (assoc kind (tree_rows t) k ≡ Some found.value) × (1 ≤ times found.leaf (leaves_of t)) × (assoc kind (rows_of (page_in bytes found.leaf)) k ≡ Some found.value)

-- a page isn't of its kind, a call of the pages failed, or there is no room for a number
abbrev pub IsRefused : {F : Type 0} → KeyKind → Option (List ℕ) → (F → Type 0) → TreeFault F → Type 0
IsRefused kind told cause Exists = ⊥
IsRefused kind told cause Absent = ⊥
IsRefused kind told cause (Damaged page sort) = IfSome told (λ bytes. ¬ IsOfKind kind bytes page sort)
IsRefused kind told cause (Pages fault) = cause fault
IsRefused kind told cause NoMemory = Unit {0}

-- a stream that can't get a page more, whose size is a number of 63 bits, or a tree that can't get a level more
abbrev pub IsOutgrown : List ℕ → Type 0
IsOutgrown bytes = (9223372036854773760 < length bytes) ⊎ ((header_in bytes).levels ≡ 4294967295)

-- no page is damaged, and there is room but for a number
abbrev pub IsSpared : {F : Type 0} → Option (List ℕ) → TreeFault F → Type 0
IsSpared told Exists = ⊥
IsSpared told Absent = ⊥
IsSpared told (Damaged page sort) = ⊥
IsSpared told (Pages fault) = Unit {0}
IsSpared told NoMemory = IfSome told IsOutgrown

-- a call of the pages failed, or there is no room for a number
abbrev pub IsTurned : {F : Type 0} → (F → Type 0) → TreeFault F → Type 0
IsTurned cause Exists = ⊥
IsTurned cause Absent = ⊥
IsTurned cause (Damaged page sort) = ⊥
IsTurned cause (Pages fault) = cause fault
IsTurned cause NoMemory = Unit {0}
