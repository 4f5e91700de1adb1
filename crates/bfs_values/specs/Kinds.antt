-- Which page is as a reader of rows and their numbers wants it, and why one is refused.
use Rattle.std.specs.Prelude.{◌≡◌, ◌<◌, ℕ, ℤ, List, length, Option, IfSome}
use Rattle.bfs_base.specs.declared.kind.KeyKind.{KeyKind}
use Rattle.bfs_node.specs.Page.{rows_of, row_in, value_of}
use Rattle.bfs_node.specs.declared.fault.PageKind.{PageKind}
use Rattle.bfs_node.specs.declared.fault.PageKind.TheVariants.{Header as HeaderKind, Interior as InteriorKind, Leaf as LeafKind, Fragment as FragmentKind, Duplicates as DuplicatesKind}
use Rattle.bfs_node.specs.declared.fault.TreeFault.{TreeFault}
use Rattle.bfs_node.specs.declared.fault.TreeFault.TheVariants.{Exists, Absent, Damaged, Pages, NoMemory}
use Rattle.bfs_pages.specs.Faults.{Counts, AreLater}
use Rattle.bfs_pages.specs.Answers.{IsChild, IsLink, IsOfKind, IsLeafPage}
use Rattle.bfs_pages.specs.Trees.{page_in}
use Rattle.bfs_values.specs.declared.link.Link.{Link}
use Rattle.bfs_values.specs.declared.link.Link.TheVariants.{Number, Fragment, Chain, Nothing}
use Rattle.bfs_values.specs.Links.{link_in}
use Rattle.bfs_values.specs.Values.{IsFragment, IsDuplicates, next_of, EndsAfter}

-- a leaf has a row with this value
abbrev pub IsValueOf : KeyKind → List ℕ → ℕ → ℤ → Type 0
IsValueOf kind bytes leaf value = IsLeafPage kind (length bytes) (page_in bytes leaf) × ((i : ℕ) × (i < length (rows_of (page_in bytes leaf))) × (value ≡ value_of (row_in (rows_of (page_in bytes leaf)) i)))

-- it is a number, or leads to a page of the stream
abbrev pub IsNamed : ℕ → Link → Type 0
IsNamed size (Number n) = Unit {0}
IsNamed size (Fragment page i) = IsChild size page
IsNamed size (Chain page) = IsChild size page
IsNamed size Nothing = ⊥

-- The page at this byte is of this kind, as a reader of rows and numbers wants it. The right links from a leaf on come to
-- an end, and its values are numbers or lead to pages; each fragment of a fragment page that a value of a leaf names is in
-- use; and so is a duplicate page, whose right links come to an end.
abbrev pub IsWanted : KeyKind → List ℕ → ℕ → PageKind → Type 0
IsWanted kind bytes at HeaderKind = IsOfKind kind bytes at HeaderKind
IsWanted kind bytes at InteriorKind = IsOfKind kind bytes at InteriorKind
IsWanted kind bytes at LeafKind = IsLeafPage kind (length bytes) (page_in bytes at) × ((n : ℕ) × EndsAfter bytes n at) × ((value : ℤ) → IsValueOf kind bytes at value → IsNamed (length bytes) (link_in value))
IsWanted kind bytes at FragmentKind = (leaf : ℕ) (value : ℤ) (i : ℕ) → IsValueOf kind bytes leaf value → link_in value ≡ Fragment at i → IsFragment (page_in bytes at) i
IsWanted kind bytes at DuplicatesKind = IsDuplicates (page_in bytes at) × IsLink (length bytes) (next_of bytes at) × ((n : ℕ) × EndsAfter bytes n at)

-- a page isn't of its kind, a call of the pages failed, or there is no room for the answer
abbrev pub IsCut : {F : Type 0} → KeyKind → Option (List ℕ) → (F → Type 0) → TreeFault F → Type 0
IsCut kind told cause Exists = ⊥
IsCut kind told cause Absent = ⊥
IsCut kind told cause (Damaged page sort) = IfSome told (λ bytes. ¬ IsWanted kind bytes page sort)
IsCut kind told cause (Pages fault) = cause fault
IsCut kind told cause NoMemory = Unit {0}

-- a call of the pages failed, or there is no room for the answer: no page is damaged
abbrev pub IsLacking : {F : Type 0} → TreeFault F → Type 0
IsLacking Exists = ⊥
IsLacking Absent = ⊥
IsLacking (Damaged page sort) = ⊥
IsLacking (Pages fault) = Unit {0}
IsLacking NoMemory = Unit {0}

-- what calls that only read keep
pub record Stays (told now : Option (List ℕ)) (size size_now : ℕ) (old new : Counts) (frame frame_now : List ℕ) (on read : Type 0) : Type 0 where
  pub told_is : now ≡ told
  pub size_is : size_now ≡ size
  pub counts : AreLater old new
  pub frame_is : frame_now ≡ frame
  pub goes_on : on
  pub is_read : read
