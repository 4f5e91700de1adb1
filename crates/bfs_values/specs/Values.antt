-- The numbers that a value of a leaf means.
use Rattle.std.specs.Prelude.{◌≡◌, ◌≤◌, ◌<◌, ◌+◌, ◌*◌, ◌/◌, ℕ, ℤ, zero, suc, List, [], ◌∷◌, ◌++◌, length, Bool, true, ◌&&◌, nat_lt, ◌==◌, if◌then◌else◌}
use Rattle.bfs_base.specs.Lists.{IsOnce}
use Rattle.bfs_bytes.specs.Fields.{unsigned_at}
use Rattle.bfs_pages.specs.Answers.{IsChild}
use Rattle.bfs_pages.specs.Trees.{page_in, neighbours_in}
use Rattle.bfs_values.specs.declared.link.Link.{Link}
use Rattle.bfs_values.specs.declared.link.Link.TheVariants.{Number, Fragment, Chain, Nothing}
use Rattle.bfs_values.specs.Links.{link_in}

-- n numbers of eight bytes, from a place on
abbrev pub numbers_from : List ℕ → ℕ → ℕ → List ℕ
numbers_from page at zero = []
numbers_from page at (suc n) = unsigned_at 8 page at ∷ numbers_from page (at + 8) n

-- each number is less than the next
abbrev pub is_ascending : List ℕ → Bool
is_ascending [] = true
is_ascending (x ∷ []) = true
is_ascending (x ∷ (y ∷ ys)) = nat_lt x y && is_ascending (y ∷ ys)

-- a fragment page has 16 fragments of 64 bytes, each a count and up to seven numbers
abbrev pub fragment_count : List ℕ → ℕ → ℕ
fragment_count page i = unsigned_at 8 page (64 * i)

abbrev pub fragment_numbers : List ℕ → ℕ → List ℕ
fragment_numbers page i = numbers_from page (64 * i + 8) (fragment_count page i)

-- a fragment in use: 1 to 7 numbers, which ascend
pub record IsFragment (page : List ℕ) (i : ℕ) : Type 0 where
  pub inside : i < 16
  pub some : 1 ≤ fragment_count page i
  pub fits : fragment_count page i ≤ 7
  pub ascend : is_ascending (fragment_numbers page i) ≡ true

-- a duplicate page has two links, a count at 16, and up to 125 numbers from 24
abbrev pub page_count : List ℕ → ℕ
page_count page = unsigned_at 8 page 16

abbrev pub page_numbers : List ℕ → List ℕ
page_numbers page = numbers_from page 24 (page_count page)

-- a duplicate page: 1 to 125 numbers, which ascend
pub record IsDuplicates (page : List ℕ) : Type 0 where
  pub some : 1 ≤ page_count page
  pub fits : page_count page ≤ 125
  pub ascend : is_ascending (page_numbers page) ≡ true

-- the page that the right link of one names, or 0 for none
abbrev pub next_of : List ℕ → ℕ → ℕ
next_of bytes at = (neighbours_in (page_in bytes at)).1

-- the right links from a page on come to an end, so many pages further
abbrev pub EndsAfter : List ℕ → ℕ → ℕ → Type 0
EndsAfter bytes zero at = next_of bytes at ≡ 0
EndsAfter bytes (suc n) at = IsChild (length bytes) (next_of bytes at) × EndsAfter bytes n (next_of bytes at)

-- n pages from one on, along the right links, as long as there is a next one
abbrev pub chain_from : List ℕ → ℕ → ℕ → List ℕ
chain_from bytes zero at = []
chain_from bytes (suc n) at = at ∷ (if next_of bytes at == 0 then [] else chain_from bytes n (next_of bytes at))

-- the pages of a chain: no chain has more pages than the stream
abbrev pub chain_of : List ℕ → ℕ → List ℕ
chain_of bytes at = chain_from bytes (length bytes / 1024) at

abbrev pub numbers_of_pages : List ℕ → List ℕ → List ℕ
numbers_of_pages bytes [] = []
numbers_of_pages bytes (x ∷ xs) = page_numbers (page_in bytes x) ++ numbers_of_pages bytes xs

-- a number put among ascending ones, and numbers put in ascending order
abbrev pub placed : ℕ → List ℕ → List ℕ
placed x [] = x ∷ []
placed x (y ∷ ys) = if nat_lt y x then y ∷ placed x ys else x ∷ y ∷ ys

abbrev pub in_order : List ℕ → List ℕ
in_order [] = []
in_order (x ∷ xs) = placed x (in_order xs)

-- each page of a list is a duplicate page
abbrev pub AreDuplicates : List ℕ → List ℕ → Type 0
AreDuplicates bytes [] = Unit {0}
AreDuplicates bytes (x ∷ xs) = IsDuplicates (page_in bytes x) × AreDuplicates bytes xs

-- what a link names means numbers: it is a number; or a fragment in use; or a chain of duplicate pages that ends, in
-- which no number is twice
abbrev pub HasNumbers : List ℕ → Link → Type 0
HasNumbers bytes (Number n) = Unit {0}
HasNumbers bytes (Fragment page i) = IsChild (length bytes) page × IsFragment (page_in bytes page) i
HasNumbers bytes (Chain page) = IsChild (length bytes) page × ((n : ℕ) × EndsAfter bytes n page) × AreDuplicates bytes (chain_of bytes page) × IsOnce (numbers_of_pages bytes (chain_of bytes page))
HasNumbers bytes Nothing = ⊥

-- the same, but that a number may be twice in the chain: what a reader can tell
abbrev pub IsReadable : List ℕ → Link → Type 0
IsReadable bytes (Number n) = Unit {0}
IsReadable bytes (Fragment page i) = IsChild (length bytes) page × IsFragment (page_in bytes page) i
IsReadable bytes (Chain page) = IsChild (length bytes) page × ((n : ℕ) × EndsAfter bytes n page) × AreDuplicates bytes (chain_of bytes page)
IsReadable bytes Nothing = ⊥

-- the numbers: that one; those of the fragment; or those of all pages of the chain, put in ascending order
abbrev pub numbers_in : List ℕ → Link → List ℕ
numbers_in bytes (Number n) = n ∷ []
numbers_in bytes (Fragment page i) = fragment_numbers (page_in bytes page) i
numbers_in bytes (Chain page) = in_order (numbers_of_pages bytes (chain_of bytes page))
numbers_in bytes Nothing = []

-- how many pages have them
abbrev pub pages_in : List ℕ → Link → ℕ
pages_in bytes (Number n) = 0
pages_in bytes (Fragment page i) = 1
pages_in bytes (Chain page) = length (chain_of bytes page)
pages_in bytes Nothing = 0

abbrev pub HasValues : List ℕ → ℤ → Type 0
HasValues bytes value = HasNumbers bytes (link_in value)

abbrev pub values_in : List ℕ → ℤ → List ℕ
values_in bytes value = numbers_in bytes (link_in value)

abbrev pub pages_for : List ℕ → ℤ → ℕ
pages_for bytes value = pages_in bytes (link_in value)
