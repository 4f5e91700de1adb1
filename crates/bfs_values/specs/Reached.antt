-- The pages that the values of a tree reach, a tree with all its pages, and rows with their numbers written out.
use Rattle.std.specs.Prelude.{◌≡◌, ◌<◌, ◌↔◌, ℕ, ◌+◌, List, [], ◌∷◌, ◌++◌, Bool, false, ◌&&◌, ◌==◌, ◌%◌, if◌then◌else◌, map, length}
use Rattle.std.specs.List.{flat_map, AllByRecursion}
use Rattle.bfs_base.specs.Lists.{Has}
use Rattle.bfs_base.specs.declared.kind.KeyKind.{KeyKind}
use Rattle.bfs_node.specs.Page.{Row}
use Rattle.bfs_pages.specs.Shapes.{Shape}
use Rattle.bfs_pages.specs.Trees.{IsTree, page_in}
use Rattle.bfs_values.specs.declared.link.Link.{Link}
use Rattle.bfs_values.specs.declared.link.Link.TheVariants.{Number, Fragment, Chain, Nothing}
use Rattle.bfs_values.specs.Links.{link_in}
use Rattle.bfs_values.specs.Values.{EndsAfter, chain_of, fragment_count, HasValues, values_in}
use Rattle.bfs_values.specs.Rows.{rows_in}

-- the link names this fragment of the page at this place
abbrev pub is_fragment : ℕ → ℕ → Link → Bool
is_fragment at f (Number n) = false
is_fragment at f (Fragment page i) = (page == at) && (i == f)
is_fragment at f (Chain page) = false
is_fragment at f Nothing = false

-- how many rows name the fragment
abbrev pub times_named : ℕ → ℕ → List Row → ℕ
times_named at f [] = 0
times_named at f (r ∷ rs) = (if is_fragment at f (link_in r.1) then 1 else 0) + times_named at f rs

-- the first page of the chain that a link names, if it does
abbrev pub chain_in : Link → List ℕ
chain_in (Number n) = []
chain_in (Fragment page i) = []
chain_in (Chain page) = page ∷ []
chain_in Nothing = []

-- the first pages of the chains that rows name
abbrev pub chains_in : List Row → List ℕ
chains_in rows = flat_map (λ r. chain_in (link_in r.1)) rows

-- the right links from a page on come to an end
abbrev pub Ends : List ℕ → ℕ → Type 0
Ends bytes first = (n : ℕ) × EndsAfter bytes n first

-- These pages are the ones that the values of rows reach: pages with a fragment that a row names, and the pages of the
-- chains that rows name. In such a page of fragments each that isn't free is named by exactly one row.
pub record AreReached (bytes : List ℕ) (rows : List Row) (reached : List ℕ) : Type 0 where
  pub fragments : List ℕ
  pub parts : reached ≡ fragments ++ flat_map (chain_of bytes) (chains_in rows)
  pub ends : AllByRecursion (Ends bytes) (chains_in rows)
  pub named : (at : ℕ) → Has fragments at ↔ ((f : ℕ) × (0 < times_named at f rows))
  pub each : (at f : ℕ) → Has fragments at → f < 16 → 0 < fragment_count (page_in bytes at) f → times_named at f rows ≡ 1

-- each row has a value that means numbers
abbrev pub AllMean : List ℕ → List Row → Type 0
AllMean bytes rows = AllByRecursion (λ r. HasValues bytes r.1) rows

-- A stream's bytes are whole pages and a tree of this kind of keys, and each of its pages is the header, in the tree,
-- reached by a value, or in the free list, once. Each row's value means numbers.
pub record IsWholeTree (kind : KeyKind) (bytes : List ℕ) : Type 0 where
  pub whole : length bytes % 1024 ≡ 0
  pub reached : List ℕ
  pub shape : Shape
  pub free : List ℕ
  pub tree : IsTree kind bytes reached shape free
  pub values : AreReached bytes (rows_in kind bytes) reached
  pub mean : AllMean bytes (rows_in kind bytes)

-- a row's key with each of the numbers that its value means
abbrev pub pairs_of : List ℕ → Row → List (List ℕ × ℕ)
pairs_of bytes r = map (λ n. (r.0, n)) (values_in bytes r.1)

-- these are the pairs of keys and numbers, row by row
pub record AreWritten (bytes : List ℕ) (rows : List Row) (pairs : List (List ℕ × ℕ)) : Type 0 where
  pub are : pairs ≡ flat_map (pairs_of bytes) rows
