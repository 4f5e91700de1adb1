-- What a walk over all pages of a tree knows at its end, by the bytes alone, and that these are then a whole tree.
use Rattle.std.specs.Prelude.{◌≡◌, ◌+◌, ◌%◌, ℕ, zero, suc, List, [], ◌∷◌, ◌++◌, length, Option, Some, map}
use Rattle.std.specs.List.{AllByRecursion}
use Rattle.bfs_base.specs.Lists.{times}
use Rattle.bfs_base.specs.declared.kind.KeyKind.{KeyKind}
use Rattle.bfs_node.specs.Page.{Row}
use Rattle.bfs_pages.specs.Order.{Key}
use Rattle.bfs_pages.specs.Shapes.{Body, leaf_body, inner_body, Entry, AscendAll}
use Rattle.bfs_pages.specs.Trees.{state_of, header_in, held, IsTreeHeader, Linked, FreeFrom}
use Rattle.bfs_values.specs.Rows.{rows_in}
use Rattle.bfs_values.specs.Reached.{AreReached, AllMean, IsWholeTree}
use Rattle.bfs_finding.specs.Walks.{Met, inners_in, leaves_in, entries_met}

-- each page so many pages down is a leaf, and each above is an interior page
abbrev pub IsGoodBelow : (ℕ → Option Body) → ℕ → ℕ → Type 0
IsGoodBelow bodies zero at = (rows : List Row) × (bodies at ≡ Some (leaf_body rows))
IsGoodBelow bodies (suc n) at =
    (keys : List (Key × ℕ)) × (last : ℕ) × (bodies at ≡ Some (inner_body keys last)) × AllByRecursion (IsGoodBelow bodies n) (map (λ e. e.1) keys ++ (last ∷ []))

-- rows and keys without their places
abbrev pub entries_alone : List Met → List Entry
entries_alone ms = map (λ m. m.2) ms

-- The header is that of a tree. From the root down each page is of its kind; what is met from left to right ascends, and the leaves are
-- linked. The free list ends; each page of the stream is the header, interior, a leaf, reached by a value, or free, once. The
-- values' pages are those that were reached, and each value means numbers.
pub record IsWalked (kind : KeyKind) (bytes reached free : List ℕ) : Type 0 where
  pub whole : length bytes % 1024 ≡ 0
  pub header : IsTreeHeader kind (length bytes) (header_in bytes)
  pub good : IsGoodBelow (state_of kind bytes).bodies (state_of kind bytes).levels (state_of kind bytes).root
  pub ascends : AscendAll kind (entries_alone (entries_met kind bytes))
  pub linked : Linked (state_of kind bytes).links 0 (leaves_in kind bytes) 0
  pub chain : FreeFrom (state_of kind bytes).frees (state_of kind bytes).free free
  pub once : (x : ℕ) → times x (0 ∷ []) + times x reached + (times x (inners_in kind bytes) + times x (leaves_in kind bytes)) + times x free ≡ held (length bytes) x
  pub values : AreReached bytes (rows_in kind bytes) reached
  pub mean : AllMean bytes (rows_in kind bytes)

-- bytes that were walked over are those of a whole tree
abbrev pub WalkedIsWhole : Type 0
WalkedIsWhole = (kind : KeyKind) (bytes reached free : List ℕ) → IsWalked kind bytes reached free → IsWholeTree kind bytes
