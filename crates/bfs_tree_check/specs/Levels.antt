-- A level of a tree: its pages from left to right, and between two of them the key that parts them.
use Rattle.std.specs.Prelude.{◌≡◌, ◌<◌, ◌+◌, ℕ, ℤ, suc, List, [], ◌∷◌, ◌++◌, length, get_or, Option, Some, None}
use Rattle.std.specs.List.{AllByRecursion, flat_map}
use Rattle.bfs_base.specs.Lists.{times, Has}
use Rattle.bfs_base.specs.declared.kind.KeyKind.{KeyKind}
use Rattle.bfs_node.specs.Page.{Row, rows_of}
use Rattle.bfs_pages.specs.Answers.{IsChild}
use Rattle.bfs_pages.specs.Order.{Key}
use Rattle.bfs_pages.specs.Shapes.{Body, leaf_body, inner_body, a_bound}
use Rattle.bfs_pages.specs.Trees.{state_of, place_of, page_in}
use Rattle.bfs_finding.specs.Walks.{Met, inners_below, leaves_below, entries_below, inners_in, leaves_in, entries_met}
use Rattle.bfs_walk.specs.Walked.{IsGoodBelow}
use Rattle.bfs_tree_check.specs.declared.item.Item.{Item}
use Rattle.bfs_tree_check.specs.declared.item.Item.TheVariants as item

-- the children of the interior page at a place, with its keys from a number on between them
abbrev pub opened : ℕ → ℕ → List Row → ℤ → List Item
opened at i [] last = item.Page (place_of last) ∷ []
opened at i (r ∷ rs) last = item.Page (place_of r.1) ∷ (item.Key at i ∷ opened at (i + 1) rs last)

-- the pages of a level
abbrev pub places_in : Item → List ℕ
places_in (item.Page at) = at ∷ []
places_in (item.Key page index) = []

abbrev pub places : List Item → List ℕ
places items = flat_map places_in items

-- the pages of a level and of its keys lie in the stream
abbrev pub IsInside : ℕ → Item → Type 0
IsInside size (item.Page at) = IsChild size at
IsInside size (item.Key page index) = IsChild size page

abbrev pub AreInside : ℕ → List Item → Type 0
AreInside size items = AllByRecursion (IsInside size) items

-- a key stands in an interior page of the tree
abbrev pub IsThere : KeyKind → List ℕ → Item → Type 0
IsThere kind bytes (item.Page at) = Unit {0}
IsThere kind bytes (item.Key page index) = Has (inners_in kind bytes) page × (index < length (rows_of (page_in bytes page)))

abbrev pub AreThere : KeyKind → List ℕ → List Item → Type 0
AreThere kind bytes items = AllByRecursion (IsThere kind bytes) items

-- the key at a place of an interior page
abbrev pub bound_in : Option Body → ℕ → Key
bound_in None i = []
bound_in (Some (leaf_body rows)) i = []
bound_in (Some (inner_body keys last)) i = (get_or keys i ([], 0)).0

-- what is met below a page that has leaves so many pages down, and the key itself
abbrev pub met_in : (ℕ → Option Body) → ℕ → Item → List Met
met_in bodies n (item.Page at) = entries_below bodies n at
met_in bodies n (item.Key page index) = (page, index, a_bound (bound_in (bodies page) index)) ∷ []

-- the leaves below it, and the pages above these
abbrev pub leaves_at : (ℕ → Option Body) → ℕ → Item → List ℕ
leaves_at bodies n (item.Page at) = leaves_below bodies n at
leaves_at bodies n (item.Key page index) = []

abbrev pub inners_at : (ℕ → Option Body) → ℕ → Item → List ℕ
inners_at bodies n (item.Page at) = inners_below bodies n at
inners_at bodies n (item.Key page index) = []

abbrev pub IsGoodAt : (ℕ → Option Body) → ℕ → Item → Type 0
IsGoodAt bodies n (item.Page at) = IsGoodBelow bodies n at
IsGoodAt bodies n (item.Key page index) = Unit {0}

-- Part of a level was opened, and the rest of it is to be: what is below both is what is met in the tree, from left to right. `seen` says
-- how often a page was met; those of the tree's pages that weren't are below both parts.
pub record IsHalf (kind : KeyKind) (bytes : List ℕ) (n : ℕ) (done todo : List Item) (seen : ℕ → ℕ) : Type 0 where
  pub met : entries_met kind bytes ≡ flat_map (met_in (state_of kind bytes).bodies n) done ++ flat_map (met_in (state_of kind bytes).bodies (suc n)) todo
  pub leaves : leaves_in kind bytes ≡ flat_map (leaves_at (state_of kind bytes).bodies n) done ++ flat_map (leaves_at (state_of kind bytes).bodies (suc n)) todo
  pub inners : (x : ℕ) → times x (0 ∷ []) + times x (inners_in kind bytes)
      ≡ seen x + (times x (flat_map (inners_at (state_of kind bytes).bodies n) done) + times x (flat_map (inners_at (state_of kind bytes).bodies (suc n)) todo))
  pub good : AllByRecursion (IsGoodAt (state_of kind bytes).bodies n) done → AllByRecursion (IsGoodAt (state_of kind bytes).bodies (suc n)) todo
      → IsGoodBelow (state_of kind bytes).bodies (state_of kind bytes).levels (state_of kind bytes).root
  pub there : AreThere kind bytes done × AreThere kind bytes todo

-- a whole level, whose pages have leaves so many pages down
abbrev pub IsLevel : KeyKind → List ℕ → ℕ → List Item → (ℕ → ℕ) → Type 0
IsLevel kind bytes n items seen = IsHalf kind bytes n items [] seen

-- Of the leaves of a tree some were looked at, and the others are to be. `seen` says how often a page was met; only these others weren't.
pub record IsLooking (kind : KeyKind) (bytes done todo : List ℕ) (seen : ℕ → ℕ) : Type 0 where
  pub all : leaves_in kind bytes ≡ done ++ todo
  pub count : (x : ℕ) → times x (0 ∷ []) + (times x (inners_in kind bytes) + times x (leaves_in kind bytes)) ≡ seen x + times x todo
  pub good : AllByRecursion (IsGoodBelow (state_of kind bytes).bodies 0) done
