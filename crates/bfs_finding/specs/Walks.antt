-- What is met below a page of a tree, by the bytes alone: pages, leaves, and what stands in them with its place.
use Rattle.std.specs.Prelude.{ℕ, zero, suc, ◌+◌, List, [], ◌∷◌, ◌++◌, length, Option, Some, None, ◌/◌, ◌==◌, if◌then◌else◌}
use Rattle.std.specs.List.{flat_map}
use Rattle.bfs_base.specs.declared.kind.KeyKind.{KeyKind}
use Rattle.bfs_node.specs.Page.{Row}
use Rattle.bfs_pages.specs.Order.{Key}
use Rattle.bfs_pages.specs.Shapes.{Body, leaf_body, inner_body, Entry, a_row, a_bound}
use Rattle.bfs_pages.specs.Trees.{State, state_of}
use Rattle.bfs_values.specs.declared.link.Link.{Link}
use Rattle.bfs_values.specs.declared.link.Link.TheVariants.{Number, Fragment, Chain, Nothing}
use Rattle.bfs_values.specs.Links.{link_in}
use Rattle.bfs_values.specs.Values.{chain_of}
use Rattle.bfs_values.specs.Reached.{chains_in}
use Rattle.bfs_values.specs.Rows.{children_at, rows_in}

-- the pages that are fewer than so many pages down, and those that are so many
abbrev pub inners_below : (ℕ → Option Body) → ℕ → ℕ → List ℕ
inners_below bodies zero at = []
inners_below bodies (suc n) at = at ∷ flat_map (inners_below bodies n) (children_at (bodies at))

abbrev pub leaves_below : (ℕ → Option Body) → ℕ → ℕ → List ℕ
leaves_below bodies zero at = at ∷ []
leaves_below bodies (suc n) at = flat_map (leaves_below bodies n) (children_at (bodies at))

-- a row or a bound, with its page and its place there
abbrev pub Met : Type 0
Met = ℕ × ℕ × Entry

abbrev pub rows_met : ℕ → ℕ → List Row → List Met
rows_met at i [] = []
rows_met at i (r ∷ rs) = (at, i, a_row r.0 r.1) ∷ rows_met at (i + 1) rs

abbrev pub leaf_met : ℕ → Option Body → List Met
leaf_met at None = []
leaf_met at (Some (leaf_body rows)) = rows_met at 0 rows
leaf_met at (Some (inner_body keys last)) = []

-- what is below the children, and between two of them the key of their page
abbrev pub between : (ℕ → List Met) → ℕ → ℕ → List (Key × ℕ) → ℕ → List Met
between below at i [] last = below last
between below at i (k ∷ ks) last = below k.1 ++ ((at, i, a_bound k.0) ∷ between below at (i + 1) ks last)

abbrev pub inner_met : (ℕ → List Met) → ℕ → Option Body → List Met
inner_met below at None = []
inner_met below at (Some (leaf_body rows)) = []
inner_met below at (Some (inner_body keys last)) = between below at 0 keys last

abbrev pub entries_below : (ℕ → Option Body) → ℕ → ℕ → List Met
entries_below bodies zero at = leaf_met at (bodies at)
entries_below bodies (suc n) at = inner_met (entries_below bodies n) at (bodies at)

-- the free list, as far as its links lead to pages with the mark: at most so many
abbrev pub free_next : (ℕ → List ℕ) → Option ℕ → List ℕ
free_next go None = []
free_next go (Some next) = go next

abbrev pub free_from : (ℕ → Option ℕ) → ℕ → ℕ → List ℕ
free_from frees zero at = []
free_from frees (suc n) at = if at == 0 then [] else at ∷ free_next (free_from frees n) (frees at)

-- of a whole stream: the interior pages, the leaves, what is met from left to right, and the free list
module _ (kind : KeyKind) (bytes : List ℕ) where
  abbrev pub the_state : State
  the_state = state_of kind bytes

  abbrev pub inners_in : List ℕ
  inners_in = inners_below the_state.bodies the_state.levels the_state.root

  abbrev pub leaves_in : List ℕ
  leaves_in = leaves_below the_state.bodies the_state.levels the_state.root

  abbrev pub entries_met : List Met
  entries_met = entries_below the_state.bodies the_state.levels the_state.root

  abbrev pub frees_in : List ℕ
  frees_in = free_from the_state.frees (length bytes / 1024) the_state.free

-- the pages of the fragments that rows name, each as often as it is named
abbrev pub fragment_in : Link → List ℕ
fragment_in (Number n) = []
fragment_in (Fragment page i) = page ∷ []
fragment_in (Chain page) = []
fragment_in Nothing = []

abbrev pub fragments_in : List Row → List ℕ
fragments_in rows = flat_map (λ r. fragment_in (link_in r.1)) rows

-- the pages of the chains that rows name
abbrev pub chain_pages : KeyKind → List ℕ → List ℕ
chain_pages kind bytes = flat_map (chain_of bytes) (chains_in (rows_in kind bytes))

-- the interior pages, the leaves, those of the free list, and those of chains
abbrev pub pages_met : KeyKind → List ℕ → List ℕ
pages_met kind bytes = inners_in kind bytes ++ (leaves_in kind bytes ++ (frees_in kind bytes ++ chain_pages kind bytes))
