-- The rows of a stream's bytes, from the root's page down.
use Rattle.std.specs.Prelude.{ℕ, zero, suc, List, [], ◌∷◌, ◌++◌, Option, Some, None, map}
use Rattle.std.specs.List.{flat_map}
use Rattle.bfs_base.specs.declared.kind.KeyKind.{KeyKind}
use Rattle.bfs_node.specs.Page.{Row}
use Rattle.bfs_pages.specs.Shapes.{Body, leaf_body, inner_body}
use Rattle.bfs_pages.specs.Trees.{state_of}

-- the rows of a leaf; another page has none
abbrev pub rows_at : Option Body → List Row
rows_at None = []
rows_at (Some (leaf_body rows)) = rows
rows_at (Some (inner_body keys last)) = []

-- the children of an interior page, from left to right; another page has none
abbrev pub children_at : Option Body → List ℕ
children_at None = []
children_at (Some (leaf_body rows)) = []
children_at (Some (inner_body keys last)) = map (λ e. e.1) keys ++ (last ∷ [])

-- the rows of the leaves that are so many pages below a page, from left to right
abbrev pub rows_below : (ℕ → Option Body) → ℕ → ℕ → List Row
rows_below bodies zero at = rows_at (bodies at)
rows_below bodies (suc n) at = flat_map (rows_below bodies n) (children_at (bodies at))

-- Rows: those of all leaves below the root's page, which are as many pages down as the header says
unfoldable pub rows_in : KeyKind → List ℕ → List Row
rows_in kind bytes = rows_below (state_of kind bytes).bodies (state_of kind bytes).levels (state_of kind bytes).root
