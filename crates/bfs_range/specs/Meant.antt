-- The numbers that rows mean.
use Rattle.std.specs.Prelude.{ℕ, ◌+◌, ◌≤◌, ◌<◌, List, [], ◌∷◌}
use Rattle.bfs_node.specs.Page.{Row, row_in, value_of}
use Rattle.bfs_values.specs.Kinds.{IsNamed}
use Rattle.bfs_values.specs.Links.{link_in}
use Rattle.bfs_values.specs.Values.{pages_for}

-- the values of the rows between two places are plain numbers, or lead to pages of a stream with so many bytes
abbrev pub AreNamed : ℕ → List Row → ℕ → ℕ → Type 0
AreNamed size rows from to = (i : ℕ) → from ≤ i → i < to → IsNamed size (link_in (value_of (row_in rows i)))

-- how many pages have the numbers of all rows: each fragment's page and the pages of each chain
abbrev pub pages_of : List ℕ → List Row → ℕ
pages_of bytes [] = 0
pages_of bytes (r ∷ rs) = pages_for bytes r.1 + pages_of bytes rs
