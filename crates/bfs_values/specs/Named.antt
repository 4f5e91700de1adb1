-- The pages of fragments that a leaf names.
use Rattle.std.specs.Prelude.{◌≡◌, ◌≤◌, ◌<◌, ℕ, List, length}
use Rattle.bfs_node.specs.Page.{rows_of, row_in, value_of}
use Rattle.bfs_pages.specs.Answers.{IsChild}
use Rattle.bfs_pages.specs.Trees.{page_in}
use Rattle.bfs_values.specs.Links.{link_in}
use Rattle.bfs_values.specs.Values.{fragment_count}
use Rattle.bfs_values.specs.declared.link.Link.TheVariants.{Fragment}

-- a row of the leaf names a fragment of the page
abbrev pub IsNamedIn : List ℕ → ℕ → ℕ → Type 0
IsNamedIn bytes leaf page = (i : ℕ) × (j : ℕ) × (i < length (rows_of (page_in bytes leaf))) × (link_in (value_of (row_in (rows_of (page_in bytes leaf)) i)) ≡ Fragment page j)

-- none of a page's sixteen fragments is free
abbrev pub IsFull : List ℕ → Type 0
IsFull page = (k : ℕ) → k < 16 → 1 ≤ fragment_count page k

-- no page that a row of the leaf names has a free fragment
abbrev pub IsCrowded : List ℕ → ℕ → Type 0
IsCrowded bytes leaf = (page : ℕ) → IsNamedIn bytes leaf page → IsChild (length bytes) page → IsFull (page_in bytes page)
