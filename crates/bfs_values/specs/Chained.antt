-- The pages of a chain, one after another.
use Rattle.std.specs.Prelude.{◌≡◌, ℕ, List, [], ◌∷◌, length}
use Rattle.bfs_pages.specs.Answers.{IsChild}
use Rattle.bfs_pages.specs.Trees.{page_in, neighbours_in, Linked}
use Rattle.bfs_values.specs.declared.link.Link.{Link}
use Rattle.bfs_values.specs.declared.link.Link.TheVariants.{Number, Fragment, Chain, Nothing}
use Rattle.bfs_values.specs.Values.{next_of, chain_of}

-- these are the pages from one on, along the right links
abbrev pub Chained : List ℕ → ℕ → List ℕ → Type 0
Chained bytes at [] = at ≡ 0
Chained bytes at (x ∷ xs) = (at ≡ x) × IsChild (length bytes) x × Chained bytes (next_of bytes x) xs

-- The pages of the chain that a link names, if it does, name the pages beside them: each has the page before it as its left
-- neighbour and the page behind it as its right neighbour; the first one has none to its left, and the last one none to its right.
abbrev pub IsLinked : List ℕ → Link → Type 0
IsLinked bytes (Number n) = Unit {0}
IsLinked bytes (Fragment page i) = Unit {0}
IsLinked bytes (Chain page) = Linked (λ x. neighbours_in (page_in bytes x)) 0 (chain_of bytes page) 0
IsLinked bytes Nothing = Unit {0}
