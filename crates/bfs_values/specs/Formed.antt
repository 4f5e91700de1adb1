-- The form that a value has by how many numbers it means: one is plain, two to seven are a fragment, more are a chain.
use Rattle.std.specs.Prelude.{◌≡◌, ◌⊎◌, ◌≤◌, ◌^◌, ℕ, List, [], ◌∷◌, length}
use Rattle.bfs_values.specs.declared.link.Link.{Link}
use Rattle.bfs_values.specs.declared.link.Link.TheVariants.{Number, Fragment, Chain, Nothing}

-- numbers that a fragment is for: two to seven, or one that no plain value holds
abbrev pub AreFew : List ℕ → Type 0
AreFew xs = ((2 ≤ length xs) × (length xs ≤ 7)) ⊎ ((n : ℕ) × (2 ^ 62 ≤ n) × (xs ≡ n ∷ []))

-- a link has the form that is for so many numbers
abbrev pub IsFormed : Link → List ℕ → Type 0
IsFormed (Number n) xs = length xs ≡ 1
IsFormed (Fragment page i) xs = AreFew xs
IsFormed (Chain page) xs = 8 ≤ length xs
IsFormed Nothing xs = ⊥
