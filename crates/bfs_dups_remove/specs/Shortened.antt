-- What the steps of removing a number make of the bytes of a stream.
use Rattle.std.specs.Prelude.{◌≡◌, ◌≢◌, ◌⊎◌, ◌≤◌, ℕ, List, [], ◌∷◌, ◌++◌, length}
use Rattle.bfs_pages.specs.Trees.{header_in, neighbours_in}
use Rattle.bfs_pages.specs.Writes.{PageSet}
use Rattle.bfs_remove.specs.Removed.{IsGiven}
use Rattle.bfs_values.specs.declared.link.Link.TheVariants.{Chain}
use Rattle.bfs_values.specs.Values.{IsDuplicates, page_numbers, next_of, chain_of, numbers_in}

-- the last of these pages, or 0 where there is none
abbrev pub IsBehind : List ℕ → ℕ → Type 0
IsBehind front before = ((before ≡ 0) × (front ≡ [])) ⊎ ((before ≢ 0) × ((us : List ℕ) × (front ≡ us ++ (before ∷ []))))

-- a page of these, and the page in front of it
pub record IsLocated (xs : List ℕ) (at before : ℕ) : Type 0 where
  pub front : List ℕ
  pub back : List ℕ
  pub parts : xs ≡ front ++ (at ∷ back)
  pub behind : IsBehind front before

-- a duplicate page has these numbers, and the right neighbour that it had
pub record IsRenumbered (b c : List ℕ) (at : ℕ) (numbers : List ℕ) : Type 0 where
  pub page : List ℕ
  pub set : PageSet b c at page
  pub good : IsDuplicates page
  pub next : (neighbours_in page).1 ≡ next_of b at
  pub numbers_are : page_numbers page ≡ numbers

-- a duplicate page has these numbers, and its right neighbour is that of another page, which is put before the free list
pub record IsPassed (b c : List ℕ) (at gone : ℕ) (numbers : List ℕ) : Type 0 where
  pub middle : List ℕ
  pub page : List ℕ
  pub set : PageSet b middle at page
  pub good : IsDuplicates page
  pub next : (neighbours_in page).1 ≡ next_of b gone
  pub numbers_are : page_numbers page ≡ numbers
  pub given : IsGiven middle c gone (header_in middle)

-- a chain has one page, or eight numbers or more
abbrev pub IsFolded : List ℕ → ℕ → Type 0
IsFolded bytes first = (chain_of bytes first ≡ first ∷ []) ⊎ (8 ≤ length (numbers_in bytes (Chain first)))
