-- What the steps of adding and removing numbers make of the bytes of a stream.
use Rattle.std.specs.Prelude.{◌≡◌, ◌≢◌, ◌⊎◌, ◌≤◌, ◌<◌, ◌+◌, ◌*◌, ℕ, List}
use Rattle.bfs_pages.specs.Trees.{page_in, header_in}
use Rattle.bfs_pages.specs.Writes.{PageSet}
use Rattle.bfs_remove.specs.Removed.{IsGiven}
use Rattle.bfs_values.specs.Values.{IsFragment, fragment_count, fragment_numbers}
use Rattle.bfs_dups.specs.Slots.{SameBut}

-- a page has one fragment, of these numbers, and fifteen free ones
pub record IsLone (page : List ℕ) (i : ℕ) (numbers : List ℕ) : Type 0 where
  pub good : IsFragment page i
  pub numbers_are : fragment_numbers page i ≡ numbers
  pub free : (j : ℕ) → j < 16 → j ≢ i → fragment_count page j ≡ 0

-- one fragment of a page has other numbers, and its other fragments are as they were
pub record IsFilled (b c : List ℕ) (at i : ℕ) (numbers : List ℕ) : Type 0 where
  pub page : List ℕ
  pub set : PageSet b c at page
  pub same : SameBut (page_in b at) page (64 * i) (64 * i + 64)
  pub good : IsFragment page i
  pub numbers_are : fragment_numbers page i ≡ numbers

-- one fragment of a page is free, its other fragments are as they were, and one of them is in use
pub record IsCleared (b c : List ℕ) (at i : ℕ) : Type 0 where
  pub page : List ℕ
  pub set : PageSet b c at page
  pub same : SameBut (page_in b at) page (64 * i) (64 * i + 64)
  pub clear : fragment_count page i ≡ 0
  pub other : (j : ℕ) × (j < 16) × (1 ≤ fragment_count page j)

-- the page's other fragments are free, and it is put before the free list
pub record IsEmptied (b c : List ℕ) (at i : ℕ) : Type 0 where
  pub free : (j : ℕ) → j < 16 → j ≢ i → fragment_count (page_in b at) j ≡ 0
  pub given : IsGiven b c at (header_in b)

abbrev pub IsVacated : List ℕ → List ℕ → ℕ → ℕ → Type 0
IsVacated b c at i = IsCleared b c at i ⊎ IsEmptied b c at i
