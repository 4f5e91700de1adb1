-- Lists of numbers in a page: a count, and so many numbers behind it, each of eight bytes.
use Rattle.std.specs.Prelude.{◌≡◌, ◌⊎◌, ◌≤◌, ◌+◌, ℕ, List}
use Rattle.bfs_bytes.specs.Fields.{unsigned_at}

-- how many numbers the list at a place has
abbrev pub list_count : List ℕ → ℕ → ℕ
list_count page at = unsigned_at 8 page at

-- the eight bytes from each place on that lie before one byte, or from another on, say what they said
abbrev pub SameBut : List ℕ → List ℕ → ℕ → ℕ → Type 0
SameBut old new from to = (m : ℕ) → (m + 8 ≤ from) ⊎ (to ≤ m) → unsigned_at 8 new m ≡ unsigned_at 8 old m
