-- How many free runs of one length there are.
use Rattle.std.specs.Prelude.{◌≡◌, ◌≤◌, ◌<◌, ℕ, ◌+◌, ◌-◌, List, length, Bool, true, false, Option, All}
use Rattle.bfs_bitmap.specs.Runs.{Room, IsFreeRun, AreFrom}

-- Free runs of so many blocks, one behind another from a place on, by their first blocks.
pub record AreRuns (v : Room) (m : ℕ → Option (List ℕ)) (len from : ℕ) (gs : List ℕ) : Type 0 where
  pub apart : AreFrom len from gs
  pub free : All (λ g. IsFreeRun v m g len) gs

-- so many of them are there, from the first block on
pub record HasRuns (v : Room) (m : ℕ → Option (List ℕ)) (len n : ℕ) : Type 0 where
  pub firsts : List ℕ
  pub runs : AreRuns v m len 0 firsts
  pub count : length firsts ≡ n

-- no more than so many are there
abbrev pub NoMoreRuns : Room → (ℕ → Option (List ℕ)) → ℕ → ℕ → Type 0
NoMoreRuns v m len n = (gs : List ℕ) → AreRuns v m len 0 gs → length gs ≤ n

-- The free run that ends a stretch is the first in it; or none begins in it.
abbrev pub IsStretch : Room → (ℕ → Option (List ℕ)) → ℕ → ℕ → ℕ → Bool → Type 0
IsStretch v m len at end true = (at + len ≤ end) × IsFreeRun v m (end - len) len × ((g : ℕ) → at ≤ g → g < end - len → ¬ IsFreeRun v m g len)
IsStretch v m len at end false = (g : ℕ) → at ≤ g → g < end → ¬ IsFreeRun v m g len
