-- What a search through the bitmap answers.
use Rattle.std.specs.Prelude.{◌≡◌, ◌≤◌, ◌<◌, ◌⊎◌, ℕ, ◌+◌, ◌-◌, ◌%◌, List, Option, false}
use Rattle.bfs_bitmap.specs.declared.search.Search.{Search}
use Rattle.bfs_bitmap.specs.declared.search.Search.TheVariants.{Found, Full}
use Rattle.bfs_bitmap.specs.Runs.{Room, IsTaken, HasNoRun, IsFreeRun, is_free, free_count}

-- a found run lies in one group of the volume and has as many blocks as were asked for
abbrev pub IsSound : Room → ℕ → ℕ → Search → Type 0
IsSound v wanted longest (Found first len low) = (first % v.group_blocks + len ≤ v.group_blocks) × (first + len ≤ v.blocks) × (wanted ≤ len) × (len ≤ longest) × (low ≤ first)
IsSound v wanted longest (Full free) = Unit {0}

-- it is the lowest, with nothing free below `low`; or there is none
abbrev pub IsAnswer : Room → (ℕ → Option (List ℕ)) → ℕ → ℕ → Search → Type 0
IsAnswer v m wanted longest (Found first len low) = IsTaken v m wanted longest first len × ((k : ℕ) → k < low → is_free v m k ≡ false)
IsAnswer v m wanted longest (Full free) = HasNoRun v m wanted free

-- of a search from a place on: it is the lowest from there on, with nothing free between there and `low`; or there is none
abbrev pub IsAnswerFrom : Room → (ℕ → Option (List ℕ)) → ℕ → ℕ → ℕ → Search → Type 0
IsAnswerFrom v m start wanted longest (Found first len low) = IsTaken v m wanted longest first len × ((k : ℕ) → start ≤ k → k < low → is_free v m k ≡ false)
IsAnswerFrom v m start wanted longest (Full free) = ((g : ℕ) → ¬ IsFreeRun v m g wanted) × (free_count v m start + free ≡ free_count v m v.blocks)

-- it has seen nothing below the place
abbrev pub BeginsFrom : ℕ → Search → Type 0
BeginsFrom start (Found first len low) = start ≤ low
BeginsFrom start (Full free) = Unit {0}

-- Where a free run from `at` on has to end: at its group's end, at the volume's, or after as many blocks as are wanted at most.
pub record IsLimit (v : Room) (at longest limit : ℕ) : Type 0 where
  pub after : at < limit
  pub inside : limit ≤ v.blocks
  pub one_group : at % v.group_blocks + (limit - at) ≤ v.group_blocks
  pub few : limit - at ≤ longest
  pub why : (limit ≡ v.blocks) ⊎ ((at % v.group_blocks + (limit - at) ≡ v.group_blocks) ⊎ (limit - at ≡ longest))
