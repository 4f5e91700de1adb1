-- What is told after bits were set or cleared, and which blocks that may change.
use Rattle.std.specs.Prelude.{◌≡◌, ◌≤◌, ◌<◌, ◌+◌, ◌-◌, ◌*◌, ◌/◌, ◌==◌, if◌then◌else◌, ℕ, List, Option, Some}
use Rattle.bfs_base.specs.Lists.{counted_from}
use Rattle.bfs_bitmap.specs.Runs.{Room, per_block}

-- a map is told, and so is this of it
abbrev pub IsTold : ((ℕ → Option (List ℕ)) → Type 0) → Option (ℕ → Option (List ℕ)) → Type 0
IsTold P told = (m : ℕ → Option (List ℕ)) × (told ≡ Some m) × P m

-- a block of the bitmap that has a bit of a run
abbrev pub HasBitOf : Room → ℕ → ℕ → ℕ → Type 0
HasBitOf v first len k = (j : ℕ) × (first ≤ j) × (j < first + len) × (k ≡ 1 + j / per_block v)

-- the blocks of the bitmap that have a bit of a run of so many blocks from this one on
abbrev pub bits_of : Room → ℕ → ℕ → List ℕ
bits_of v first len = counted_from (1 + first / per_block v) (if len == 0 then 0 else (first + len - 1) / per_block v - first / per_block v + 1)

-- a block of the bitmap
abbrev pub IsBitmapBlock : Room → ℕ → Type 0
IsBitmapBlock v k = (1 ≤ k) × (per_block v * (k - 1) < v.blocks)
