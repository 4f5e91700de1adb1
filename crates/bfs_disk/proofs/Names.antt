-- Whether a write names a sector.
use Rattle.std.proofs.Common.{◌≡◌, ℕ, ◌+◌, ◌/◌, ◌<◌, ◌≤◌, List, length, true, false}
use Rattle.std.proofs.lemmas.Bool.{le-leb, lt-leb, lt-ltb, le-ltb, and_from, and_left, and_right}
use Rattle.bfs_disk.specs.State.{names}

-- whether a write names a sector
pub names_inside : (at k : ℕ) (bytes : List ℕ) → at ≤ k → k < at + length bytes / 512 → names at bytes k ≡ true
names_inside at k bytes low high = and_from _ _ (le-leb at k low) (lt-ltb k (at + length bytes / 512) high)

pub names_before : (at k : ℕ) (bytes : List ℕ) → k < at → names at bytes k ≡ false
names_before at k bytes lt = and_left _ _ (lt-leb at k lt)

pub names_after : (at k : ℕ) (bytes : List ℕ) → at + length bytes / 512 ≤ k → names at bytes k ≡ false
names_after at k bytes ge = and_right _ _ (le-ltb k (at + length bytes / 512) ge)
