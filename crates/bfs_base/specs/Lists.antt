-- Lists of block numbers, counted with repeats, and functions that agree at them.
use Rattle.std.specs.Prelude.{◌≡◌, ◌≤◌, ◌<◌, ℕ, zero, suc, ◌+◌, ◌==◌, List, [], ◌∷◌, if◌then◌else◌}

-- the number stands in the list so often
abbrev pub times : ℕ → List ℕ → ℕ
times k [] = 0
times k (x ∷ xs) = (if x == k then 1 else 0) + times k xs

abbrev pub Has : List ℕ → ℕ → Type 0
Has xs k = 0 < times k xs

-- no number stands in the list twice
abbrev pub IsOnce : List ℕ → Type 0
IsOnce xs = (k : ℕ) → times k xs ≤ 1

-- each number stands in both lists equally often
abbrev pub AreSame : List ℕ → List ℕ → Type 0
AreSame xs ys = (k : ℕ) → times k xs ≡ times k ys

-- n numbers from the first on
abbrev pub counted_from : ℕ → ℕ → List ℕ
counted_from first zero = []
counted_from first (suc n) = first ∷ counted_from (suc first) n

-- two maps of blocks agree at the blocks of a list
abbrev pub Agree : (ℕ → List ℕ) → (ℕ → List ℕ) → List ℕ → Type 0
Agree old new xs = (k : ℕ) → Has xs k → new k ≡ old k

-- only blocks of a list have changed
abbrev pub ChangesAt : (ℕ → List ℕ) → (ℕ → List ℕ) → List ℕ → Type 0
ChangesAt old new xs = (k : ℕ) → times k xs ≡ 0 → new k ≡ old k
