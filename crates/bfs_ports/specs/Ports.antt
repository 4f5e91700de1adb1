-- The clauses of a source and a sink. Each may tell its bytes, or not.
use Rattle.std.specs.Prelude.{◌≡◌, ◌≤◌, ◌<◌, ℕ, List, ◌++◌, [], length, take, drop, Option, Some, None}

-- n bytes were taken from the front of what was left. None are only where nothing is left, or where none were asked for.
abbrev pub Takes : Option (List ℕ) → Option (List ℕ) → ℕ → List ℕ → Type 0
Takes None new n into = new ≡ None
Takes (Some left) new n into = (new ≡ Some (drop n left)) × (n ≤ length left) × (take n into ≡ take n left) × (n ≡ 0 → 0 < length into → left ≡ [])

-- what a sink has after some bytes more, where it tells
abbrev pub appended : Option (List ℕ) → List ℕ → Option (List ℕ)
appended None bytes = None
appended (Some written) bytes = Some (written ++ bytes)

-- the time, where told
abbrev pub StandsAt : Option ℕ → ℕ → Type 0
StandsAt None seconds = Unit {0}
StandsAt (Some stands) seconds = seconds ≡ stands
