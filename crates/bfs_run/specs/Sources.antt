-- What was read of a source.
use Rattle.std.specs.Prelude.{◌≡◌, ◌⊎◌, ◌<◌, ◌++◌, ℕ, List, length, Option, Some}

-- all that was left of it; or where a script may have fewer bytes than that, more of it than a script may have
abbrev pub IsReadOf : List ℕ → List ℕ → Type 0
IsReadOf left read = (read ≡ left) ⊎ ((268435456 < length read) × (more : List ℕ) × (left ≡ read ++ more))

-- of these bytes the first were read, and the rest is left
abbrev pub HasRead : Option (List ℕ) → List ℕ → List ℕ → List ℕ → Type 0
HasRead told first read left = (told ≡ Some left) × (first ≡ read ++ left)
