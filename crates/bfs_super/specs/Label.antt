-- The label in the name of 32 bytes.
use Rattle.std.specs.Prelude.{◌≡◌, ◌<◌, ◌≤◌, ℕ, List, ◌++◌, ◌==◌, length, drop, replicate, All}
use Rattle.std.specs.List.{before_first}

-- the bytes before the first zero, or all
abbrev pub label_of : List ℕ → List ℕ
label_of name = before_first (λ b. b == 0) name

-- a label, and zeros up to 32 bytes
abbrev pub name_of : List ℕ → List ℕ
name_of label = label ++ drop (length label) (replicate 32 0)

pub record IsLabel (name : List ℕ) : Type 0 where
  pub some : 0 < length name
  pub short : length name ≤ 31
  pub plain : All (λ b. (b ≡ 0 → ⊥) × (b ≡ 47 → ⊥)) name
