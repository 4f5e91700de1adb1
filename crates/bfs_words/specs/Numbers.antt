-- Numbers in decimal digits.
use Rattle.std.specs.Prelude.{◌≡◌, ◌<◌, ◌≤◌, ℕ, ◌+◌, ◌-◌, ◌*◌, List, [], ◌∷◌, length, All}

-- the number that decimal digits spell behind those that spell n
abbrev pub spelled : ℕ → List ℕ → ℕ
spelled n [] = n
spelled n (digit ∷ digits) = spelled (10 * n + (digit - 48)) digits

-- a word of 1 to 20 decimal digits is the number that they spell
pub record IsNumber (word : List ℕ) (n : ℕ) : Type 0 where
  pub some : 0 < length word
  pub short : length word ≤ 20
  pub digits : All (λ d. (48 ≤ d) × (d ≤ 57)) word
  pub value : n ≡ spelled 0 word
