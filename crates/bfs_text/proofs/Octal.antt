-- Four octal digits are below 4,096.
use Rattle.std.proofs.Common.{◌≡◌, ℕ, ◌<◌, ◌≤◌, List, [], ◌∷◌, length, refl, arith, Bool, true, false, ◌&&◌, Some}
use Rattle.std.specs.List.{list_all}
use Rattle.bfs_text.specs.Words.{spelled, is_digit, is_number, digits_of, where_}

passed : (t : Bool) (a n : ℕ) → where_ t a ≡ Some n → (t ≡ true) × (n ≡ a)
passed true a n is = (refl, cc)
passed false a n is = cc

low_digit : (d : ℕ) (rest : Bool) → (is_digit 8 d && rest) ≡ true → (d < 56) × (rest ≡ true)
low_digit d rest is = (grind (arith, is), grind (arith, is))

all_of : (word : List ℕ) → is_number 8 1 4 word ≡ true → (list_all (is_digit 8) word ≡ true) × (length word ≤ 4)
all_of word is = (grind (arith, is), grind (arith, is))

small : (word : List ℕ) → list_all (is_digit 8) word ≡ true → length word ≤ 4 → spelled 8 0 word < 4096
small [] all few = omega arith
small (a ∷ []) all few = let x = low_digit a true all in omega (arith, x.0)
small (a ∷ b ∷ []) all few = let x = low_digit a _ all in let y = low_digit b true x.1 in omega (arith, x.0, y.0)
small (a ∷ b ∷ c ∷ []) all few = let x = low_digit a _ all in let y = low_digit b _ x.1 in let z = low_digit c true y.1 in omega (arith, x.0, y.0, z.0)
small (a ∷ b ∷ c ∷ d ∷ []) all few =
    let x = low_digit a _ all in let y = low_digit b _ x.1 in let z = low_digit c _ y.1 in let w = low_digit d true z.1 in omega (arith, x.0, y.0, z.0, w.0)
small (a ∷ b ∷ c ∷ d ∷ e ∷ ds) all few = absurd (omega (arith, few))

pub octal_is_small : (word : List ℕ) (n : ℕ) → digits_of 8 1 4 word ≡ Some n → n < 4096
octal_is_small word n is =
    let p = passed (is_number 8 1 4 word) (spelled 8 0 word) n is in
    let a = all_of word p.0 in
    let s = small word a.0 a.1 in
    omega (arith, s, p.1)
