-- Numbers, digit by digit.
use Rattle.std.proofs.Common.{◌≡◌, ◌⊎◌, ⊎_elim, ℕ, suc, ◌+◌, ◌-◌, ◌*◌, ◌^◌, ◌<◌, ◌≤◌, List, [], ◌∷◌, length, drop, get_or, ap, arith, add-one, Bool, true, false, ◌&&◌, nat_lt, Some}
use Rattle.std.proofs.lemmas.List.{drop_more, drop_all}
use Rattle.std.proofs.Math.Nat.{pow-succ', pow-le-pow_right}
use Rattle.std.specs.List.{list_all}
use Rattle.bfs_text.specs.Words.{spelled, is_digit, decimal_of, where_}

pub all_on : (base at : ℕ) (word : List ℕ) (d : ℕ) → at < length word → is_digit base (get_or word at d) ≡ true → list_all (is_digit base) (drop at word) ≡ list_all (is_digit base) (drop (at + 1) word)
all_on base at word d lt test = rw (drop_more word at d lt) (ap (λ (t : Bool). t && list_all (is_digit base) (drop (at + 1) word)) test)

pub all_off : (base at : ℕ) (word : List ℕ) (d : ℕ) → at < length word → is_digit base (get_or word at d) ≡ false → list_all (is_digit base) (drop at word) ≡ false
all_off base at word d lt test = rw (drop_more word at d lt) (ap (λ (t : Bool). t && list_all (is_digit base) (drop (at + 1) word)) test)

pub all_at_end : (base at : ℕ) (word : List ℕ) → length word ≤ at → list_all (is_digit base) (drop at word) ≡ true
all_at_end base at word end = ap (list_all (is_digit base)) (drop_all at word end)

pub spelled_on : (base value at : ℕ) (word : List ℕ) (d : ℕ) → at < length word → spelled base value (drop at word) ≡ spelled base (base * value + (get_or word at d - 48)) (drop (at + 1) word)
spelled_on base value at word d lt = ap (spelled base value) (drop_more word at d lt)

pub spelled_at_end : (base value at : ℕ) (word : List ℕ) → length word ≤ at → spelled base value (drop at word) ≡ value
spelled_at_end base value at word end = ap (spelled base value) (drop_all at word end)

pub passes : (base b : ℕ) → 48 ≤ b → b < 48 + base → is_digit base b ≡ true
passes base b low high = grind arith

pub fails : (base b : ℕ) → (b < 48) ⊎ (48 + base ≤ b) → is_digit base b ≡ false
fails base b out = grind (arith, out)

-- one digit more stays below the next power of ten
pub below_power : (base value at digit : ℕ) → (base ≡ 8) ⊎ (base ≡ 10) → value < 10 ^ at → digit < base → base * value + digit < 10 ^ (at + 1)
below_power base value at digit two below small =
    let power : 10 ^ suc at ≡ 10 * 10 ^ at = pow-succ' 10 at in
    rw (add-one, power) (⊎_elim (λ e. rw e (omega (arith, below, small, e))) (λ e. rw e (omega (arith, below, small, e))) two)

-- up to nineteen digits fit
pub fits_in : (base value at : ℕ) → (base ≡ 8) ⊎ (base ≡ 10) → value < 10 ^ at → at ≤ 18 → base * value < 18446744073709551000
fits_in base value at two below few =
    let most : 10 ^ at ≤ 10 ^ 18 = pow-le-pow_right (omega arith) few in
    ⊎_elim (λ e. rw e (omega (arith, below, most))) (λ e. rw e (omega (arith, below, most))) two

pub spelled_grows : (n : ℕ) (digits : List ℕ) → n ≤ spelled 10 n digits
spelled_grows n [] = omega arith
spelled_grows n (d ∷ digits) = let more = spelled_grows (10 * n + (d - 48)) digits in omega (arith, more)

value_in : (passes_it : Bool) (a n : ℕ) → where_ passes_it a ≡ Some n → n ≡ a
value_in true a n is = cc
value_in false a n is = cc

pub decimal_is : (word : List ℕ) (n : ℕ) → decimal_of word ≡ Some n → n ≡ spelled 10 0 word
decimal_is word n is = value_in (nat_lt 0 (length word) && list_all (is_digit 10) word) (spelled 10 0 word) n is

-- where ten times the number so far, with a digit more, is too large, so is the whole
pub too_large : (word : List ℕ) (value at n : ℕ) → at < length word → spelled 10 0 word ≡ spelled 10 value (drop at word) → 18446744073709551616 ≤ 10 * value + (get_or word at 0 - 48) → decimal_of word ≡ Some n → 18446744073709551616 ≤ n
too_large word value at n lt so_far large is =
    let grows = spelled_grows (10 * value + (get_or word at 0 - 48)) (drop (at + 1) word) in
    let on = spelled_on 10 value at word 0 lt in
    let whole = decimal_is word n is in
    omega (arith, grows, on, whole, so_far, large)
