-- Numbers in decimal digits.
use Rattle.std.proofs.Common.{◌≡◌, ◌<◌, ◌≤◌, ℕ, ◌+◌, ◌-◌, ◌*◌, List, [], ◌∷◌, length, drop, get_or, sym, ◌∙◌, ap, arith}
use Rattle.std.proofs.lemmas.List.{drop_more, drop_all}
use Rattle.bfs_words.specs.Numbers.{spelled, IsNumber}

-- more digits don't lower a number
pub spelled_grows : (n : ℕ) (digits : List ℕ) → n ≤ spelled n digits
spelled_grows n [] = omega arith
spelled_grows n (d ∷ digits) = let more = spelled_grows (10 * n + (d - 48)) digits in omega (arith, more)

-- one digit more
pub spelled_more : (n at : ℕ) (word : List ℕ) (d : ℕ) → at < length word → spelled n (drop at word) ≡ spelled (10 * n + (get_or word at d - 48)) (drop (at + 1) word)
spelled_more n at word d lt = ap (spelled n) (drop_more word at d lt)

-- a word is one number
pub one_number : (word : List ℕ) (n m : ℕ) → IsNumber word n → IsNumber word m → n ≡ m
one_number word n m first second = first.value ∙ sym second.value

-- a digit more makes the number too large
pub too_large : (value at most : ℕ) (word : List ℕ) (x d n : ℕ) → at < length word → x ≡ get_or word at d - 48 → spelled value (drop at word) ≡ spelled 0 word → most < 10 * value + x → IsNumber word n → n ≤ most → ⊥
too_large value at most word x d n lt is so_far large number few =
    let more : spelled 0 word ≡ spelled (10 * value + (get_or word at d - 48)) (drop (at + 1) word) = sym so_far ∙ spelled_more value at word d lt in
    let grows = spelled_grows (10 * value + (get_or word at d - 48)) (drop (at + 1) word) in
    omega (arith, more, grows, is, large, number.value, few)

-- one step on
pub spelled_on : (value at : ℕ) (word : List ℕ) (x d : ℕ) → at < length word → x ≡ get_or word at d - 48 → spelled value (drop at word) ≡ spelled 0 word → spelled (10 * value + x) (drop (at + 1) word) ≡ spelled 0 word
spelled_on value at word x d lt is so_far = ap (λ (k : ℕ). spelled (10 * value + k) (drop (at + 1) word)) is ∙ sym (spelled_more value at word d lt) ∙ so_far

-- at the end
pub all_read : (value at : ℕ) (word : List ℕ) → ¬ (at < length word) → spelled value (drop at word) ≡ spelled 0 word → value ≡ spelled 0 word
all_read value at word end so_far = ap (spelled value) (sym (drop_all at word (omega (arith, end)))) ∙ so_far
