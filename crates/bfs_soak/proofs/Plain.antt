-- Numbers in digits, and words without separators.
use Rattle.std.proofs.Common.{◌≡◌, ◌<◌, ◌≤◌, ◌+◌, ◌-◌, ◌*◌, ◌/◌, ◌%◌, ◌^◌, ℕ, List, [], ◌∷◌, ◌++◌, length, length-append, Bool, true, false, not, ◌&&◌, ◌==◌, Some, refl, ap, ◌∙◌, arith, decimal}
use Rattle.std.specs.List.{list_all}
use Rattle.std.proofs.lemmas.List.Folds.{list_all-append}
use Rattle.std.proofs.lemmas.Fmt.{decimal_by_steps}
use Rattle.bfs_text.specs.Cutting.{joined, cut_at, lines_of}
use Rattle.bfs_text.specs.Words.{spelled, is_digit, put_first, unescaped}

-- digits that spell a number
pub record IsDecimal (n : ℕ) (ds : List ℕ) : Type 0 where
  pub some : 0 < length ds
  pub digits : list_all (is_digit 10) ds ≡ true
  pub value : spelled 10 0 ds ≡ n

spelled_push : (n : ℕ) (ds : List ℕ) (d : ℕ) → spelled 10 n (ds ++ d ∷ []) ≡ 10 * spelled 10 n ds + (d - 48)
spelled_push n [] d = refl
spelled_push n (c ∷ cs) d = spelled_push (10 * n + (c - 48)) cs d

digit_passes : (d : ℕ) → d < 10 → is_digit 10 (48 + d) ≡ true
digit_passes d low = grind (arith, low)

one_digit : (n : ℕ) → n < 10 → IsDecimal n ((48 + n) ∷ [])
one_digit n low = record { some = omega arith; digits = ap (λ (t : Bool). t && true) (digit_passes n low); value = omega arith }

more_digits : (n : ℕ) (ds : List ℕ) → 10 ≤ n → IsDecimal (n / 10) ds → IsDecimal n (ds ++ (48 + n % 10) ∷ [])
more_digits n ds high front =
    let some = front.some in
    let long = length-append ds ((48 + n % 10) ∷ []) in
    let value = front.value in
    let pushed = spelled_push 0 ds (48 + n % 10) in
    let low : n % 10 < 10 = omega arith in
    record {
      some = omega (arith, some, long);
      digits = list_all-append (is_digit 10) ds ((48 + n % 10) ∷ []) ∙ ap (λ (t : Bool). t && (is_digit 10 (48 + n % 10) && true)) front.digits ∙ ap (λ (t : Bool). t && true) (digit_passes (n % 10) low);
      value = omega (arith, pushed, value);
    }

pub decimal_is : (n : ℕ) → n < 2 ^ 64 → IsDecimal n (decimal n)
decimal_is n small = decimal_by_steps IsDecimal one_digit more_digits n small

-- ---- words

-- a byte doesn't stand in a word
abbrev pub Lacks : ℕ → List ℕ → Type 0
Lacks b word = list_all (λ c. not (c == b)) word ≡ true

pub both_pass : (t u : Bool) → (t && u) ≡ true → (t ≡ true) × (u ≡ true)
both_pass true u is = (refl, is)
both_pass false u is = cc

pub is_other : (b c : ℕ) → not (b == c) ≡ true → (b == c) ≡ false
is_other b c is = by_test (b == c) is
  where
    by_test : (t : Bool) → not t ≡ true → t ≡ false
    by_test true bad = cc
    by_test false fine = refl

pub digits_lack : (b : ℕ) (ds : List ℕ) → b < 48 → list_all (is_digit 10) ds ≡ true → Lacks b ds
digits_lack b [] low all = refl
digits_lack b (d ∷ ds) low all =
    let p = both_pass (is_digit 10 d) (list_all (is_digit 10) ds) all in
    let digit = p.0 in
    let test : not (d == b) ≡ true = grind (arith, digit, low) in
    ap (λ (t : Bool). t && list_all (λ c. not (c == b)) ds) test ∙ digits_lack b ds low p.1

pub lacks_both : (b : ℕ) (v w : List ℕ) → Lacks b v → Lacks b w → Lacks b (v ++ w)
lacks_both b v w one other = list_all-append (λ c. not (c == b)) v w ∙ ap (λ (t : Bool). t && list_all (λ c. not (c == b)) w) one ∙ other

same_byte : (b : ℕ) → (b == b) ≡ true
same_byte b = grind arith

pub cut_word : (sep : ℕ) (word rest : List ℕ) → Lacks sep word → cut_at sep (word ++ sep ∷ rest) ≡ word ∷ cut_at sep rest
cut_word sep [] rest lacks = rw (same_byte sep) refl
cut_word sep (b ∷ bs) rest lacks =
    let p = both_pass (not (b == sep)) (list_all (λ c. not (c == sep)) bs) lacks in
    rw (is_other b sep p.0) (ap (joined b) (cut_word sep bs rest p.1))

pub cut_last : (sep : ℕ) (word : List ℕ) → Lacks sep word → cut_at sep word ≡ word ∷ []
cut_last sep [] lacks = refl
cut_last sep (b ∷ bs) lacks =
    let p = both_pass (not (b == sep)) (list_all (λ c. not (c == sep)) bs) lacks in
    rw (is_other b sep p.0) (ap (joined b) (cut_last sep bs p.1))

pub first_line : (line rest : List ℕ) → Lacks 10 line → lines_of (line ++ 10 ∷ rest) ≡ line ∷ lines_of rest
first_line [] rest lacks = refl
first_line (b ∷ bs) rest lacks =
    let p = both_pass (not (b == 10)) (list_all (λ c. not (c == 10)) bs) lacks in
    rw (is_other b 10 p.0) (ap (joined b) (first_line bs rest p.1))

pub plain_word : (word : List ℕ) → Lacks 37 word → unescaped word ≡ Some word
plain_word [] lacks = refl
plain_word (b ∷ bs) lacks =
    let p = both_pass (not (b == 37)) (list_all (λ c. not (c == 37)) bs) lacks in
    rw (is_other b 37 p.0) (ap (put_first (Some b)) (plain_word bs p.1))
