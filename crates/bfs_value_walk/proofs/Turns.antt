-- Numbers in ascending order, of which none stands twice.
use Rattle.std.proofs.Common.{◌≡◌, ◌≤◌, ◌<◌, ◌+◌, ℕ, zero, suc, List, [], ◌∷◌, length, get_or, drop, Bool, true, false, cond, ◌&&◌, ◌==◌, nat_lt, refl, ap, sym, ◌∙◌, subst, arith}
use Rattle.std.specs.List.Sorted.{IsPermutation, IsNonDecreasing}
use Rattle.std.proofs.lemmas.Bool.{eqb-true, both_ways}
use Rattle.std.proofs.lemmas.List.Sorted.{sum_by-IsPermutation}
use Rattle.bfs_base.specs.Lists.{times, IsOnce}
use Rattle.bfs_pages.proofs.Splice.{self}
use Rattle.bfs_values.specs.Values.{is_ascending}
use Rattle.bfs_value_walk.proofs.Sorting.{sum-times}

lt_yes : (a b : ℕ) → nat_lt a b ≡ true → a < b
lt_yes a b e = grind (arith, e)

lt_no : (a b : ℕ) → nat_lt a b ≡ false → b ≤ a
lt_no a b e = grind (arith, e)

both : (a b : Bool) → (a && b) ≡ true → (a ≡ true) × (b ≡ true)
both true true e = (refl, refl)
both true false e = let bad : false ≡ true = e in cc
both false b e = let bad : false ≡ true = e in cc

-- what isn't above the first number isn't behind it
none_behind : (x : ℕ) (ys : List ℕ) → is_ascending (x ∷ ys) ≡ true → (k : ℕ) → k ≤ x → times k ys ≡ 0
none_behind x [] e k h = refl
none_behind x (y ∷ ys) e k h =
    let s = both (nat_lt x y) (is_ascending (y ∷ ys)) e in
    let less : x < y = lt_yes x y s.0 in
    let rest : times k ys ≡ 0 = none_behind y ys s.1 k (omega (arith, h, less)) in
    by_test (y == k) refl rest less
  where
    by_test : (c : Bool) → (y == k) ≡ c → times k ys ≡ 0 → x < y → cond c 1 0 + times k ys ≡ 0
    by_test true e rest less = absurd (let same = eqb-true y k e in omega (arith, same, less, h))
    by_test false e rest less = omega (arith, rest)

ascend_rest : (x : ℕ) (ys : List ℕ) → is_ascending (x ∷ ys) ≡ true → is_ascending ys ≡ true
ascend_rest x [] e = refl
ascend_rest x (y ∷ ys) e = (both (nat_lt x y) (is_ascending (y ∷ ys)) e).1

ascend_once : (xs : List ℕ) → is_ascending xs ≡ true → IsOnce xs
ascend_once [] e k = omega arith
ascend_once (x ∷ xs) e k = by_test (x == k) refl (ascend_once xs (ascend_rest x xs e) k)
  where
    by_test : (c : Bool) → (x == k) ≡ c → times k xs ≤ 1 → cond c 1 0 + times k xs ≤ 1
    by_test true s ih = let none : times k xs ≡ 0 = none_behind x xs e k (let same = eqb-true x k s in omega (arith, same)) in omega (arith, none)
    by_test false s ih = omega (arith, ih)

once_rest : (x : ℕ) (xs : List ℕ) → IsOnce (x ∷ xs) → IsOnce xs
once_rest x xs once k = let o : times k (x ∷ xs) ≤ 1 = once k in omega (arith, o)

rest_rises : (x : ℕ) (xs : List ℕ) → IsNonDecreasing (x ∷ xs) → IsNonDecreasing xs
rest_rises x xs h = λ i j d m l. h (suc i) (suc j) d (omega (arith, m)) (omega (arith, l))

-- numbers that don't fall and of which none stands twice ascend
once_ascend : (xs : List ℕ) → IsNonDecreasing xs → IsOnce xs → is_ascending xs ≡ true
once_ascend [] h once = refl
once_ascend (x ∷ []) h once = refl
once_ascend (x ∷ (y ∷ ys)) h once = by_test (nat_lt x y) refl (once_ascend (y ∷ ys) (rest_rises x (y ∷ ys) h) (once_rest x (y ∷ ys) once))
  where
    by_test : (c : Bool) → nat_lt x y ≡ c → is_ascending (y ∷ ys) ≡ true → (c && is_ascending (y ∷ ys)) ≡ true
    by_test true e ih = ih
    by_test false e ih =
        let up : x ≤ y = h 0 1 0 (omega arith) (omega arith) in
        let down : y ≤ x = lt_no x y e in
        let same : x ≡ y = omega (arith, up, down) in
        let two : times y (x ∷ (y ∷ ys)) ≡ times y (x ∷ []) + times y (y ∷ ys) = omega arith in
        let one : times y (x ∷ []) ≡ times x (x ∷ []) = ap (λ k. times k (x ∷ [])) (sym same) in
        let own : 1 ≤ times x (x ∷ []) = self x [] in
        let mine : 1 ≤ times y (y ∷ ys) = self y ys in
        let most : times y (x ∷ (y ∷ ys)) ≤ 1 = once y in
        absurd (omega (arith, two, one, own, mine, most))

-- numbers in another order stand there as often
same_times : (xs ys : List ℕ) → IsPermutation xs ys → (k : ℕ) → times k ys ≡ times k xs
same_times xs ys p k = sym (sum-times k ys) ∙ sum_by-IsPermutation (λ x. cond (x == k) 1 0) xs ys p ∙ sum-times k xs

pub sorted_once : (xs ys : List ℕ) → IsPermutation xs ys → is_ascending ys ≡ true → IsOnce xs
sorted_once xs ys p e k = let s = same_times xs ys p k in let o : times k ys ≤ 1 = ascend_once ys e k in omega (arith, s, o)

pub sorted_twice : (xs ys : List ℕ) → IsPermutation xs ys → IsNonDecreasing ys → is_ascending ys ≡ false → ¬ IsOnce xs
sorted_twice xs ys p h e once =
    both_ways (is_ascending ys) e (once_ascend ys h (λ k. let s = same_times xs ys p k in let o : times k xs ≤ 1 = once k in omega (arith, s, o)))

-- ---- a pass over the numbers

falls_at : (xs : List ℕ) (i : ℕ) → i + 1 < length xs → get_or xs (suc i) 0 ≤ get_or xs i 0 → is_ascending (drop i xs) ≡ false
falls_at [] i h l = absurd (omega (arith, h))
falls_at (x ∷ []) zero h l = absurd (omega (arith, h))
falls_at (x ∷ (y ∷ ys)) zero h l = ap (λ c. c && is_ascending (y ∷ ys)) (not_less x y l)
  where
    not_less : (a b : ℕ) → b ≤ a → nat_lt a b ≡ false
    not_less a b h = grind (arith, h)
falls_at (x ∷ xs) (suc i) h l = falls_at xs i (omega (arith, h)) l

climbs_at : (xs : List ℕ) (i : ℕ) → i + 1 < length xs → get_or xs i 0 < get_or xs (suc i) 0 → is_ascending (drop (suc i) xs) ≡ is_ascending (drop i xs)
climbs_at [] i h l = absurd (omega (arith, h))
climbs_at (x ∷ []) zero h l = absurd (omega (arith, h))
climbs_at (x ∷ (y ∷ ys)) zero h l = sym (ap (λ c. c && is_ascending (y ∷ ys)) (less x y l))
  where
    less : (a b : ℕ) → a < b → nat_lt a b ≡ true
    less a b h = grind (arith, h)
climbs_at (x ∷ xs) (suc i) h l = climbs_at xs i (omega (arith, h)) l

next : (i : ℕ) → i + 1 ≡ suc i
next i = omega arith

pub falls : (xs : List ℕ) (i : ℕ) → i + 1 < length xs → get_or xs (i + 1) 0 ≤ get_or xs i 0 → is_ascending (drop i xs) ≡ false
falls xs i h l = falls_at xs i h (subst (λ k. get_or xs k 0 ≤ get_or xs i 0) (next i) l)

pub climbs : (xs : List ℕ) (i : ℕ) → i + 1 < length xs → get_or xs i 0 < get_or xs (i + 1) 0 → is_ascending (drop (i + 1) xs) ≡ is_ascending (drop i xs)
climbs xs i h l = ap (λ k. is_ascending (drop k xs)) (next i) ∙ climbs_at xs i h (subst (λ k. get_or xs i 0 < get_or xs k 0) (next i) l)

ended_at : (xs : List ℕ) (i : ℕ) → length xs ≤ i + 1 → is_ascending (drop i xs) ≡ true
ended_at [] zero h = refl
ended_at [] (suc i) h = refl
ended_at (x ∷ []) zero h = refl
ended_at (x ∷ (y ∷ ys)) zero h = absurd (omega (arith, h))
ended_at (x ∷ xs) (suc i) h = ended_at xs i (omega (arith, h))

pub ended : (xs : List ℕ) (i : ℕ) → length xs ≤ i + 1 → is_ascending (drop i xs) ≡ true
ended xs i h = ended_at xs i h
