-- A list that is sorted and has the elements of another is that one in order.
use Rattle.std.proofs.Common.{◌≡◌, ◌≤◌, ◌<◌, ◌+◌, ℕ, suc, List, [], ◌∷◌, length, get_or, sum_by, Bool, true, false, cond, ◌==◌, nat_lt, refl, ap, sym, ◌∙◌, subst, arith}
use Rattle.std.specs.List.{AllByRecursion}
use Rattle.std.specs.List.Sorted.{IsPermutation, IsNonDecreasing}
use Rattle.std.proofs.lemmas.List.Sorted.{sum_by-IsPermutation}
use Rattle.std.proofs.lemmas.List.Sums.{sum_by-cons}
use Rattle.bfs_base.specs.Lists.{times}
use Rattle.bfs_pages.proofs.Splice.{self}
use Rattle.bfs_values.specs.Values.{placed, in_order}

-- each number is at most those behind it
abbrev Rises : List ℕ → Type 0
Rises [] = Unit {0}
Rises (x ∷ xs) = AllByRecursion (λ y. x ≤ y) xs × Rises xs

all-most : (x y : ℕ) (ys : List ℕ) → x ≤ y → AllByRecursion (λ z. y ≤ z) ys → AllByRecursion (λ z. x ≤ z) ys
all-most x y [] l a = tt
all-most x y (z ∷ zs) l a = (omega (arith, l, a.0), all-most x y zs l a.1)

lt_yes : (a b : ℕ) → nat_lt a b ≡ true → a ≤ b
lt_yes a b e = grind (arith, e)

lt_no : (a b : ℕ) → nat_lt a b ≡ false → b ≤ a
lt_no a b e = grind (arith, e)

all-placed : (w x : ℕ) (ys : List ℕ) → w ≤ x → AllByRecursion (λ z. w ≤ z) ys → AllByRecursion (λ z. w ≤ z) (placed x ys)
all-placed w x [] l a = (l, tt)
all-placed w x (y ∷ ys) l a = by_test (nat_lt y x) (all-placed w x ys l a.1)
  where
    by_test : (c : Bool) → AllByRecursion (λ z. w ≤ z) (placed x ys) → AllByRecursion (λ z. w ≤ z) (cond c (y ∷ placed x ys) (x ∷ y ∷ ys))
    by_test true ih = (a.0, ih)
    by_test false ih = (l, a)

placed-rises : (x : ℕ) (ys : List ℕ) → Rises ys → Rises (placed x ys)
placed-rises x [] r = (tt, tt)
placed-rises x (y ∷ ys) r = by_test (nat_lt y x) refl (placed-rises x ys r.1)
  where
    by_test : (c : Bool) → nat_lt y x ≡ c → Rises (placed x ys) → Rises (cond c (y ∷ placed x ys) (x ∷ y ∷ ys))
    by_test true e ih = (all-placed y x ys (lt_yes y x e) r.0, ih)
    by_test false e ih = ((lt_no y x e, all-most x y ys (lt_no y x e) r.0), r)

order-rises : (xs : List ℕ) → Rises (in_order xs)
order-rises [] = tt
order-rises (x ∷ xs) = placed-rises x (in_order xs) (order-rises xs)

placed-times : (k x : ℕ) (ys : List ℕ) → times k (placed x ys) ≡ times k (x ∷ ys)
placed-times k x [] = refl
placed-times k x (y ∷ ys) = by_test (nat_lt y x) (placed-times k x ys)
  where
    by_test : (c : Bool) → times k (placed x ys) ≡ times k (x ∷ ys) → times k (cond c (y ∷ placed x ys) (x ∷ y ∷ ys)) ≡ times k (x ∷ y ∷ ys)
    by_test true ih = omega (arith, ih)
    by_test false ih = refl

order-times : (k : ℕ) (xs : List ℕ) → times k (in_order xs) ≡ times k xs
order-times k [] = refl
order-times k (x ∷ xs) = omega (arith, placed-times k x (in_order xs), order-times k xs)

-- a number that is met is at least what all are
met-most : (x y : ℕ) (ys : List ℕ) → AllByRecursion (λ z. y ≤ z) ys → 1 ≤ times x ys → y ≤ x
met-most x y [] a i = absurd (omega (arith, i))
met-most x y (z ∷ zs) a i = by_test (z == x) refl (λ j. met-most x y zs a.1 j)
  where
    eq_yes : (a b : ℕ) → (a == b) ≡ true → a ≡ b
    eq_yes a b e = grind (arith, e)

    by_test : (c : Bool) → (z == x) ≡ c → (1 ≤ times x zs → y ≤ x) → y ≤ x
    by_test true e ih = subst (λ w. y ≤ w) (eq_yes z x e) a.0
    by_test false e ih = let n : times x (z ∷ zs) ≡ 0 + times x zs = ap (λ c. cond c 1 0 + times x zs) e in ih (omega (arith, i, n))

-- the first is the least, and so lists that rise and have the same numbers are the same
same-list : (xs ys : List ℕ) → Rises xs → Rises ys → ((k : ℕ) → times k xs ≡ times k ys) → xs ≡ ys
same-list [] [] r s t = refl
same-list [] (y ∷ ys) r s t = absurd (omega (arith, t y, self y ys))
same-list (x ∷ xs) [] r s t = absurd (omega (arith, t x, self x xs))
same-list (x ∷ xs) (y ∷ ys) r s t =
    let a : y ≤ x = met-most x y (y ∷ ys) (omega arith, s.0) (omega (arith, t x, self x xs)) in
    let b : x ≤ y = met-most y x (x ∷ xs) (omega arith, r.0) (omega (arith, t y, self y ys)) in
    let e : x ≡ y = omega (arith, a, b) in
    let rest : (k : ℕ) → times k xs ≡ times k ys = λ k. let n : times k (x ∷ []) ≡ times k (y ∷ []) = ap (λ z. times k (z ∷ [])) e in omega (arith, t k, n) in
    ap (λ z. z ∷ xs) e ∙ ap (λ z. y ∷ z) (same-list xs ys r.1 s.1 rest)

pub sum-times : (k : ℕ) (xs : List ℕ) → sum_by (λ x. cond (x == k) 1 0) xs ≡ times k xs
sum-times k [] = refl
sum-times k (x ∷ xs) = sum_by-cons (λ x. cond (x == k) 1 0) x xs ∙ ap (λ n. cond (x == k) 1 0 + n) (sum-times k xs)

all-by : (y : ℕ) (ys : List ℕ) → ((j : ℕ) → j < length ys → y ≤ get_or ys j 0) → AllByRecursion (λ z. y ≤ z) ys
all-by y [] h = tt
all-by y (z ∷ zs) h = (h 0 (omega arith), all-by y zs (λ j l. h (suc j) (omega (arith, l))))

rises-by : (ys : List ℕ) → ((i j : ℕ) → i ≤ j → j < length ys → get_or ys i 0 ≤ get_or ys j 0) → Rises ys
rises-by [] h = tt
rises-by (y ∷ ys) h = (all-by y ys (λ j l. h 0 (suc j) (omega arith) (omega (arith, l))), rises-by ys (λ i j m l. h (suc i) (suc j) (omega (arith, m)) (omega (arith, l))))

pub sorted-is : (xs ys : List ℕ) → IsPermutation xs ys → IsNonDecreasing ys → ys ≡ in_order xs
sorted-is xs ys p s =
    same-list ys (in_order xs) (rises-by ys (λ i j m l. s i j 0 m l)) (order-rises xs)
    (λ k. sym (sum-times k ys) ∙ sum_by-IsPermutation (λ x. cond (x == k) 1 0) xs ys p ∙ sum-times k xs ∙ sym (order-times k xs))
