-- Right links that come to an end do so within the stream's pages.
use Rattle.std.proofs.Common.{◌≡◌, ◌≢◌, ◌≤◌, ◌<◌, ◌+◌, ◌*◌, ◌%◌, ℕ, zero, suc, List, [], ◌∷◌, length, Bool, true, false, cond, ◌==◌, nat_le, refl, ap, sym, ◌∙◌, subst, arith}
use Rattle.bfs_base.specs.Lists.{times}
use Rattle.bfs_pages.specs.Answers.{IsChild}
use Rattle.bfs_pages.specs.Trees.{held}
use Rattle.bfs_pages.proofs.Placed.{held_most, held_more, place_held}
use Rattle.bfs_pages.proofs.Splice.{self}
use Rattle.bfs_values.specs.Values.{next_of, EndsAfter}

eq_yes : (a b : ℕ) → (a == b) ≡ true → a ≡ b
eq_yes a b e = grind (arith, e)

eq_no : (a b : ℕ) → (a == b) ≡ false → a ≢ b
eq_no a b e = λ s. grind (arith, e, s)

others : (x y : ℕ) (ys : List ℕ) → (x == y) ≡ false → times y (x ∷ ys) ≡ times y ys
others x y ys e = let c : times y (x ∷ ys) ≡ 0 + times y ys = ap (λ c. cond c 1 0 + times y ys) e in omega (arith, c)

-- a list without a number
abbrev drops : ℕ → List ℕ → List ℕ
drops y [] = []
drops y (x ∷ xs) = cond (x == y) (drops y xs) (x ∷ drops y xs)

drops-length : (y : ℕ) (xs : List ℕ) → length xs ≡ length (drops y xs) + times y xs
drops-length y [] = refl
drops-length y (x ∷ xs) = by_test (x == y) (drops-length y xs)
  where
    by_test : (c : Bool) → length xs ≡ length (drops y xs) + times y xs → suc (length xs) ≡ length (cond c (drops y xs) (x ∷ drops y xs)) + (cond c 1 0 + times y xs)
    by_test true ih = omega (arith, ih)
    by_test false ih = omega (arith, ih)

drops-times : (y x : ℕ) (xs : List ℕ) → times x (drops y xs) ≤ times x xs
drops-times y x [] = omega arith
drops-times y x (z ∷ zs) = by_test (z == y) (drops-times y x zs)
  where
    by_test : (c : Bool) → times x (drops y zs) ≤ times x zs → times x (cond c (drops y zs) (z ∷ drops y zs)) ≤ times x (z ∷ zs)
    by_test true ih = omega (arith, ih)
    by_test false ih = omega (arith, ih)

drops-gone : (y : ℕ) (xs : List ℕ) → times y (drops y xs) ≡ 0
drops-gone y [] = refl
drops-gone y (x ∷ xs) = by_test (x == y) refl (drops-gone y xs)
  where
    by_test : (c : Bool) → (x == y) ≡ c → times y (drops y xs) ≡ 0 → times y (cond c (drops y xs) (x ∷ drops y xs)) ≡ 0
    by_test true e ih = ih
    by_test false e ih = others x y (drops y xs) e ∙ ih

held-none : (x : ℕ) → held 0 x ≡ 0
unfolding held
held-none x = grind arith

-- So many pages begin in a stream: a list of places that has none twice is no longer.
pub few : (n : ℕ) (xs : List ℕ) → ((x : ℕ) → times x xs ≤ held (1024 * n) x) → length xs ≤ n
few zero [] h = omega arith
few zero (x ∷ xs) h = let m : times x (x ∷ xs) ≤ held 0 x = h x in absurd (omega (arith, m, held-none x, self x xs))
few (suc n) xs h =
    let ih = few n (drops (1024 * n) xs) (λ x. by_test x (x == 1024 * n) refl) in
    let e : 1024 * suc n ≡ 1024 * n + 1024 = omega arith in
    let m : times (1024 * n) xs ≤ 1 = omega (arith, h (1024 * n), held_most (1024 * suc n) (1024 * n)) in
    omega (arith, ih, drops-length (1024 * n) xs, m)
  where
    whole : (n : ℕ) → 1024 * n % 1024 ≡ 0
    whole n = omega arith

    more : (x : ℕ) → held (1024 * suc n) x ≡ held (1024 * n) x + times x (1024 * n ∷ [])
    more x = let e : 1024 * suc n ≡ 1024 * n + 1024 = omega arith in ap (λ m. held m x) e ∙ held_more (1024 * n) x (whole n)

    off : (a b : ℕ) → (a == b) ≡ false → times a (b ∷ []) ≡ 0
    off a b e = grind (arith, e)

    by_test : (x : ℕ) → (c : Bool) → (x == 1024 * n) ≡ c → times x (drops (1024 * n) xs) ≤ held (1024 * n) x
    by_test x true e =
        let z : times x (drops (1024 * n) xs) ≡ 0 = ap (λ y. times y (drops (1024 * n) xs)) (eq_yes x (1024 * n) e) ∙ drops-gone (1024 * n) xs in
        omega (arith, z)
    by_test x false e = omega (arith, drops-times (1024 * n) x xs, h x, more x, off x (1024 * n) e)

-- the pages from one on
abbrev chain : List ℕ → ℕ → ℕ → List ℕ
chain b zero x = x ∷ []
chain b (suc n) x = x ∷ chain b n (next_of b x)

chain-length : (b : List ℕ) (n x : ℕ) → length (chain b n x) ≡ suc n
chain-length b zero x = refl
chain-length b (suc n) x = ap suc (chain-length b n (next_of b x))

-- the end is told by the first page
same-end : (b : List ℕ) (n m x : ℕ) → EndsAfter b n x → EndsAfter b m x → n ≡ m
same-end b zero zero x e f = refl
same-end b zero (suc m) x e f = absurd (omega (arith, e, f.0.0))
same-end b (suc n) zero x e f = absurd (omega (arith, e.0.0, f))
same-end b (suc n) (suc m) x e f = ap suc (same-end b n m (next_of b x) e.1 f.1)

met-end : (b : List ℕ) (n x y : ℕ) → EndsAfter b n x → 1 ≤ times y (chain b n x) → (m : ℕ) × (m ≤ n) × EndsAfter b m y
met-end b zero x y e i = by_test (x == y) refl
  where
    by_test : (c : Bool) → (x == y) ≡ c → (m : ℕ) × (m ≤ zero) × EndsAfter b m y
    by_test true s = (zero, omega arith, subst (λ z. EndsAfter b zero z) (eq_yes x y s) e)
    by_test false s = absurd (omega (arith, i, others x y [] s))
met-end b (suc n) x y e i = by_test (x == y) refl (λ i. met-end b n (next_of b x) y e.1 i)
  where
    by_test : (c : Bool) → (x == y) ≡ c → (1 ≤ times y (chain b n (next_of b x)) → (m : ℕ) × (m ≤ n) × EndsAfter b m y) → (m : ℕ) × (m ≤ suc n) × EndsAfter b m y
    by_test true s ih = (suc n, omega arith, subst (λ z. EndsAfter b (suc n) z) (eq_yes x y s) e)
    by_test false s ih = let r = ih (omega (arith, i, others x y (chain b n (next_of b x)) s)) in (r.0, omega (arith, r.1), r.2)

-- so no page is met twice
chain-once : (b : List ℕ) (n x y : ℕ) → EndsAfter b n x → times y (chain b n x) ≤ 1
chain-once b zero x y e = by_test (x == y)
  where
    by_test : (c : Bool) → cond c 1 0 + 0 ≤ 1
    by_test true = omega arith
    by_test false = omega arith
chain-once b (suc n) x y e = by_test (x == y) refl (chain-once b n (next_of b x) y e.1)
  where
    away : times x (chain b n (next_of b x)) ≤ 0
    away = by_count (nat_le 1 (times x (chain b n (next_of b x)))) refl
      where
        le_yes : (a : ℕ) → nat_le 1 a ≡ true → 1 ≤ a
        le_yes a e = grind (arith, e)

        le_no : (a : ℕ) → nat_le 1 a ≡ false → a ≤ 0
        le_no a e = grind (arith, e)

        by_count : (c : Bool) → nat_le 1 (times x (chain b n (next_of b x))) ≡ c → times x (chain b n (next_of b x)) ≤ 0
        by_count true s =
            let r = met-end b n (next_of b x) x e.1 (le_yes (times x (chain b n (next_of b x))) s) in
            absurd (omega (arith, same-end b r.0 (suc n) x r.2 e, r.1))
        by_count false s = le_no (times x (chain b n (next_of b x))) s

    by_test : (c : Bool) → (x == y) ≡ c → times y (chain b n (next_of b x)) ≤ 1 → cond c 1 0 + times y (chain b n (next_of b x)) ≤ 1
    by_test true s ih = let z : times y (chain b n (next_of b x)) ≤ 0 = subst (λ w. times w (chain b n (next_of b x)) ≤ 0) (eq_yes x y s) away in omega (arith, z)
    by_test false s ih = omega (arith, ih)

chain-place : (b : List ℕ) (n x y : ℕ) → IsChild (length b) x → EndsAfter b n x → 1 ≤ times y (chain b n x) → IsChild (length b) y
chain-place b zero x y p e i = by_test (x == y) refl
  where
    by_test : (c : Bool) → (x == y) ≡ c → IsChild (length b) y
    by_test true s = subst (λ z. IsChild (length b) z) (eq_yes x y s) p
    by_test false s = absurd (omega (arith, i, others x y [] s))
chain-place b (suc n) x y p e i = by_test (x == y) refl (λ i. chain-place b n (next_of b x) y e.0 e.1 i)
  where
    by_test : (c : Bool) → (x == y) ≡ c → (1 ≤ times y (chain b n (next_of b x)) → IsChild (length b) y) → IsChild (length b) y
    by_test true s ih = subst (λ z. IsChild (length b) z) (eq_yes x y s) p
    by_test false s ih = ih (omega (arith, i, others x y (chain b n (next_of b x)) s))

-- links that come to an end do so within the pages of the stream
pub ends-soon : (b : List ℕ) (pages n x : ℕ) → length b ≡ 1024 * pages → IsChild (length b) x → EndsAfter b n x → n < pages
ends-soon b pages n x l p e = omega (arith, few pages (chain b n x) at_most_once, chain-length b n x)
  where
    le_yes : (a : ℕ) → nat_le 1 a ≡ true → 1 ≤ a
    le_yes a e = grind (arith, e)

    le_no : (a : ℕ) → nat_le 1 a ≡ false → a ≤ 0
    le_no a e = grind (arith, e)

    by_count : (y : ℕ) → (c : Bool) → nat_le 1 (times y (chain b n x)) ≡ c → times y (chain b n x) ≤ held (1024 * pages) y
    by_count y true s =
        let q = chain-place b n x y p e (le_yes (times y (chain b n x)) s) in
        let h : held (1024 * pages) y ≡ 1 = ap (λ m. held m y) (sym l) ∙ place_held (length b) y q.1 in
        omega (arith, h, chain-once b n x y e)
    by_count y false s = omega (arith, le_no (times y (chain b n x)) s)

    at_most_once : (y : ℕ) → times y (chain b n x) ≤ held (1024 * pages) y
    at_most_once y = by_count y (nat_le 1 (times y (chain b n x))) refl
