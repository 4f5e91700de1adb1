-- Numbers that ascend and stand in a list.
use Rattle.std.proofs.Common.{◌≡◌, ◌≢◌, ◌≤◌, ◌<◌, ◌+◌, ◌==◌, ℕ, zero, suc, List, [], ◌∷◌, length, Bool, true, false, cond, refl, sym, ap, ◌∙◌, subst, arith}
use Rattle.bfs_base.specs.Lists.{times, Has}
use Rattle.bfs_txn.specs.Changed.{Ascends, number_at}

-- the list without the number once
abbrev without : ℕ → List ℕ → List ℕ
without k [] = []
without k (x ∷ xs) = cond (x == k) xs (x ∷ without k xs)

length-without : (k : ℕ) (xs : List ℕ) → Has xs k → length (without k xs) + 1 ≡ length xs
length-without k [] has = absurd (omega (arith, has))
length-without k (x ∷ xs) has = by_test (x == k) (length-without k xs) has
  where
    by_test : (t : Bool) → (Has xs k → length (without k xs) + 1 ≡ length xs) → 0 < cond t 1 0 + times k xs → length (cond t xs (x ∷ without k xs)) + 1 ≡ suc (length xs)
    by_test true rest has = omega arith
    by_test false rest has = let e = rest (omega (arith, has)) in omega (arith, e)

times-without : (j k : ℕ) (xs : List ℕ) → j ≢ k → times j (without k xs) ≡ times j xs
times-without j k [] ne = refl
times-without j k (x ∷ xs) ne = by_test (x == k) refl (times-without j k xs ne)
  where
    by_test : (t : Bool) → (x == k) ≡ t → times j (without k xs) ≡ times j xs → times j (cond t xs (x ∷ without k xs)) ≡ cond (x == j) 1 0 + times j xs
    by_test true e rest =
        let other : (x == j) ≡ false = grind (arith, e, ne) in
        sym (ap (λ (b : Bool). cond b 1 0 + times j xs) other ∙ omega arith)
    by_test false e rest = ap (λ (n : ℕ). cond (x == j) 1 0 + n) rest

pub few : (ps : List (ℕ × List ℕ)) (xs : List ℕ) → Ascends ps → ((i : ℕ) → i < length ps → Has xs (number_at ps i)) → length ps ≤ length xs
few [] xs asc has = omega arith
few (p ∷ ps) xs asc has =
    let here : Has xs p.0 = has zero (omega arith) in
    let rest : length ps ≤ length (without p.0 xs) =
    few ps (without p.0 xs) (λ i j a b. asc (suc i) (suc j) (omega arith) (omega arith))
    (λ i h.
    let later : p.0 < number_at ps i = asc zero (suc i) (omega arith) (omega arith) in
    let there : Has xs (number_at ps i) = has (suc i) (omega arith) in
    subst (λ (n : ℕ). 0 < n) (sym (times-without (number_at ps i) p.0 xs (λ e. omega (arith, later, e)))) there) in
    let long = length-without p.0 xs here in
    omega (arith, rest, long)
