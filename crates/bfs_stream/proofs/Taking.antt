-- Numbers that are counted, and tests on them.
use Rattle.std.proofs.Common.{◌≡◌, ◌≤◌, ◌<◌, ◌+◌, ◌∙◌, ◌⊎◌, inl, inr, ℕ, zero, suc, List, Bool, true, false, cond, ◌&&◌, Option, Some, refl, ap, subst, arith}
use Rattle.std.specs.Prelude.{◌==◌, nat_lt, nat_le}
use Rattle.bfs_base.specs.Lists.{counted_from, times, Has, IsOnce}
use Rattle.bfs_bitmap.specs.Fills.{IsTold}

-- a number that isn't among those counted
pub not_counted : (first n k : ℕ) → (k < first) ⊎ (first + n ≤ k) → times k (counted_from first n) ≡ 0
not_counted first zero k out = refl
not_counted first (suc n) k out = by_side out (not_counted (suc first) n k (later out))
  where
    later : (k < first) ⊎ (first + suc n ≤ k) → (k < suc first) ⊎ (suc first + n ≤ k)
    later (inl low) = inl (omega arith)
    later (inr high) = inr (omega arith)

    apart : (k < first) ⊎ (first + suc n ≤ k) → (first == k) ≡ false
    apart (inl low) = grind (arith, low)
    apart (inr high) = grind (arith, high)

    by_side : (k < first) ⊎ (first + suc n ≤ k) → times k (counted_from (suc first) n) ≡ 0 → cond (first == k) 1 0 + times k (counted_from (suc first) n) ≡ 0
    by_side side rest = ap (λ (b : Bool). cond b 1 0 + times k (counted_from (suc first) n)) (apart side) ∙ (let z : 0 + times k (counted_from (suc first) n) ≡ 0 = omega (arith, rest) in z)

pub once_counted : (first n : ℕ) → IsOnce (counted_from first n)
once_counted first zero k = omega arith
once_counted first (suc n) k = by_test (first == k) refl (once_counted (suc first) n k) (λ low. not_counted (suc first) n k (inl low))
  where
    by_test : (b : Bool) → (first == k) ≡ b → times k (counted_from (suc first) n) ≤ 1 → (k < suc first → times k (counted_from (suc first) n) ≡ 0) → cond b 1 0 + times k (counted_from (suc first) n) ≤ 1
    by_test true e rest none = let here : k < suc first = grind (arith, e) in let z = none here in omega (arith, z)
    by_test false e rest none = omega (arith, rest)

pub where_is : (first n k : ℕ) → ((first ≤ k) × (k < first + n)) ⊎ ((k < first) ⊎ (first + n ≤ k))
where_is first n k = by_low (nat_le first k) refl
  where
    by_high : (b : Bool) → nat_lt k (first + n) ≡ b → first ≤ k → ((first ≤ k) × (k < first + n)) ⊎ ((k < first) ⊎ (first + n ≤ k))
    by_high true e low = inl (low, grind (arith, e))
    by_high false e low = inr (inr (grind (arith, e)))

    by_low : (b : Bool) → nat_le first k ≡ b → ((first ≤ k) × (k < first + n)) ⊎ ((k < first) ⊎ (first + n ≤ k))
    by_low true e = by_high (nat_lt k (first + n)) refl (grind (arith, e))
    by_low false e = inr (inl (grind (arith, e)))

pub counted_in : (first n k : ℕ) → Has (counted_from first n) k → (first ≤ k) × (k < first + n)
counted_in first n k has = by_place (where_is first n k)
  where
    by_place : ((first ≤ k) × (k < first + n)) ⊎ ((k < first) ⊎ (first + n ≤ k)) → (first ≤ k) × (k < first + n)
    by_place (inl h) = h
    by_place (inr out) = let none = not_counted first n k out in let some : 0 < times k (counted_from first n) = has in absurd (omega (arith, none, some))

pub and_false : (b : Bool) → (b && false) ≡ false
and_false true = refl
and_false false = refl

pub zero_test : (n : ℕ) → n ≡ 0 → (n == 0) ≡ true
zero_test n e = grind (arith, e)

pub some_test : (n : ℕ) → 0 < n → (n == 0) ≡ false
some_test n e = grind (arith, e)

-- what is said of some told map is said of this one
pub of_told : (P : (ℕ → Option (List ℕ)) → Type 0) (map : ℕ → Option (List ℕ)) (told : Option (ℕ → Option (List ℕ))) → told ≡ Some map → IsTold P told → P map
of_told P map told is all = subst P (same all.0 map told all.1 is) all.2
  where
    same : (a b : ℕ → Option (List ℕ)) (t : Option (ℕ → Option (List ℕ))) → t ≡ Some a → t ≡ Some b → a ≡ b
    same a b t e f = cc
