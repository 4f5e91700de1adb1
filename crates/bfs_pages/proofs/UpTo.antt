-- What holds of all numbers below one.
use Rattle.std.proofs.Common.{◌≡◌, ◌<◌, ◌+◌, ℕ, Bool, true, false, ◌==◌, refl, sym, subst, arith}

-- it holds of one more
pub up_to_next : (P : ℕ → Type 0) (i : ℕ) → ((j : ℕ) → j < i → P j) → P i → (j : ℕ) → j < i + 1 → P j
up_to_next P i before at j h = by_test (j == i) refl
  where
    eq_yes : (a b : ℕ) → (a == b) ≡ true → a ≡ b
    eq_yes a b e = grind (arith, e)

    by_test : (c : Bool) → (j == i) ≡ c → P j
    by_test true e = subst P (sym (eq_yes j i e)) at
    by_test false e = before j (grind (arith, e, h))
