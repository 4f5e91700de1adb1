-- A map from numbers below a bound has at most so many entries.
use Rattle.std.proofs.Common.{◌≡◌, ◌≢◌, ◌≤◌, ◌<◌, ◌-◌, ℕ, zero, suc, Option, Some, None, Bool, true, false, cond, refl, sym, ap, ◌∙◌, arith}
use Rattle.std.specs.Option.{is_some}
use Rattle.std.specs.Ordering.{nat_cmp, eq_by_cmp}
use Rattle.std.specs.Cmp.{nat_cmp_total}
use Rattle.std.specs.FinMap.{FinMap, get, remove, len, empty, get-remove, len-remove, len-empty, get-empty, same_map, nat_cmp-IsAntisymmetric}

-- the keys are below the bound
abbrev pub AreBelow : {X : Type 0} → ℕ → FinMap nat_cmp X → Type 0
AreBelow {X} b m = (k : ℕ) (x : X) → get m k ≡ Some x → k < b

tied : (q k : ℕ) → eq_by_cmp nat_cmp q k ≡ true → q ≡ k
tied q k e = grind (arith, e)

apart : (q k : ℕ) → eq_by_cmp nat_cmp q k ≡ false → q ≢ k
apart q k e = grind (arith, e)

none_of : {X : Type 0} (m : FinMap nat_cmp X) → AreBelow 0 m → (q : ℕ) (o : Option X) → get m q ≡ o → get m q ≡ None
none_of m below q None e = e
none_of m below q (Some x) e = absurd (let bad : q < 0 = below q x e in omega (arith, bad))

is_empty : {X : Type 0} (m : FinMap nat_cmp X) → AreBelow 0 m → m ≡ empty
is_empty m below = same_map nat_cmp_total nat_cmp-IsAntisymmetric m empty (λ q. none_of m below q (get m q) refl ∙ sym (get-empty nat_cmp q))

without_last : {X : Type 0} (b : ℕ) (m : FinMap nat_cmp X) → AreBelow (suc b) m → AreBelow b (remove m b)
without_last {X} b m below k x e = by_test (eq_by_cmp nat_cmp k b) refl (sym (get-remove nat_cmp_total m b k) ∙ e)
  where
    by_test : (t : Bool) → eq_by_cmp nat_cmp k b ≡ t → cond t None (get m k) ≡ Some x → k < b
    by_test true same is = absurd (let bad : None ≡ Some x = is in cc)
    by_test false other is = let low : k < suc b = below k x is in let far : k ≢ b = apart k b other in grind (arith, low, far)

one_less : (t : Bool) (few n b : ℕ) → few ≡ cond t (n - 1) n → few ≤ b → n ≤ suc b
one_less true few n b e h = omega (arith, e, h)
one_less false few n b e h = omega (arith, e, h)

pub few_below : {X : Type 0} (b : ℕ) (m : FinMap nat_cmp X) → AreBelow b m → len m ≤ b
few_below {X} zero m below = let none : len m ≡ 0 = ap len (is_empty m below) ∙ len-empty nat_cmp X in omega (arith, none)
few_below {X} (suc b) m below = one_less (is_some (get m b)) (len (remove m b)) (len m) b (len-remove nat_cmp_total m b) (few_below b (remove m b) (without_last b m below))
