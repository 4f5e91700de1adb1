-- The bytes before the first zero.
use Rattle.std.proofs.Common.{◌≡◌, ◌≤◌, ◌<◌, ℕ, List, length, take, get_or, ◌==◌, sym, ◌∙◌, ap, arith}
use Rattle.std.specs.List.{position_or_len, before_first}
use Rattle.std.proofs.lemmas.List.{length-take-le}
use Rattle.std.proofs.lemmas.List.Sums.{position_or_len_is}

pub before_zero : (xs : List ℕ) (i : ℕ) → i ≤ length xs → ((k : ℕ) → k < i → get_or xs k 0 ≡ 0 → ⊥) → (i < length xs → get_or xs i 0 ≡ 0) → i ≡ length (before_first (λ b. b == 0) xs)
before_zero xs i inside none here =
    let at : position_or_len (λ b. b == 0) xs ≡ i = position_or_len_is (λ b. b == 0) xs i 0 inside (λ k lt. let ne = none k lt in grind (arith, ne)) (λ lt. let e = here lt in grind (arith, e)) in
    sym (ap (λ (n : ℕ). length (take n xs)) at ∙ length-take-le i xs inside)
