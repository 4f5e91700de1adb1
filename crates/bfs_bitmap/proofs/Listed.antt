-- The blocks of the bitmap that have a bit of a run.
use Rattle.std.proofs.Common.{◌≡◌, ◌≤◌, ◌<◌, ◌+◌, ◌-◌, ◌*◌, ◌/◌, ℕ, zero, suc, List, length, Bool, true, false, cond, ◌&&◌, ◌==◌, nat_le, nat_lt, refl, sym, ap, ◌∙◌, subst, arith, ◌⊎◌, inl, inr}
use Rattle.std.proofs.Math.Nat.{div-zero, le-div_iff_mul-le, div-lt_iff_lt-mul, lt-div-mul-add, div-eq_of_eq-mul_left}
use Rattle.bfs_base.specs.Lists.{times, Has, counted_from}
use Rattle.bfs_bitmap.specs.Bits.{in_run}
use Rattle.bfs_bitmap.specs.Fills.{HasBitOf, bits_of}
use Rattle.bfs_bitmap.specs.Runs.{Room, per_block}

joined : (k first n : ℕ) → cond (first == k) 1 0 + cond (nat_le (suc first) k && nat_lt k (suc first + n)) 1 0 ≡ cond (nat_le first k && nat_lt k (first + suc n)) 1 0
joined k first n = grind arith

times_counted : (k first n : ℕ) → times k (counted_from first n) ≡ cond (in_run first n k) 1 0
times_counted k first zero = let none : (nat_le first k && nat_lt k (first + 0)) ≡ false = grind arith in ap (λ (b : Bool). cond b 1 0) (sym none)
times_counted k first (suc n) = ap (λ (m : ℕ). cond (first == k) 1 0 + m) (times_counted k (suc first) n) ∙ joined k first n

length_counted : (first n : ℕ) → length (counted_from first n) ≡ n
length_counted first zero = refl
length_counted first (suc n) = ap suc (length_counted (suc first) n)

in_counted : (first n k : ℕ) → first ≤ k → k < first + n → Has (counted_from first n) k
in_counted first n k a b = let test : in_run first n k ≡ true = grind (arith, a, b) in let e : times k (counted_from first n) ≡ 1 = times_counted k first n ∙ ap (λ (t : Bool). cond t 1 0) test in omega (arith, e)

of_counted : (first n k : ℕ) → Has (counted_from first n) k → (first ≤ k) × (k < first + n)
of_counted first n k h = by_test (in_run first n k) refl
  where
    by_test : (t : Bool) → in_run first n k ≡ t → (first ≤ k) × (k < first + n)
    by_test true e = (grind (arith, e), grind (arith, e))
    by_test false e = let none : times k (counted_from first n) ≡ 0 = times_counted k first n ∙ ap (λ (t : Bool). cond t 1 0) e in absurd (omega (arith, none, h))

div_le : (b x y : ℕ) → x ≤ y → x / b ≤ y / b
div_le zero x y h = let e : x / 0 ≡ 0 = div-zero x in omega (arith, e)
div_le (suc b) x y h = (le-div_iff_mul-le {k = suc b} {x = x / suc b} {y = y} (omega arith)).1 (let down : x / suc b * suc b ≤ x = (le-div_iff_mul-le {k = suc b} {x = x / suc b} {y = x} (omega arith)).0 (omega arith) in omega (arith, down, h))

-- the bits of a run of some blocks
some_bits : (v : Room) (first len : ℕ) → 0 < len → bits_of v first len ≡ counted_from (1 + first / per_block v) ((first + len - 1) / per_block v - first / per_block v + 1)
some_bits v first len h = let test : (len == 0) ≡ false = grind (arith, h) in ap (λ (t : Bool). counted_from (1 + first / per_block v) (cond t 0 ((first + len - 1) / per_block v - first / per_block v + 1))) test

no_bits : (v : Room) (first len : ℕ) → len ≡ 0 → bits_of v first len ≡ counted_from (1 + first / per_block v) 0
no_bits v first len h = let test : (len == 0) ≡ true = grind (arith, h) in ap (λ (t : Bool). counted_from (1 + first / per_block v) (cond t 0 ((first + len - 1) / per_block v - first / per_block v + 1))) test

pub has_bits : (v : Room) (first len k : ℕ) → HasBitOf v first len k → Has (bits_of v first len) k
has_bits v first len k h =
    let low : first / per_block v ≤ h.0 / per_block v = div_le (per_block v) first h.0 h.1 in
    let after = h.1 in
    let before = h.2 in
    let place = h.3 in
    let high : h.0 / per_block v ≤ (first + len - 1) / per_block v = div_le (per_block v) h.0 (first + len - 1) (omega (arith, before)) in
    subst (λ (l : List ℕ). Has l k) (sym (some_bits v first len (omega (arith, after, before))))
    (in_counted (1 + first / per_block v) ((first + len - 1) / per_block v - first / per_block v + 1) k (omega (arith, low, place)) (omega (arith, low, high, place)))

split : (j n : ℕ) → (j ≤ n) ⊎ (n < j)
split j n = grind arith

some_or_none : (n : ℕ) → (0 < n) ⊎ (n ≡ 0)
some_or_none n = grind arith

pub only_bits : (v : Room) (first len k : ℕ) → Has (bits_of v first len) k → HasBitOf v first len k
only_bits v first len k has = by_length (some_or_none len)
  where
    by_size : 0 < len → (q : ℕ) → k ≡ 1 + q → first / per_block v ≤ q → q ≤ (first + len - 1) / per_block v → (q ≤ first / per_block v) ⊎ (first / per_block v < q) → (0 < per_block v) ⊎ (per_block v ≡ 0) → HasBitOf v first len k
    by_size some q e low high (inl le) b = (first, omega arith, omega (arith, some), omega (arith, e, low, le))
    by_size some q e low high (inr less) (inl b) =
        let up : q * per_block v ≤ first + len - 1 = (le-div_iff_mul-le {k = per_block v} {x = q} {y = first + len - 1} b).0 high in
        let down : first < q * per_block v = (div-lt_iff_lt-mul {k = per_block v} {x = first} {y = q} b).0 less in
        let place : q * per_block v / per_block v ≡ q = div-eq_of_eq-mul_left b refl in
        (q * per_block v, omega (arith, down), omega (arith, up, some), omega (arith, e, place))
    by_size some q e low high (inr less) (inr none) =
        let up : (first + len - 1) / per_block v ≡ 0 = ap (λ (n : ℕ). (first + len - 1) / n) none ∙ div-zero (first + len - 1) in
        absurd (omega (arith, up, high, less))

    by_length : (0 < len) ⊎ (len ≡ 0) → HasBitOf v first len k
    by_length (inl some) =
        let at : (1 + first / per_block v ≤ k) × (k < 1 + first / per_block v + ((first + len - 1) / per_block v - first / per_block v + 1)) =
        of_counted (1 + first / per_block v) ((first + len - 1) / per_block v - first / per_block v + 1) k (subst (λ (l : List ℕ). Has l k) (some_bits v first len some) has) in
        let low = at.0 in
        let high = at.1 in
        let order : first / per_block v ≤ (first + len - 1) / per_block v = div_le (per_block v) first (first + len - 1) (omega (arith, some)) in
        by_size some (k - 1) (omega (arith, low)) (omega (arith, low)) (omega (arith, low, high, order)) (split (k - 1) (first / per_block v)) (some_or_none (per_block v))
    by_length (inr none) =
        let at : (1 + first / per_block v ≤ k) × (k < 1 + first / per_block v + 0) = of_counted (1 + first / per_block v) 0 k (subst (λ (l : List ℕ). Has l k) (no_bits v first len none) has) in
        let low = at.0 in
        let high = at.1 in
        absurd (omega (arith, low, high))

-- the last block's place is at most so far behind the first one's
spread : (b first len : ℕ) → (first + len - 1) / b ≤ first / b + len / b + 1
spread b first len = by_size (some_or_none b)
  where
    by_size : (0 < b) ⊎ (b ≡ 0) → (first + len - 1) / b ≤ first / b + len / b + 1
    by_size (inl some) =
        let one : first < first / b * b + b = lt-div-mul-add some in
        let two : len < len / b * b + b = lt-div-mul-add some in
        let sum : (first / b + len / b + 2) * b ≡ first / b * b + len / b * b + 2 * b = grind arith in
        let below : (first + len - 1) / b < first / b + len / b + 2 = (div-lt_iff_lt-mul {k = b} {x = first + len - 1} {y = first / b + len / b + 2} some).1 (omega (arith, one, two, sum)) in
        omega (arith, below)
    by_size (inr none) = let e : (first + len - 1) / b ≡ 0 = ap (λ (n : ℕ). (first + len - 1) / n) none ∙ div-zero (first + len - 1) in omega (arith, e)

pub few_bits : (v : Room) (first len : ℕ) → length (bits_of v first len) ≤ len / per_block v + 2
few_bits v first len = by_length (some_or_none len)
  where
    by_length : (0 < len) ⊎ (len ≡ 0) → length (bits_of v first len) ≤ len / per_block v + 2
    by_length (inl some) =
        let e : length (bits_of v first len) ≡ (first + len - 1) / per_block v - first / per_block v + 1 = ap length (some_bits v first len some) ∙ length_counted (1 + first / per_block v) ((first + len - 1) / per_block v - first / per_block v + 1) in
        let far : (first + len - 1) / per_block v ≤ first / per_block v + len / per_block v + 1 = spread (per_block v) first len in
        omega (arith, e, far)
    by_length (inr none) =
        let e : length (bits_of v first len) ≡ 0 = ap length (no_bits v first len none) ∙ length_counted (1 + first / per_block v) 0 in
        omega (arith, e)
