-- The blocks of a piece, one after the other.
use Rattle.std.proofs.Common.{◌≡◌, ◌≤◌, ◌<◌, ◌+◌, ◌-◌, ◌*◌, ◌/◌, ◌%◌, ◌∙◌, ℕ, zero, suc, List, [], ◌∷◌, ◌++◌, take, drop, Bool, true, false, cond, Some, None, slice_get, refl, sym, ap, subst, arith}
use Rattle.std.specs.Prelude.{◌==◌}
use Rattle.std.proofs.Math.Nat.{div-add-mod, div-lt_iff_lt-mul, mod-lt}
use Rattle.bfs_super.specs.Conditions.{ceil}
use Rattle.bfs_hold.specs.Places.{piece_blocks}

take_next : (xs : List ℕ) (i x : ℕ) → slice_get xs i ≡ Some x → take (suc i) xs ≡ take i xs ++ x ∷ []
take_next [] i x e = let bad : None ≡ Some x = e in absurd cc
take_next (y ∷ xs) zero x e = let f : Some y ≡ Some x = e in let g : y ≡ x = cc in ap (λ (z : ℕ). z ∷ []) g
take_next (y ∷ xs) (suc i) x e = ap (λ (l : List ℕ). y ∷ l) (take_next xs i x e)

drop_get : (xs : List ℕ) (n i : ℕ) → slice_get (drop n xs) i ≡ slice_get xs (n + i)
drop_get xs zero i = let e : 0 + i ≡ i = omega arith in ap (slice_get xs) (sym e)
drop_get [] (suc n) i = refl
drop_get (x ∷ xs) (suc n) i = let e : suc n + i ≡ suc (n + i) = omega arith in drop_get xs n i ∙ ap (slice_get (x ∷ xs)) (sym e)

-- one more of the blocks from a place on
pub one_more : (xs items next : List ℕ) (first k x : ℕ) → slice_get xs (first + k) ≡ Some x → items ≡ take k (drop first xs) → next ≡ items ++ x ∷ [] → next ≡ take (k + 1) (drop first xs)
one_more xs items next first k x there so_far is =
    let e : k + 1 ≡ suc k = omega arith in
    is ∙ ap (λ (l : List ℕ). l ++ x ∷ []) so_far ∙ sym (take_next (drop first xs) k x (drop_get xs first k ∙ there)) ∙ ap (λ (n : ℕ). take n (drop first xs)) (sym e)

module _ (size at count len : ℕ) (some : 0 < size) (few : at + count ≤ size * len) where
  parts : size * (at / size) + at % size ≡ at
  parts = div-add-mod at size

  below : at / size ≤ len
  below =
      let iff = div-lt_iff_lt-mul {k = size} {x = at} {y = len + 1} some in
      let low : at < (len + 1) * size = grind (arith, some, few) in
      let less : at / size < len + 1 = iff.1 low in
      omega (arith, less)

  rest_few : at % size + count ≤ size * (len - at / size)
  rest_few =
      let b = below in
      let p = parts in
      let split : size * (at / size) + size * (len - at / size) ≡ size * len = sum (at / size) (len - at / size) len (omega (arith, b)) in
      omega (arith, p, few, split)
    where
      sum : (q d all : ℕ) → q + d ≡ all → size * q + size * d ≡ size * all
      sum q d all e = subst (λ (n : ℕ). size * q + size * d ≡ size * n) e (grind arith)

  fits_by : (b : Bool) → (count == 0) ≡ b → at / size + cond (count == 0) 0 (ceil (at % size + count) size) ≤ len
  fits_by true e = let b = below in let z : cond (count == 0) 0 (ceil (at % size + count) size) ≡ 0 = ap (λ (t : Bool). cond t 0 (ceil (at % size + count) size)) e in omega (arith, b, z)
  fits_by false e =
      let b = below in
      let z : cond (count == 0) 0 (ceil (at % size + count) size) ≡ ceil (at % size + count) size = ap (λ (t : Bool). cond t 0 (ceil (at % size + count) size)) e in
      let c = ceil_few (at % size + count) (len - at / size) rest_few in
      omega (arith, b, z, c)
    where
      ceil_few : (n d : ℕ) → n ≤ size * d → ceil n size ≤ d
      ceil_few n d less =
          let iff = div-lt_iff_lt-mul {k = size} {x = n + (size - 1)} {y = d + 1} some in
          let low : n + (size - 1) < (d + 1) * size = grind (arith, some, less) in
          let l : ceil n size < d + 1 = iff.1 low in
          omega (arith, l)

  -- a piece that ends in so many blocks has its own among them
  pub fits_in : at / size + piece_blocks size at count ≤ len
  fits_in = fits_by (count == 0) refl

-- a piece of few bytes has few blocks
pub few_blocks : (size at count : ℕ) → 0 < size → count ≤ 65536 → piece_blocks size at count ≤ 65537
few_blocks size at count some few = by_test (count == 0)
  where
    by_test : (b : Bool) → cond b 0 (ceil (at % size + count) size) ≤ 65537
    by_test true = omega arith
    by_test false =
        let iff = div-lt_iff_lt-mul {k = size} {x = at % size + count + (size - 1)} {y = 65538} some in
        let low = mod-lt at some in
        let less : ceil (at % size + count) size < 65538 = iff.1 (omega (arith, low, few, some)) in
        omega (arith, less)
