-- Blocks of attributes that came and went, as a shift.
use Rattle.std.proofs.Common.{◌≡◌, ◌<◌, ◌⊎◌, inl, inr, ℕ, zero, suc, List, refl, sym, ap, ◌∙◌, subst, arith, Bool, true, false, cond, Option, not, ◌&&◌, nat_lt}
use Rattle.std.specs.Prelude.{◌==◌, ◌*◌, ◌++◌, [], unwrap_or}
use Rattle.bfs_base.specs.Lists.{times, Has, IsOnce}
use Rattle.bfs_super.specs.declared.geometry.Geometry.{Geometry}
use Rattle.bfs_bitmap.specs.Runs.{Room, marked, per_block, is_reserved}
use Rattle.bfs_stream.specs.Told.{contents}
use Rattle.bfs_stream.specs.Grown.{IsOfVolume, is_new}
use Rattle.bfs_stream.proofs.Doubles.{times-append}
use Rattle.bfs_stream.proofs.Taking.{zero_test, some_test}
use Rattle.bfs_sound.specs.Volumes.{sizes, bitmap_blocks, IsMarked}
use Rattle.bfs_shift.specs.Stocked.{Shifts}
use Rattle.bfs_shift.specs.Shifts.{volume_in}
use Rattle.bfs_shift.proofs.Bridge.{outside_bitmap}
use Rattle.bfs_attrs.specs.Exchanged.{Exchanged}

-- a free block has no bit, and isn't reserved
pub free_means : (low : Bool) (n : ℕ) (r : Bool) → (low && ((n == 0) && not r)) ≡ true → (n ≡ 0) × (r ≡ false)
free_means false n r e = absurd (let bad : false ≡ true = e in cc)
free_means true zero true e = absurd (let bad : false ≡ true = e in cc)
free_means true zero false e = (refl, refl)
free_means true (suc n) r e = absurd (let bad : false ≡ true = sym (ap (λ (t : Bool). t && not r) (some_test (suc n) (omega arith))) ∙ e in cc)

-- a block below the end that isn't free and has no bit is reserved
pub used_means : (low : Bool) (n : ℕ) (r : Bool) → low ≡ true → n ≡ 0 → (low && ((n == 0) && not r)) ≡ false → r ≡ true
used_means true zero true l z e = refl
used_means true zero false l z e = absurd (let bad : true ≡ false = e in cc)
used_means true (suc n) r l z e = absurd (omega (arith, z))
used_means false n r l z e = absurd (let bad : false ≡ true = l in cc)

module _ (g : Geometry) (v now : Room) (m map : ℕ → Option (List ℕ)) (xs ys : List ℕ) (of : IsOfVolume (sizes g) v) (some : 0 < g.block_size)
    (e : Exchanged v now m map xs ys) (once : IsOnce ys) (own : (k : ℕ) → Has xs k → IsMarked (volume_in g m) k) where
  bits_at : (x : ℕ → Option (List ℕ)) (k : ℕ) → marked (per_block v) x k ≡ marked (8 * g.block_size) x k
  bits_at x k = ap (λ (n : ℕ). marked (8 * n) x k) of.block_size

  none_both : (k : ℕ) → times k xs ≡ 0 → times k ys ≡ 0 → times k (xs ++ ys) ≡ 0
  none_both k a b = let p = times-append k xs ys in omega (arith, p, a, b)

  stays : (k : ℕ) → times k xs ≡ 0 → times k ys ≡ 0 → times k (bitmap_blocks g) ≡ 0 → contents map k ≡ contents m k
  stays zero none none_now out = ap (λ (b : Option (List ℕ)). unwrap_or b []) (e.first (none_both 0 none none_now))
  stays (suc k) none none_now out = ap (λ (b : Option (List ℕ)). unwrap_or b []) (e.others (suc k) (outside_bitmap g v (suc k) of some (omega arith) out) (none_both (suc k) none none_now))

  bit_now : (k : ℕ) → k < g.blocks → marked (per_block v) map k ≡ cond (is_new xs ys k) 1 (cond (is_new ys xs k) 0 (marked (per_block v) m k))
  bit_now k low = e.marks k (subst (λ (n : ℕ). k < n) (sym of.blocks) low)

  by_test : (s t : Bool) (x : ℕ) → cond (s && not t) 1 (cond (t && not s) 0 x) ≡ cond s (cond t x 1) (cond t 0 x)
  by_test true true x = refl
  by_test true false x = refl
  by_test false true x = refl
  by_test false false x = refl

  bit_is : (k : ℕ) → k < g.blocks → marked (8 * g.block_size) map k ≡ cond (times k xs == 0) (cond (times k ys == 0) (marked (8 * g.block_size) m k) 1) (cond (times k ys == 0) 0 (marked (8 * g.block_size) m k))
  bit_is k low =
      sym (bits_at map k) ∙ bit_now k low ∙ by_test (times k xs == 0) (times k ys == 0) (marked (per_block v) m k)
      ∙ ap (λ (n : ℕ). cond (times k xs == 0) (cond (times k ys == 0) n 1) (cond (times k ys == 0) 0 n)) (bits_at m k)

  at_tests : (k x : ℕ) (s t : Bool) → (times k xs == 0) ≡ s → (times k ys == 0) ≡ t → cond (times k xs == 0) (cond (times k ys == 0) x 1) (cond (times k ys == 0) 0 x) ≡ cond s (cond t x 1) (cond t 0 x)
  at_tests k x s t p q = ap (λ (b : Bool). cond b (cond (times k ys == 0) x 1) (cond (times k ys == 0) 0 x)) p ∙ ap (λ (b : Bool). cond s (cond b x 1) (cond b 0 x)) q

  pub came_bit : (k : ℕ) → Has ys k → times k xs ≡ 0 → ¬ IsMarked (volume_in g m) k
  came_bit k has none h =
      let f = free_means (nat_lt k v.blocks) (marked (per_block v) m k) (is_reserved v.given k) (e.were_free k has none) in
      let one : marked (8 * g.block_size) m k ≡ 1 = h.1 in
      let z = f.0 in
      let b = bits_at m k in
      omega (arith, one, z, b)

  marks_on : (k : ℕ) → IsMarked (volume_in g map) k → (a : ℕ) → times k xs ≡ a → (b : ℕ) → times k ys ≡ b → Has ys k ⊎ (IsMarked (volume_in g m) k × (times k xs ≡ 0))
  marks_on k h a p (suc b) q = inl (let r : 0 < times k ys = omega (arith, q) in r)
  marks_on k h zero p zero q =
      let one : marked (8 * g.block_size) map k ≡ 1 = h.1 in
      let x = bit_is k h.0 in
      let t = at_tests k (marked (8 * g.block_size) m k) true true (zero_test (times k xs) p) (zero_test (times k ys) q) in
      inr ((h.0, sym t ∙ sym x ∙ one), p)
  marks_on k h (suc a) p zero q =
      let one : marked (8 * g.block_size) map k ≡ 1 = h.1 in
      let x = bit_is k h.0 in
      let t = at_tests k (marked (8 * g.block_size) m k) false true (some_test (times k xs) (omega (arith, p))) (zero_test (times k ys) q) in
      let bad : 0 ≡ 1 = sym t ∙ sym x ∙ one in
      absurd (omega (arith, bad))

  -- a block that came lies on the volume
  came_low : (k : ℕ) → Has ys k → times k xs ≡ 0 → k < g.blocks
  came_low k has none = subst (λ (n : ℕ). k < n) of.blocks (low_means (nat_lt k v.blocks) refl (e.were_free k has none))
    where
      low_means : (t : Bool) → nat_lt k v.blocks ≡ t → (nat_lt k v.blocks && ((marked (per_block v) m k == 0) && not (is_reserved v.given k))) ≡ true → k < v.blocks
      low_means true same free = grind (arith, same)
      low_means false same free = absurd (let bad : false ≡ true = sym (ap (λ (t : Bool). t && ((marked (per_block v) m k == 0) && not (is_reserved v.given k))) same) ∙ free in cc)

  marks_back : (k : ℕ) → Has ys k ⊎ (IsMarked (volume_in g m) k × (times k xs ≡ 0)) → (a : ℕ) → times k xs ≡ a → (b : ℕ) → times k ys ≡ b → IsMarked (volume_in g map) k
  marks_back k (inl has) zero p b q =
      let low = came_low k has p in
      (low, bit_is k low ∙ at_tests k (marked (8 * g.block_size) m k) true false (zero_test (times k xs) p) (some_test (times k ys) has))
  marks_back k (inl has) (suc a) p b q =
      let before = own k (let r : 0 < times k xs = omega (arith, p) in r) in
      let one : marked (8 * g.block_size) m k ≡ 1 = before.1 in
      (before.0, bit_is k before.0 ∙ at_tests k (marked (8 * g.block_size) m k) false false (some_test (times k xs) (omega (arith, p))) (some_test (times k ys) has) ∙ one)
  marks_back k (inr before) a p (suc b) q = absurd (came_bit k (let r : 0 < times k ys = omega (arith, q) in r) before.1 before.0)
  marks_back k (inr before) a p zero q =
      let one : marked (8 * g.block_size) m k ≡ 1 = before.0.1 in
      (before.0.0, bit_is k before.0.0 ∙ at_tests k (marked (8 * g.block_size) m k) true true (zero_test (times k xs) before.1) (zero_test (times k ys) q) ∙ one)

  pub exchange_shifts : Shifts (volume_in g m) (contents map) xs ys
  exchange_shifts = record {
    stays = stays;
    once = once;
    fresh = came_bit;
    marks = λ k. (λ h. marks_on k h (times k xs) refl (times k ys) refl, λ h. marks_back k h (times k xs) refl (times k ys) refl);
  }
