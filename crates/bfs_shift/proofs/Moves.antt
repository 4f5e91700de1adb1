-- What pages of a stream that are written and added make of a told map is a shift.
use Rattle.std.proofs.Common.{◌≡◌, ◌<◌, ◌*◌, ◌⊎◌, inl, inr, ℕ, zero, suc, List, [], refl, sym, ap, ◌∙◌, subst, arith, Bool, true, false, cond, Option, not, ◌&&◌}
use Rattle.std.specs.Prelude.{◌==◌, unwrap_or}
use Rattle.bfs_stream.proofs.Taking.{some_test}
use Rattle.bfs_base.specs.Lists.{times, Has}
use Rattle.bfs_super.specs.declared.geometry.Geometry.{Geometry}
use Rattle.bfs_bitmap.specs.Runs.{Room, marked, per_block}
use Rattle.bfs_stream.specs.Places.{whole_at}
use Rattle.bfs_stream.specs.Told.{contents}
use Rattle.bfs_stream.specs.Grown.{IsOfVolume, is_new}
use Rattle.bfs_maps.specs.Moves.{Moved}
use Rattle.bfs_maps.specs.MovesLaws.{whole_moves}
use Rattle.bfs_sound.specs.Volumes.{sizes, bitmap_blocks, IsMarked}
use Rattle.bfs_shift.specs.Stocked.{Shifts}
use Rattle.bfs_shift.specs.Shifts.{volume_in}
use Rattle.bfs_shift.proofs.Bridge.{free_parts, outside_bitmap}

new_marks : (v : Room) (m map : ℕ → Option (List ℕ)) (xs ys : List ℕ) (k : ℕ) → marked (per_block v) map k ≡ cond (is_new xs ys k) 1 (marked (per_block v) m k) → times k xs ≡ 0 → 0 < times k ys → marked (per_block v) map k ≡ 1
new_marks v m map xs ys k e none some = e ∙ ap (λ t. cond t 1 (marked (per_block v) m k)) (is_new_true (times k xs) (times k ys) none some)
  where
    is_new_true : (a b : ℕ) → a ≡ 0 → 0 < b → ((a == 0) && not (b == 0)) ≡ true
    is_new_true zero (suc b) n s = ap not (some_test (suc b) (omega arith))
    is_new_true zero zero n s = absurd (omega (arith, s))
    is_new_true (suc a) b n s = absurd (omega (arith, n))

old_marks : (v : Room) (m map : ℕ → Option (List ℕ)) (xs ys : List ℕ) (k : ℕ) → marked (per_block v) map k ≡ cond (is_new xs ys k) 1 (marked (per_block v) m k) → (0 < times k xs) ⊎ (times k ys ≡ 0) → marked (per_block v) map k ≡ marked (per_block v) m k
old_marks v m map xs ys k e why = e ∙ ap (λ t. cond t 1 (marked (per_block v) m k)) (isnt_new (times k xs) (times k ys) why)
  where
    isnt_new : (a b : ℕ) → (0 < a) ⊎ (b ≡ 0) → ((a == 0) && not (b == 0)) ≡ false
    isnt_new zero zero w = refl
    isnt_new zero (suc b) (inl w) = absurd (omega (arith, w))
    isnt_new zero (suc b) (inr w) = absurd (omega (arith, w))
    isnt_new (suc a) b w = ap (λ (t : Bool). t && not (b == 0)) (some_test (suc a) (omega arith))

module _ (g : Geometry) (id : ℕ) (v now : Room) (m map : ℕ → Option (List ℕ)) (of : IsOfVolume (sizes g) v) (some : 0 < g.block_size) (moved : Moved (record { id = id; sizes = sizes g }) v now m map)
    (own : (k : ℕ) → Has (whole_at (sizes g) (contents m) id) k → IsMarked (volume_in g m) k) where
  abbrev xs : List ℕ
  xs = whole_at (sizes g) (contents m) id

  abbrev ys : List ℕ
  ys = whole_at (sizes g) (contents map) id

  bits_at : (x : ℕ → Option (List ℕ)) (k : ℕ) → marked (per_block v) x k ≡ marked (8 * g.block_size) x k
  bits_at x k = ap (λ n. marked (8 * n) x k) of.block_size

  stays : (k : ℕ) → times k xs ≡ 0 → times k ys ≡ 0 → times k (bitmap_blocks g) ≡ 0 → contents map k ≡ contents m k
  stays zero none gone out = ap (λ (b : Option (List ℕ)). unwrap_or b []) (moved.first gone)
  stays (suc k) none gone out = ap (λ (b : Option (List ℕ)). unwrap_or b []) (moved.others (suc k) (outside_bitmap g v (suc k) of some (omega arith) out) gone)

  fresh : (k : ℕ) → Has ys k → times k xs ≡ 0 → ¬ IsMarked (volume_in g m) k
  fresh k has none is =
      let free = free_parts v m k (moved.were_free k has none) in
      let a = bits_at m k in
      let b : marked (8 * g.block_size) m k ≡ 1 = is.1 in
      let c = free.1 in
      omega (arith, a, b, c)

  is_below : (k : ℕ) → k < g.blocks → k < v.blocks
  is_below k low = subst (λ (n : ℕ). k < n) (sym of.blocks) low

  bit_now : (k : ℕ) → k < g.blocks → marked (per_block v) map k ≡ cond (is_new xs ys k) 1 (marked (per_block v) m k)
  bit_now k low = moved.marks k (is_below k low)

  marks_on : (k : ℕ) → IsMarked (volume_in g map) k → Has ys k ⊎ (IsMarked (volume_in g m) k × (times k xs ≡ 0))
  marks_on k is = by_counts (times k xs) refl (times k ys) refl
    where
      by_counts : (a : ℕ) → times k xs ≡ a → (b : ℕ) → times k ys ≡ b → Has ys k ⊎ (IsMarked (volume_in g m) k × (times k xs ≡ 0))
      by_counts a e (suc b) f = inl (let h : 0 < times k ys = omega (arith, f) in h)
      by_counts (suc a) e zero f = let h : 0 < times k ys = whole_moves (record { id = id; sizes = sizes g }) v now m map moved k (omega (arith, e)) in inl h
      by_counts zero e zero f =
          let same = old_marks v m map xs ys k (bit_now k is.0) (inr f) in
          let one : marked (8 * g.block_size) map k ≡ 1 = is.1 in
          inr ((is.0, sym (bits_at m k) ∙ sym same ∙ bits_at map k ∙ one), e)

  marks_back : (k : ℕ) → Has ys k ⊎ (IsMarked (volume_in g m) k × (times k xs ≡ 0)) → IsMarked (volume_in g map) k
  marks_back k (inl has) = by_count (times k xs) refl
    where
      by_count : (a : ℕ) → times k xs ≡ a → IsMarked (volume_in g map) k
      by_count zero e =
          let free = free_parts v m k (moved.were_free k has e) in
          let low : k < g.blocks = subst (λ (n : ℕ). k < n) of.blocks free.0 in
          (low, sym (bits_at map k) ∙ new_marks v m map xs ys k (bit_now k low) e has)
      by_count (suc a) e =
          let there : 0 < times k xs = omega (arith, e) in
          let is : IsMarked (volume_in g m) k = own k there in
          let one : marked (8 * g.block_size) m k ≡ 1 = is.1 in
          (is.0, sym (bits_at map k) ∙ old_marks v m map xs ys k (bit_now k is.0) (inl there) ∙ bits_at m k ∙ one)
  marks_back k (inr old) = by_count (times k ys) refl
    where
      by_count : (b : ℕ) → times k ys ≡ b → IsMarked (volume_in g map) k
      by_count zero f =
          let one : marked (8 * g.block_size) m k ≡ 1 = old.0.1 in
          (old.0.0, sym (bits_at map k) ∙ old_marks v m map xs ys k (bit_now k old.0.0) (inr f) ∙ bits_at m k ∙ one)
      by_count (suc b) f = (old.0.0, sym (bits_at map k) ∙ new_marks v m map xs ys k (bit_now k old.0.0) old.1 (let h : 0 < times k ys = omega (arith, f) in h))

  pub moved_shifts : Shifts (volume_in g m) (contents map) xs ys
  moved_shifts = record { stays = stays; once = λ k. moved.owns.once k; fresh = fresh; marks = λ k. (marks_on k, marks_back k) }
