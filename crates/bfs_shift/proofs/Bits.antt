-- Runs that are taken and given back, and blocks that are written, as shifts.
use Rattle.std.proofs.Common.{◌≡◌, ◌≤◌, ◌<◌, ◌+◌, ◌-◌, ◌*◌, ◌/◌, ◌%◌, ◌⊎◌, inl, inr, ℕ, zero, suc, List, [], refl, sym, ap, ◌∙◌, subst, arith, true, false, cond, Option, Some}
use Rattle.std.specs.Prelude.{unwrap_or}
use Rattle.bfs_base.specs.Lists.{times, Has, IsOnce, ChangesAt, counted_from}
use Rattle.bfs_super.specs.Conditions.{ceil}
use Rattle.bfs_super.specs.Geometry.{bitmap_length}
use Rattle.bfs_super.specs.declared.geometry.Geometry.{Geometry}
use Rattle.bfs_bitmap.specs.Bits.{bit_of, in_run}
use Rattle.bfs_bitmap.specs.Runs as bits
use Rattle.bfs_bitmap.specs.Runs.{Room, IsFreeRun, Marks, marked, per_block}
use Rattle.bfs_stream.specs.Told.{contents}
use Rattle.bfs_stream.specs.Grown.{IsOfVolume}
use Rattle.bfs_stream.proofs.Taking.{not_counted, once_counted, where_is, counted_in}
use Rattle.bfs_sound.specs.Volumes.{Volume, sizes, bitmap_blocks, IsMarked}
use Rattle.bfs_sound.specs.Laws.{with_blocks}
use Rattle.bfs_sound.proofs.Carried.{has_counted}
use Rattle.bfs_shift.specs.Stocked.{Shifts}
use Rattle.bfs_shift.specs.Shifts.{volume_in}
use Rattle.bfs_shift.proofs.Bridge.{free_parts, outside_bitmap}
use Rattle.bfs_shift.proofs.Widens.{there_or_not}

run_test : (first len k : ℕ) → first ≤ k → k < first + len → in_run first len k ≡ true
run_test first len k low high = grind (arith, low, high)

below_test : (first len k : ℕ) → k < first → in_run first len k ≡ false
below_test first len k low = grind (arith, low)

above_test : (first len k : ℕ) → first + len ≤ k → in_run first len k ≡ false
above_test first len k high = grind (arith, high)

out_test : (first len k : ℕ) → (k < first) ⊎ (first + len ≤ k) → in_run first len k ≡ false
out_test first len k (inl low) = below_test first len k low
out_test first len k (inr high) = above_test first len k high

module _ (g : Geometry) (v : Room) (m map : ℕ → Option (List ℕ)) (first len bit : ℕ) (of : IsOfVolume (sizes g) v) (some : 0 < g.block_size) (inside : first + len ≤ v.blocks) (marks : Marks v first len bit m map) where
  bits_at : (x : ℕ → Option (List ℕ)) (k : ℕ) → marked (per_block v) x k ≡ marked (8 * g.block_size) x k
  bits_at x k = ap (λ n. marked (8 * n) x k) of.block_size

  pub stays : (k : ℕ) → times k (bitmap_blocks g) ≡ 0 → contents map k ≡ contents m k
  stays zero out = ap (λ (b : Option (List ℕ)). unwrap_or b []) (marks.others 0 (inl refl))
  stays (suc k) out = ap (λ (b : Option (List ℕ)). unwrap_or b []) (marks.others (suc k) (inr (outside_bitmap g v (suc k) of some (omega arith) out)))

  bit_now : (k : ℕ) → k < g.blocks → marked (per_block v) map k ≡ cond (in_run first len k) bit (marked (per_block v) m k)
  bit_now k low = marks.marks k (subst (λ (n : ℕ). k < n) (sym of.blocks) low)

  pub bit_inside : (k : ℕ) → k < g.blocks → (first ≤ k) × (k < first + len) → marked (8 * g.block_size) map k ≡ bit
  bit_inside k low within = sym (bits_at map k) ∙ bit_now k low ∙ ap (λ t. cond t bit (marked (per_block v) m k)) (run_test first len k within.0 within.1)

  pub bit_outside : (k : ℕ) → k < g.blocks → (k < first) ⊎ (first + len ≤ k) → marked (8 * g.block_size) map k ≡ marked (8 * g.block_size) m k
  bit_outside k low out = sym (bits_at map k) ∙ bit_now k low ∙ ap (λ t. cond t bit (marked (per_block v) m k)) (out_test first len k out) ∙ bits_at m k

  pub in_volume : (k : ℕ) → (first ≤ k) × (k < first + len) → k < g.blocks
  in_volume k within = subst (λ (n : ℕ). k < n) of.blocks (let h = within.1 in omega (arith, h, inside))

module _ (g : Geometry) (v now : Room) (m : ℕ → Option (List ℕ)) (first len : ℕ) (told : Option (ℕ → Option (List ℕ))) (of : IsOfVolume (sizes g) v) (some : 0 < g.block_size) (inside : first + len ≤ v.blocks) where
  abbrev run : List ℕ
  run = counted_from first len

  module _ (free : IsFreeRun v m first len) (is : bits.IsMarked v now first len 1 m told) where
    taken_on : (k : ℕ) → IsMarked (volume_in g is.map) k → Has run k ⊎ (IsMarked (volume_in g m) k × (times k [] ≡ 0))
    taken_on k marks = by_place (where_is first len k)
      where
        by_place : ((first ≤ k) × (k < first + len)) ⊎ ((k < first) ⊎ (first + len ≤ k)) → Has run k ⊎ (IsMarked (volume_in g m) k × (times k [] ≡ 0))
        by_place (inl within) = inl (has_counted k first len within.0 within.1)
        by_place (inr out) = let one : marked (8 * g.block_size) is.map k ≡ 1 = marks.1 in inr ((marks.0, sym (bit_outside g v m is.map first len 1 of some inside is.marks k marks.0 out) ∙ one), refl)

    taken_back : (k : ℕ) → Has run k ⊎ (IsMarked (volume_in g m) k × (times k [] ≡ 0)) → IsMarked (volume_in g is.map) k
    taken_back k (inl has) =
        let within = counted_in first len k has in
        let low = in_volume g v m is.map first len 1 of some inside is.marks k within in
        (low, bit_inside g v m is.map first len 1 of some inside is.marks k low within)
    taken_back k (inr old) = by_place (where_is first len k)
      where
        by_place : ((first ≤ k) × (k < first + len)) ⊎ ((k < first) ⊎ (first + len ≤ k)) → IsMarked (volume_in g is.map) k
        by_place (inl within) = (old.0.0, bit_inside g v m is.map first len 1 of some inside is.marks k old.0.0 within)
        by_place (inr out) = let one : marked (8 * g.block_size) m k ≡ 1 = old.0.1 in (old.0.0, bit_outside g v m is.map first len 1 of some inside is.marks k old.0.0 out ∙ one)

    was_free : (k : ℕ) → Has run k → times k [] ≡ 0 → ¬ IsMarked (volume_in g m) k
    was_free k has none marks =
        let within = counted_in first len k has in
        let f = free_parts v m k (free.free k within.0 within.1) in
        let a : marked (per_block v) m k ≡ marked (8 * g.block_size) m k = ap (λ n. marked (8 * n) m k) of.block_size in
        let b : marked (8 * g.block_size) m k ≡ 1 = marks.1 in
        let c = f.1 in
        omega (arith, a, b, c)

    pub taken_shifts : Shifts (volume_in g m) (contents is.map) [] run
    taken_shifts = record {
      stays = λ k none gone out. stays g v m is.map first len 1 of some inside is.marks k out;
      once = once_counted first len;
      fresh = was_free;
      marks = λ k. (taken_on k, taken_back k);
    }

  module _ (is : bits.IsMarked v now first len 0 m told) where
    given_on : (k : ℕ) → IsMarked (volume_in g is.map) k → Has [] k ⊎ (IsMarked (volume_in g m) k × (times k run ≡ 0))
    given_on k marks = by_place (where_is first len k)
      where
        by_place : ((first ≤ k) × (k < first + len)) ⊎ ((k < first) ⊎ (first + len ≤ k)) → Has [] k ⊎ (IsMarked (volume_in g m) k × (times k run ≡ 0))
        by_place (inl within) = let one : marked (8 * g.block_size) is.map k ≡ 1 = marks.1 in let none = bit_inside g v m is.map first len 0 of some inside is.marks k marks.0 within in absurd (omega (arith, one, none))
        by_place (inr out) =
            let one : marked (8 * g.block_size) is.map k ≡ 1 = marks.1 in
            inr ((marks.0, sym (bit_outside g v m is.map first len 0 of some inside is.marks k marks.0 out) ∙ one), not_counted first len k out)

    given_back : (k : ℕ) → Has [] k ⊎ (IsMarked (volume_in g m) k × (times k run ≡ 0)) → IsMarked (volume_in g is.map) k
    given_back k (inl has) = let bad : 0 < 0 = has in absurd (omega (arith, bad))
    given_back k (inr old) = by_place (where_is first len k)
      where
        by_place : ((first ≤ k) × (k < first + len)) ⊎ ((k < first) ⊎ (first + len ≤ k)) → IsMarked (volume_in g is.map) k
        by_place (inl within) = let h : 0 < times k run = has_counted k first len within.0 within.1 in let n = old.1 in absurd (omega (arith, h, n))
        by_place (inr out) = let one : marked (8 * g.block_size) m k ≡ 1 = old.0.1 in (old.0.0, bit_outside g v m is.map first len 0 of some inside is.marks k old.0.0 out ∙ one)

    pub given_shifts : Shifts (volume_in g m) (contents is.map) run []
    given_shifts = record {
      stays = λ k none gone out. stays g v m is.map first len 0 of some inside is.marks k out;
      once = λ k. omega arith;
      fresh = λ k has none. absurd (let bad : 0 < 0 = has in omega (arith, bad));
      marks = λ k. (given_on k, given_back k);
    }

quotient_below : (k n b : ℕ) → 0 < b → k < n → k / b < (n + (b - 1)) / b
quotient_below k n b some h = grind (arith, some, h)

-- the bits stay where the blocks of the bitmap do
pub bit_stays : (v : Volume) (new : ℕ → List ℕ) → 0 < v.geometry.block_size → ((b : ℕ) → Has (bitmap_blocks v.geometry) b → new b ≡ v.blocks b) → (k : ℕ) → k < v.geometry.blocks
    → marked (8 * v.geometry.block_size) (λ b. Some (new b)) k ≡ marked (8 * v.geometry.block_size) (λ b. Some (v.blocks b)) k
bit_stays v new some same k inside = ap (λ bytes. bit_of bytes (k % (8 * v.geometry.block_size))) (same (1 + k / (8 * v.geometry.block_size)) in_bitmap)
  where
    below : k / (8 * v.geometry.block_size) < bitmap_length v.geometry.blocks v.geometry.block_size
    below =
        let e : 8 * v.geometry.block_size ≡ v.geometry.block_size * 8 = omega arith in
        subst (λ b. k / b < ceil v.geometry.blocks (v.geometry.block_size * 8)) (sym e) (quotient_below k v.geometry.blocks (v.geometry.block_size * 8) (omega (arith, some)) inside)

    in_bitmap : Has (bitmap_blocks v.geometry) (1 + k / (8 * v.geometry.block_size))
    in_bitmap = has_counted (1 + k / (8 * v.geometry.block_size)) 1 (bitmap_length v.geometry.blocks v.geometry.block_size) (omega arith) (let b = below in omega (arith, b))

module _ (v : Volume) (new : ℕ → List ℕ) (xs : List ℕ) (some : 0 < v.geometry.block_size) (changes : ChangesAt v.blocks new xs) (once : IsOnce xs)
    (are : (k : ℕ) → Has xs k → IsMarked v k × (times k (bitmap_blocks v.geometry) ≡ 0)) where
  bitmap_same : (b : ℕ) → Has (bitmap_blocks v.geometry) b → new b ≡ v.blocks b
  bitmap_same b has = by_case (there_or_not b xs)
    where
      by_case : Has xs b ⊎ (times b xs ≡ 0) → new b ≡ v.blocks b
      by_case (inr none) = changes b none
      by_case (inl there) = let h : 0 < times b (bitmap_blocks v.geometry) = has in let n = (are b there).1 in absurd (omega (arith, h, n))

  marked_on : (k : ℕ) → IsMarked (with_blocks v new) k → IsMarked v k
  marked_on k m = (m.0, sym (bit_stays v new some bitmap_same k m.0) ∙ m.1)

  marked_back : (k : ℕ) → IsMarked v k → IsMarked (with_blocks v new) k
  marked_back k m = (m.0, bit_stays v new some bitmap_same k m.0 ∙ m.1)

  on : (k : ℕ) → IsMarked (with_blocks v new) k → Has xs k ⊎ (IsMarked v k × (times k xs ≡ 0))
  on k m = by_case (there_or_not k xs)
    where
      by_case : Has xs k ⊎ (times k xs ≡ 0) → Has xs k ⊎ (IsMarked v k × (times k xs ≡ 0))
      by_case (inl there) = inl there
      by_case (inr none) = inr (marked_on k m, none)

  back : (k : ℕ) → Has xs k ⊎ (IsMarked v k × (times k xs ≡ 0)) → IsMarked (with_blocks v new) k
  back k (inl there) = marked_back k (are k there).0
  back k (inr old) = marked_back k old.0

  pub writes_shift : Shifts v new xs xs
  writes_shift = record {
    stays = λ k none gone out. changes k none;
    once = once;
    fresh = λ k has none. absurd (let h : 0 < times k xs = has in omega (arith, h, none));
    marks = λ k. (on k, back k);
  }
