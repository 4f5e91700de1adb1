-- A stream that has grown, or was cut, is a shift of its inode's blocks.
use Rattle.std.proofs.Common.{◌≡◌, ◌≤◌, ◌<◌, ◌⊎◌, inl, inr, ℕ, zero, suc, List, refl, sym, ap, ◌∙◌, subst, arith, Bool, true, false, cond, Option, not, ◌&&◌}
use Rattle.std.specs.Prelude.{◌==◌, ◌*◌, [], unwrap_or}
use Rattle.bfs_base.specs.Lists.{times, Has}
use Rattle.bfs_super.specs.declared.geometry.Geometry.{Geometry}
use Rattle.bfs_bitmap.specs.Runs.{Room, marked, per_block}
use Rattle.bfs_stream.specs.Places.{whole_at, frame_at, places_at}
use Rattle.bfs_stream.specs.Told.{contents}
use Rattle.bfs_stream.specs.Grown.{IsOfVolume, Grown, is_new}
use Rattle.bfs_stream.specs.Trimmed.{Trimmed}
use Rattle.bfs_stream.proofs.Doubles.{times-append}
use Rattle.bfs_stream.proofs.Taking.{some_test}
use Rattle.bfs_maps.specs.MovesLaws.{moved_grown}
use Rattle.bfs_sound.specs.Volumes.{sizes, bitmap_blocks, IsMarked}
use Rattle.bfs_shift.specs.Stocked.{Shifts}
use Rattle.bfs_shift.specs.Shifts.{volume_in}
use Rattle.bfs_shift.proofs.Bridge.{outside_bitmap}
use Rattle.bfs_shift.proofs.Widens.{there_or_not}
use Rattle.bfs_shift.proofs.Moves.{moved_shifts}

pub grown_shifts : (g : Geometry) (id : ℕ) (v now : Room) (m : ℕ → Option (List ℕ)) (fresh : List ℕ) (told : Option (ℕ → Option (List ℕ))) (old new : ℕ → Bool) → IsOfVolume (sizes g) v → 0 < g.block_size
    → (grown : Grown (record { id = id; sizes = sizes g }) v now m fresh told old new) → now ≡ record v { tally = now.tally } → ((k : ℕ) → Has (whole_at (sizes g) (contents m) id) k → IsMarked (volume_in g m) k)
    → Shifts (volume_in g m) (contents grown.map) (whole_at (sizes g) (contents m) id) (whole_at (sizes g) (contents grown.map) id)
grown_shifts g id v now m fresh told old new of some grown rest own = moved_shifts g id v now m grown.map of some (moved_grown (record { id = id; sizes = sizes g }) v now m fresh told old new grown rest) own

-- the test for a block that went
went_test : (a b : ℕ) → a ≡ 0 → 0 < b → ((a == 0) && not (b == 0)) ≡ true
went_test zero (suc b) n s = ap not (some_test (suc b) (omega arith))
went_test zero zero n s = absurd (omega (arith, s))
went_test (suc a) b n s = absurd (omega (arith, n))

kept_test : (a b : ℕ) → (0 < a) ⊎ (b ≡ 0) → ((a == 0) && not (b == 0)) ≡ false
kept_test zero zero w = refl
kept_test zero (suc b) (inl w) = absurd (omega (arith, w))
kept_test zero (suc b) (inr w) = absurd (omega (arith, w))
kept_test (suc a) b w = ap (λ (t : Bool). t && not (b == 0)) (some_test (suc a) (omega arith))

module _ (g : Geometry) (id : ℕ) (v now : Room) (m : ℕ → Option (List ℕ)) (gone : List ℕ) (told : Option (ℕ → Option (List ℕ))) (old new : ℕ → Bool) (of : IsOfVolume (sizes g) v) (some : 0 < g.block_size)
    (cut : Trimmed (record { id = id; sizes = sizes g }) v now m gone told old new) (own : (k : ℕ) → Has (whole_at (sizes g) (contents m) id) k → IsMarked (volume_in g m) k) where
  abbrev xs : List ℕ
  xs = whole_at (sizes g) (contents m) id

  abbrev ys : List ℕ
  ys = whole_at (sizes g) (contents cut.map) id

  fewer : (k : ℕ) → times k ys ≤ times k xs
  fewer k = cut.fewer k

  bits_at : (x : ℕ → Option (List ℕ)) (k : ℕ) → marked (per_block v) x k ≡ marked (8 * g.block_size) x k
  bits_at x k = ap (λ n. marked (8 * n) x k) of.block_size

  untouched : (k : ℕ) → times k ys ≡ 0 → times k cut.touched ≡ 0
  untouched k none = by_case (there_or_not k cut.touched)
    where
      by_case : Has cut.touched k ⊎ (times k cut.touched ≡ 0) → times k cut.touched ≡ 0
      by_case (inr e) = e
      by_case (inl h) =
          let f : 0 < times k (frame_at (sizes g) (contents cut.map) id) = cut.still k h in
          let p = times-append k (frame_at (sizes g) (contents cut.map) id) (places_at (sizes g) (contents cut.map) id) in
          absurd (omega (arith, f, p, none))

  stays : (k : ℕ) → times k ys ≡ 0 → times k (bitmap_blocks g) ≡ 0 → contents cut.map k ≡ contents m k
  stays zero none out = ap (λ (b : Option (List ℕ)). unwrap_or b []) (cut.first (untouched 0 none))
  stays (suc k) none out = ap (λ (b : Option (List ℕ)). unwrap_or b []) (cut.others (suc k) (outside_bitmap g v (suc k) of some (omega arith) out) (untouched (suc k) none))

  bit_now : (k : ℕ) → k < g.blocks → marked (per_block v) cut.map k ≡ cond (is_new ys xs k) 0 (marked (per_block v) m k)
  bit_now k low = cut.marks k (subst (λ (n : ℕ). k < n) (sym of.blocks) low)

  same_bit : (k : ℕ) → k < g.blocks → (0 < times k ys) ⊎ (times k xs ≡ 0) → marked (8 * g.block_size) cut.map k ≡ marked (8 * g.block_size) m k
  same_bit k low why = sym (bits_at cut.map k) ∙ bit_now k low ∙ ap (λ t. cond t 0 (marked (per_block v) m k)) (kept_test (times k ys) (times k xs) why) ∙ bits_at m k

  no_bit : (k : ℕ) → k < g.blocks → times k ys ≡ 0 → 0 < times k xs → marked (8 * g.block_size) cut.map k ≡ 0
  no_bit k low none was = sym (bits_at cut.map k) ∙ bit_now k low ∙ ap (λ t. cond t 0 (marked (per_block v) m k)) (went_test (times k ys) (times k xs) none was)

  marks_on : (k : ℕ) → IsMarked (volume_in g cut.map) k → Has ys k ⊎ (IsMarked (volume_in g m) k × (times k xs ≡ 0))
  marks_on k is = by_case (there_or_not k ys) (there_or_not k xs)
    where
      by_case : Has ys k ⊎ (times k ys ≡ 0) → Has xs k ⊎ (times k xs ≡ 0) → Has ys k ⊎ (IsMarked (volume_in g m) k × (times k xs ≡ 0))
      by_case (inl h) x = inl h
      by_case (inr none) (inl was) = let one : marked (8 * g.block_size) cut.map k ≡ 1 = is.1 in let zero_now = no_bit k is.0 none was in absurd (omega (arith, one, zero_now))
      by_case (inr none) (inr never) = let one : marked (8 * g.block_size) cut.map k ≡ 1 = is.1 in inr ((is.0, sym (same_bit k is.0 (inr never)) ∙ one), never)

  marks_back : (k : ℕ) → Has ys k ⊎ (IsMarked (volume_in g m) k × (times k xs ≡ 0)) → IsMarked (volume_in g cut.map) k
  marks_back k (inl has) =
      let h : 0 < times k ys = has in
      let f = fewer k in
      let before : IsMarked (volume_in g m) k = own k (let w : 0 < times k xs = omega (arith, h, f) in w) in
      let one : marked (8 * g.block_size) m k ≡ 1 = before.1 in
      (before.0, same_bit k before.0 (inl has) ∙ one)
  marks_back k (inr before) = let one : marked (8 * g.block_size) m k ≡ 1 = before.0.1 in (before.0.0, same_bit k before.0.0 (inr before.1) ∙ one)

  pub trimmed_shifts : Shifts (volume_in g m) (contents cut.map) xs ys
  trimmed_shifts = record {
    stays = λ k none none_now out. stays k none_now out;
    once = λ k. cut.owns.once k;
    fresh = λ k has none. let h : 0 < times k ys = has in let f = fewer k in absurd (omega (arith, h, f, none));
    marks = λ k. (marks_on k, marks_back k);
  }
