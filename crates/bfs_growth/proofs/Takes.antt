-- What taking a run from the bitmap leaves.
use Rattle.std.proofs.Common.{◌≡◌, ◌≤◌, ◌<◌, ◌+◌, ◌*◌, ◌∙◌, ◌⊎◌, inl, inr, ℕ, List, Bool, true, false, cond, not, ◌&&◌, Option, refl, sym, ap, subst, arith}
use Rattle.std.specs.Prelude.{◌==◌, nat_lt}
use Rattle.bfs_base.specs.Lists.{counted_from, times, Has}
use Rattle.bfs_bytes.specs.declared.Run.{Run}
use Rattle.bfs_super.specs.Conditions.{natural}
use Rattle.bfs_bitmap.specs.Bits.{in_run}
use Rattle.bfs_bitmap.specs.Fills.{IsTold}
use Rattle.bfs_bitmap.specs.Runs.{Room, Marks, IsMarked, IsTaken, IsCounted, per_block, marked, is_free, is_reserved, first_of}
use Rattle.bfs_stream.specs.Sizes.{Sizes, first_block}
use Rattle.bfs_stream.specs.Places.{run_blocks}
use Rattle.bfs_stream.specs.Grown.{IsOfVolume, Took}
use Rattle.bfs_stream.proofs.Arrays.{has_counted}
use Rattle.bfs_stream.proofs.Taking.{and_false, counted_in, not_counted, of_told, some_test, where_is, zero_test}

and_true : (b : Bool) → (b && true) ≡ b
and_true true = refl
and_true false = refl

run_test : (first len k : ℕ) → first ≤ k → k < first + len → in_run first len k ≡ true
run_test first len k low high = grind (arith, low, high)

below_test : (first len k : ℕ) → k < first → in_run first len k ≡ false
below_test first len k low = grind (arith, low)

above_test : (first len k : ℕ) → first + len ≤ k → in_run first len k ≡ false
above_test first len k high = grind (arith, high)

module _ (v : Room) (m map : ℕ → Option (List ℕ)) (first len : ℕ) (marks : Marks v first len 1 m map) where
  kept_free : (k : ℕ) → in_run first len k ≡ false → is_free v map k ≡ is_free v m k
  kept_free k out = by_blocks (nat_lt k v.blocks) refl
    where
      by_blocks : (t : Bool) → nat_lt k v.blocks ≡ t → (t && ((marked (per_block v) map k == 0) && not (is_reserved v.given k))) ≡ (t && ((marked (per_block v) m k == 0) && not (is_reserved v.given k)))
      by_blocks false e = refl
      by_blocks true e = ap (λ (n : ℕ). (n == 0) && not (is_reserved v.given k)) (marks.marks k (grind (arith, e)) ∙ ap (λ (b : Bool). cond b 1 (marked (per_block v) m k)) out)

  used_now : (k : ℕ) → in_run first len k ≡ true → is_free v map k ≡ false
  used_now k inside = by_blocks (nat_lt k v.blocks) refl
    where
      by_blocks : (t : Bool) → nat_lt k v.blocks ≡ t → (t && ((marked (per_block v) map k == 0) && not (is_reserved v.given k))) ≡ false
      by_blocks false e = refl
      by_blocks true e = ap (λ (n : ℕ). (n == 0) && not (is_reserved v.given k)) (marks.marks k (grind (arith, e)) ∙ ap (λ (b : Bool). cond b 1 (marked (per_block v) m k)) inside)

  free_is : (k : ℕ) → is_free v map k ≡ (is_free v m k && (times k (counted_from first len) == 0))
  free_is k = by_place (where_is first len k)
    where
      by_place : ((first ≤ k) × (k < first + len)) ⊎ ((k < first) ⊎ (first + len ≤ k)) → is_free v map k ≡ (is_free v m k && (times k (counted_from first len) == 0))
      by_place (inl h) =
          let inside : in_run first len k ≡ true = run_test first len k h.0 h.1 in
          let some : 0 < times k (counted_from first len) = has_counted first len k h.0 h.1 in
          let test : (times k (counted_from first len) == 0) ≡ false = some_test (times k (counted_from first len)) some in
          used_now k inside ∙ sym (ap (λ (b : Bool). is_free v m k && b) test ∙ and_false (is_free v m k))
      by_place (inr out) =
          let none : times k (counted_from first len) ≡ 0 = not_counted first len k out in
          let test : (times k (counted_from first len) == 0) ≡ true = zero_test (times k (counted_from first len)) none in
          kept_free k (beside out) ∙ sym (ap (λ (b : Bool). is_free v m k && b) test ∙ and_true (is_free v m k))
        where
          beside : (k < first) ⊎ (first + len ≤ k) → in_run first len k ≡ false
          beside (inl low) = below_test first len k low
          beside (inr high) = above_test first len k high

  marks_is : (k : ℕ) → k < v.blocks → marked (per_block v) map k ≡ cond (times k (counted_from first len) == 0) (marked (per_block v) m k) 1
  marks_is k low = marks.marks k low ∙ by_place (where_is first len k)
    where
      by_place : ((first ≤ k) × (k < first + len)) ⊎ ((k < first) ⊎ (first + len ≤ k)) → cond (in_run first len k) 1 (marked (per_block v) m k) ≡ cond (times k (counted_from first len) == 0) (marked (per_block v) m k) 1
      by_place (inl h) =
          let some : 0 < times k (counted_from first len) = has_counted first len k h.0 h.1 in
          ap (λ (b : Bool). cond b 1 (marked (per_block v) m k)) (run_test first len k h.0 h.1) ∙ sym (ap (λ (b : Bool). cond b (marked (per_block v) m k) 1) (some_test (times k (counted_from first len)) some))
      by_place (inr out) =
          let none : times k (counted_from first len) ≡ 0 = not_counted first len k out in
          ap (λ (b : Bool). cond b 1 (marked (per_block v) m k)) (beside out) ∙ sym (ap (λ (b : Bool). cond b (marked (per_block v) m k) 1) (zero_test (times k (counted_from first len)) none))
        where
          beside : (k < first) ⊎ (first + len ≤ k) → in_run first len k ≡ false
          beside (inl low') = below_test first len k low'
          beside (inr high) = above_test first len k high

pub took_is : (s : Sizes) (v now : Room) (run : Run) (wanted longest : ℕ) (m : ℕ → Option (List ℕ)) (told : Option (ℕ → Option (List ℕ)))
    → IsOfVolume s v → IsTaken v m wanted longest (first_of v run) run.len → IsMarked v now (first_of v run) run.len 1 m told → now ≡ record v { tally = now.tally } → (IsCounted v m → IsTold (IsCounted now) told) → Took s v now run m told
took_is s v now run wanted longest m told volume taken mark rest counted =
    let first : first_block s run ≡ first_of v run = ap (λ (n : ℕ). natural run.group * n + run.start) (sym volume.group_blocks) in
    let blocks : run_blocks s run ≡ counted_from (first_of v run) run.len = ap (λ (n : ℕ). counted_from n run.len) first in record {
      map = mark.map;
      is = mark.is;
      fits = mark.fits;
      others = λ k out. mark.marks.others k (inr out);
      first = mark.marks.others 0 (inl refl);
      were_free = λ k has. let in_it = counted_in (first_of v run) run.len k (subst (λ (l : List ℕ). Has l k) blocks has) in taken.free.free k in_it.0 in_it.1;
      free = λ k. ap (λ (x : Room). is_free x mark.map k) rest ∙ free_is v m mark.map (first_of v run) run.len mark.marks k ∙ ap (λ (l : List ℕ). is_free v m k && (times k l == 0)) (sym blocks);
      marks = λ k low. marks_is v m mark.map (first_of v run) run.len mark.marks k low ∙ ap (λ (l : List ℕ). cond (times k l == 0) (marked (per_block v) m k) 1) (sym blocks);
      counted = λ count. of_told (IsCounted now) mark.map told mark.is (counted count);
    }
