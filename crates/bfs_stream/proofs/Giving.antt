-- What giving a run back leaves.
use Rattle.std.proofs.Common.{◌≡◌, ◌≤◌, ◌<◌, ◌+◌, ◌*◌, ◌∙◌, ◌⊎◌, inl, inr, ℕ, List, [], ◌∷◌, ◌++◌, Bool, true, false, cond, not, ◌||◌, Option, refl, sym, ap, subst, arith}
use Rattle.std.specs.Prelude.{◌==◌, None}
use Rattle.bfs_base.specs.Lists.{counted_from, times, Has}
use Rattle.bfs_bytes.specs.declared.Run.{Run}
use Rattle.bfs_super.specs.Conditions.{natural}
use Rattle.bfs_bitmap.specs.Bits.{in_run}
use Rattle.bfs_bitmap.specs.Fills.{IsTold}
use Rattle.bfs_bitmap.specs.Runs.{Room, IsMarked, IsCounted, AreUsed, per_block, marked, is_reserved, first_of}
use Rattle.bfs_bitmap.specs.declared.given.Given.{Given}
use Rattle.bfs_stream.specs.Sizes.{Sizes, IsInVolume, first_block}
use Rattle.bfs_stream.specs.Places.{run_blocks}
use Rattle.bfs_stream.specs.Grown.{IsOfVolume}
use Rattle.bfs_stream.specs.Trimmed.{Gave}
use Rattle.bfs_stream.proofs.Arrays.{has_counted}
use Rattle.bfs_stream.proofs.Taking.{not_counted, where_is, zero_test, some_test, of_told}

-- the test of a run by its ends is the test by its list
in_counted : (first len k : ℕ) → in_run first len k ≡ not (times k (counted_from first len) == 0)
in_counted first len k = by_place (where_is first len k)
  where
    by_place : ((first ≤ k) × (k < first + len)) ⊎ ((k < first) ⊎ (first + len ≤ k)) → in_run first len k ≡ not (times k (counted_from first len) == 0)
    by_place (inl h) =
        let some : 0 < times k (counted_from first len) = has_counted first len k h.0 h.1 in
        let low = h.0 in
        let high = h.1 in
        let inside : in_run first len k ≡ true = grind (arith, low, high) in
        inside ∙ ap not (sym (some_test (times k (counted_from first len)) some))
    by_place (inr out) = let none : times k (counted_from first len) ≡ 0 = not_counted first len k out in beside out ∙ ap not (sym (zero_test (times k (counted_from first len)) none))
      where
        beside : (k < first) ⊎ (first + len ≤ k) → in_run first len k ≡ false
        beside (inl low) = grind (arith, low)
        beside (inr high) = grind (arith, high)

or_same : (b c : Bool) → (b || c) ≡ (c || b)
or_same true true = refl
or_same true false = refl
or_same false true = refl
or_same false false = refl

or_assoc : (a b c : Bool) → (a || (b || c)) ≡ ((a || b) || c)
or_assoc true b c = refl
or_assoc false b c = refl

or_none : (a : Bool) → (a || false) ≡ a
or_none true = refl
or_none false = refl

-- one more run at the end of those that are reserved
reserved_more : (gs : List Given) (g : Given) (k : ℕ) → is_reserved (gs ++ g ∷ []) k ≡ (is_reserved gs k || in_run g.first g.len k)
reserved_more [] g k = or_none (in_run g.first g.len k)
reserved_more (h ∷ gs) g k = ap (λ (b : Bool). in_run h.first h.len k || b) (reserved_more gs g k) ∙ or_assoc (in_run h.first h.len k) (is_reserved gs k) (in_run g.first g.len k)

pub gave_is : (s : Sizes) (v now : Room) (run : Run) (m : ℕ → Option (List ℕ)) (told : Option (ℕ → Option (List ℕ))) → IsOfVolume s v → now.given ≡ v.given ++ (record { first = first_of v run; len = run.len; group = None; kept = false }) ∷ []
    → IsMarked v now (first_of v run) run.len 0 m told → IsInVolume s run → (AreUsed v m (first_of v run) run.len → IsCounted v m → IsTold (IsCounted now) told) → Gave v now (run_blocks s run) m told
gave_is s v now run m told volume given mark inside counted =
    let first : first_block s run ≡ first_of v run = ap (λ (n : ℕ). natural run.group * n + run.start) (sym volume.group_blocks) in
    let blocks : run_blocks s run ≡ counted_from (first_of v run) run.len = ap (λ (n : ℕ). counted_from n run.len) first in
    let end : first_of v run + run.len ≤ v.blocks = subst (λ (n : ℕ). n + run.len ≤ v.blocks) first (subst (λ (b : ℕ). first_block s run + run.len ≤ b) (sym volume.blocks) inside.inside) in record {
      map = mark.map;
      is = mark.is;
      fits = mark.fits;
      others = λ k out. mark.marks.others k (inr out);
      first = mark.marks.others 0 (inl refl);
      reserved = λ k.
          ap (λ (l : List Given). is_reserved l k) given
          ∙ reserved_more v.given (record { first = first_of v run; len = run.len; group = None; kept = false }) k
          ∙ ap (λ (b : Bool). is_reserved v.given k || b) (in_counted (first_of v run) run.len k)
          ∙ ap (λ (l : List ℕ). is_reserved v.given k || not (times k l == 0)) (sym blocks);
      marks = λ k low.
          mark.marks.marks k low
          ∙ ap (λ (b : Bool). cond b 0 (marked (per_block v) m k)) (in_counted (first_of v run) run.len k)
          ∙ by_test (times k (counted_from (first_of v run) run.len) == 0) (marked (per_block v) m k)
          ∙ ap (λ (l : List ℕ). cond (times k l == 0) (marked (per_block v) m k) 0) (sym blocks);
      counted = λ once marks count. of_told (IsCounted now) mark.map told mark.is
          (counted (λ k low high. marks k (omega (arith, high, end)) (subst (λ (l : List ℕ). Has l k) (sym blocks) (has_counted (first_of v run) run.len k low high))) count);
    }
  where
    by_test : (b : Bool) (a : ℕ) → cond (not b) 0 a ≡ cond b a 0
    by_test true a = refl
    by_test false a = refl
