-- Free runs of one length while they are counted.
use Rattle.std.proofs.Common.{◌≡◌, ◌≤◌, ◌<◌, ◌+◌, ◌-◌, ℕ, zero, suc, List, [], ◌∷◌, length, true, false, Option, sym, subst, arith, ◌⊎◌, inl, inr}
use Rattle.std.specs.Prelude.{All}
use Rattle.bfs_bitmap.specs.Runs.{Room, is_free, IsFreeRun, IsNext}
use Rattle.bfs_bitmap.specs.Searches.{IsLimit}
use Rattle.bfs_bitmap.specs.Counted.{AreRuns, HasRuns, NoMoreRuns, IsStretch}
use Rattle.bfs_bitmap.proofs.Searches.{split, past, no_run_over, all_free, stops}

-- What is known at a place that the count has come to: what begins there goes on to a list from the first block on with so many more,
-- and each list from the first block on has at most so many before what begins there.
pub record IsCountedTo (v : Room) (m : ℕ → Option (List ℕ)) (len at runs : ℕ) : Type 0 where
  pub more : (ts : List ℕ) → AreRuns v m len at ts → (gs : List ℕ) × AreRuns v m len 0 gs × (length gs ≡ runs + length ts)
  pub most : (gs : List ℕ) → AreRuns v m len 0 gs → (ts : List ℕ) × AreRuns v m len at ts × (length gs ≤ runs + length ts)

pub counted_first : (v : Room) (m : ℕ → Option (List ℕ)) (len : ℕ) → IsCountedTo v m len 0 0
counted_first v m len = record { more = λ ts are. (ts, are, omega arith); most = λ gs are. (gs, are, omega arith) }

-- what begins further up begins from a place on
from_below : (v : Room) (m : ℕ → Option (List ℕ)) (len at end : ℕ) (ts : List ℕ) → at ≤ end → AreRuns v m len end ts → AreRuns v m len at ts
from_below v m len at end [] le are = record { apart = tt; free = are.free }
from_below v m len at end (g ∷ ts) le are = record { apart = (let a = are.apart.0 in omega (arith, a, le), are.apart.1); free = are.free }

all_put : (P : ℕ → Type 0) (x : ℕ) (xs : List ℕ) → P x → All P xs → All P (x ∷ xs)
all_put P x xs here rest zero d h = here
all_put P x xs here rest (suc k) d h = rest k d (omega (arith, h))

-- a run before what begins behind it
with_run : (v : Room) (m : ℕ → Option (List ℕ)) (len at g : ℕ) (ts : List ℕ) → at ≤ g → IsFreeRun v m g len → AreRuns v m len (g + len) ts → AreRuns v m len at (g ∷ ts)
with_run v m len at g ts le run are = record { apart = (le, are.apart); free = all_put (λ k. IsFreeRun v m k len) g ts run are.free }

-- without the first
behind_first : (v : Room) (m : ℕ → Option (List ℕ)) (len at g : ℕ) (ts : List ℕ) → AreRuns v m len at (g ∷ ts) → AreRuns v m len (g + len) ts
behind_first v m len at g ts are = record { apart = are.apart.1; free = λ k d h. are.free (suc k) d (omega (arith, h)) }

first_run : (v : Room) (m : ℕ → Option (List ℕ)) (len at g : ℕ) (ts : List ℕ) → AreRuns v m len at (g ∷ ts) → IsFreeRun v m g len
first_run v m len at g ts are = are.free 0 0 (omega arith)

-- past a stretch in which none begins
pub counted_over : (v : Room) (m : ℕ → Option (List ℕ)) (len at end runs : ℕ) → at ≤ end → IsStretch v m len at end false → IsCountedTo v m len at runs → IsCountedTo v m len end runs
counted_over v m len at end runs le none up = record {
  more = λ ts are. up.more ts (from_below v m len at end ts le are);
  most = λ gs are. let so = up.most gs are in (so.0, further so.0 so.1, so.2);
}
  where
    by_place : (g : ℕ) (ts : List ℕ) → AreRuns v m len at (g ∷ ts) → (g < end) ⊎ (end ≤ g) → AreRuns v m len end (g ∷ ts)
    by_place g ts are (inl h) = absurd (none g (are.apart.0) h (first_run v m len at g ts are))
    by_place g ts are (inr h) = record { apart = (h, are.apart.1); free = are.free }

    further : (ts : List ℕ) → AreRuns v m len at ts → AreRuns v m len end ts
    further [] are = record { apart = tt; free = are.free }
    further (g ∷ ts) are = by_place g ts are (split g end)

-- past a stretch that a run ends
pub counted_with : (v : Room) (m : ℕ → Option (List ℕ)) (len at end runs : ℕ) → IsStretch v m len at end true → IsCountedTo v m len at runs → IsCountedTo v m len end (runs + 1)
counted_with v m len at end runs ends up = record {
  more = λ ts are.
      let so = up.more (first ∷ ts) (with_run v m len at first ts (let a = ends.0 in omega (arith, a)) ends.1 (subst (λ (k : ℕ). AreRuns v m len k ts) (sym whole) are)) in
      (so.0, so.1, let e = so.2 in omega (arith, e));
  most = λ gs are. let so = up.most gs are in further gs so.0 so.1 so.2;
}
  where
    first : ℕ
    first = end - len

    whole : end - len + len ≡ end
    whole = let a = ends.0 in omega (arith, a)

    by_place : (gs : List ℕ) (g : ℕ) (ts : List ℕ) → AreRuns v m len at (g ∷ ts) → length gs ≤ runs + suc (length ts) → (g < end - len) ⊎ (end - len ≤ g) → (us : List ℕ) × AreRuns v m len end us × (length gs ≤ runs + 1 + length us)
    by_place gs g ts are le (inl h) = absurd (ends.2 g (are.apart.0) h (first_run v m len at g ts are))
    by_place gs g ts are le (inr h) = (ts, from_below v m len end (g + len) ts (let a = ends.0 in omega (arith, a, h)) (behind_first v m len at g ts are), omega (arith, le))

    further : (gs ts : List ℕ) → AreRuns v m len at ts → length gs ≤ runs + length ts → (us : List ℕ) × AreRuns v m len end us × (length gs ≤ runs + 1 + length us)
    further gs [] are le = ([], record { apart = tt; free = λ k d h. absurd (omega (arith, h)) }, omega (arith, le))
    further gs (g ∷ ts) are le = by_place gs g ts are le (split g (end - len))

-- what was counted is there
pub counted_runs : (v : Room) (m : ℕ → Option (List ℕ)) (len at runs : ℕ) → IsCountedTo v m len at runs → HasRuns v m len runs
counted_runs v m len at runs up =
    let so = up.more [] (record { apart = tt; free = λ k d h. absurd (omega (arith, h)) }) in
    record { firsts = so.0; runs = so.1; count = let e = so.2 in omega (arith, e) }

-- at the end there are no more
pub counted_all : (v : Room) (m : ℕ → Option (List ℕ)) (len at runs : ℕ) → 1 ≤ len → v.blocks ≤ at → IsCountedTo v m len at runs → NoMoreRuns v m len runs
counted_all v m len at runs some out up gs are = let so = up.most gs are in none so.0 so.1 so.2
  where
    none : (ts : List ℕ) → AreRuns v m len at ts → length gs ≤ runs + length ts → length gs ≤ runs
    none [] are' le = omega (arith, le)
    none (g ∷ ts) are' le = absurd (no_run_over v m len g g (omega arith) (omega (arith, some)) (past v m g (let a = are'.apart.0 in omega (arith, a, out))) (first_run v m len at g ts are'))

-- nothing is free in a stretch
pub none_in : (v : Room) (m : ℕ → Option (List ℕ)) (len at end : ℕ) → 1 ≤ len → ((k : ℕ) → at ≤ k → k < end → is_free v m k ≡ false) → IsStretch v m len at end false
none_in v m len at end some none g low high = no_run_over v m len g g (omega arith) (omega (arith, some)) (none g low high)

-- the first free run, from the first free block on
pub stretch_long : (v : Room) (m : ℕ → Option (List ℕ)) (len at first limit end : ℕ) → 1 ≤ len → at ≤ first → IsLimit v first len limit → first + 1 ≤ end → end ≤ limit → len ≤ end - first
    → ((k : ℕ) → at ≤ k → k < first → is_free v m k ≡ false) → is_free v m first ≡ true → IsNext v m (first + 1) limit false end → IsStretch v m len at end true
stretch_long v m len at first limit end one le lim after upto long before here next =
    let few = lim.few in
    let same : end - len ≡ first = omega (arith, long, few, upto, after) in (
      omega (arith, long, le),
      subst (λ (g : ℕ). IsFreeRun v m g len) (sym same)
          (record {
            one_group = let g = lim.one_group in omega (arith, g, long, upto);
            free = λ k a b. all_free v m first limit end here next k a (omega (arith, b, long));
          }),
      λ g a b. no_run_over v m len g g (omega arith) (omega (arith, one)) (before g a (omega (arith, b, same))),
    )

-- the blocks up to the next one that isn't free are too few
pub stretch_short : (v : Room) (m : ℕ → Option (List ℕ)) (len at first limit end : ℕ) → 0 < v.group_blocks → 1 ≤ len → IsLimit v first len limit → end ≤ limit → end - first < len
    → ((k : ℕ) → at ≤ k → k < first → is_free v m k ≡ false) → IsNext v m (first + 1) limit false end → IsStretch v m len at end false
stretch_short v m len at first limit end some one lim upto short before next g a b = by_place (split g first)
  where
    by_place : (g < first) ⊎ (first ≤ g) → ¬ IsFreeRun v m g len
    by_place (inl h) = no_run_over v m len g g (omega arith) (omega (arith, one)) (before g a h)
    by_place (inr h) = stops v m first len limit end len g some lim upto next h b (omega (arith, short, b, h)) (λ z. omega (arith, z, short))
