-- Free runs while the search goes on.
use Rattle.std.proofs.Common.{◌≡◌, ◌≢◌, ◌≤◌, ◌<◌, ◌+◌, ◌-◌, ◌*◌, ◌/◌, ◌%◌, ℕ, zero, suc, List, Bool, true, false, cond, nat_lt, nat_le, max, Option, refl, sym, ap, ◌∙◌, subst, arith, ◌⊎◌, inl, inr}
use Rattle.std.proofs.Math.Nat.{div-add-mod}
use Rattle.bfs_bitmap.specs.Runs.{Room, is_free, free_count, IsFreeRun, IsNext, NoRunBelow, IsTaken, Fits}
use Rattle.bfs_bitmap.specs.Searches.{IsLimit, IsAnswer, IsAnswerFrom}
use Rattle.bfs_bitmap.specs.Tallies.{place_for}
use Rattle.bfs_bitmap.specs.declared.search.Search.{Search}
use Rattle.bfs_bitmap.specs.declared.search.Search.TheVariants.{Found, Full}
use Rattle.bfs_bitmap.proofs.Looks.{remainder_is}

pub split : (j n : ℕ) → (j < n) ⊎ (n ≤ j)
split j n = grind arith

true_not_false : (b : Bool) → b ≡ true → b ≡ false → ⊥
true_not_false b p q = bad (sym p ∙ q)
  where
    bad : true ≡ false → ⊥
    bad z = cc

-- the volume's end isn't free
pub past : (v : Room) (m : ℕ → Option (List ℕ)) (k : ℕ) → v.blocks ≤ k → is_free v m k ≡ false
past v m k h = let test : nat_lt k v.blocks ≡ false = grind (arith, h) in rw test refl

-- a run that would reach over a block that isn't free
pub no_run_over : (v : Room) (m : ℕ → Option (List ℕ)) (wanted g k : ℕ) → g ≤ k → k < g + wanted → is_free v m k ≡ false → ¬ IsFreeRun v m g wanted
no_run_over v m wanted g k low high not_free run = true_not_false (is_free v m k) (run.free k low high) not_free

-- none begins where nothing is free
pub no_run_on : (v : Room) (m : ℕ → Option (List ℕ)) (wanted from to : ℕ) → 1 ≤ wanted → NoRunBelow v m wanted from → ((k : ℕ) → from ≤ k → k < to → is_free v m k ≡ false) → NoRunBelow v m wanted to
no_run_on v m wanted from to some below none g h = here (split g from)
  where
    here : (g < from) ⊎ (from ≤ g) → ¬ IsFreeRun v m g wanted
    here (inl a) = below g a
    here (inr a) = no_run_over v m wanted g g (omega arith) (omega arith) (none g a h)

-- the blocks from a free one up to the next that isn't
pub all_free : (v : Room) (m : ℕ → Option (List ℕ)) (at limit end : ℕ) → is_free v m at ≡ true → IsNext v m (at + 1) limit false end → (k : ℕ) → at ≤ k → k < end → is_free v m k ≡ true
all_free v m at limit end free next k a b = here (split at k)
  where
    here : (at < k) ⊎ (k ≤ at) → is_free v m k ≡ true
    here (inl h) = next.before k (omega arith) b
    here (inr h) = let e : at ≡ k = omega arith in subst (λ (n : ℕ). is_free v m n ≡ true) e free

-- a place in the group of an earlier one
in_group : (G at g : ℕ) → 0 < G → at ≤ g → at % G + (g - at) < G → g % G ≡ at % G + (g - at)
in_group G at g some le h =
    let e : G * (at / G) + at % G ≡ at = div-add-mod at G in
    let f : g ≡ G * (at / G) + (at % G + (g - at)) = omega (arith, e) in
    ap (λ (n : ℕ). n % G) f ∙ remainder_is G (at / G) (at % G + (g - at)) h

-- what ends a stretch keeps a longer run from beginning in it
pub stops : (v : Room) (m : ℕ → Option (List ℕ)) (at longest limit end n g : ℕ) → 0 < v.group_blocks → IsLimit v at longest limit → end ≤ limit → IsNext v m (at + 1) limit false end → at ≤ g → g < end → end < g + n → (end - at ≡ longest → ⊥) → ¬ IsFreeRun v m g n
stops v m at longest limit end n g some lim inside next low high over short run = by_end (split end limit)
  where
    by_why : end ≡ limit → (limit ≡ v.blocks) ⊎ ((at % v.group_blocks + (limit - at) ≡ v.group_blocks) ⊎ (limit - at ≡ longest)) → ⊥
    by_why e (inl w) = no_run_over v m n g end (omega arith) over (past v m end (omega arith)) run
    by_why e (inr (inl w)) =
        let place : g % v.group_blocks ≡ at % v.group_blocks + (g - at) = in_group v.group_blocks at g some low (omega arith) in
        let one = run.one_group in
        omega (arith, place)
    by_why e (inr (inr w)) = short (omega arith)

    by_end : (end < limit) ⊎ (limit ≤ end) → ⊥
    by_end (inl h) = no_run_over v m n g end (omega arith) over (next.here h) run
    by_end (inr h) = by_why (omega arith) lim.why

-- a stretch that is too short
pub too_short : (v : Room) (m : ℕ → Option (List ℕ)) (wanted longest at limit end : ℕ) → 0 < v.group_blocks → wanted ≤ longest → IsLimit v at longest limit → at + 1 ≤ end → end ≤ limit → IsNext v m (at + 1) limit false end → end - at < wanted → NoRunBelow v m wanted at
    → NoRunBelow v m wanted end
too_short v m wanted longest at limit end some order lim after inside next short below g h = here (split g at)
  where
    here : (g < at) ⊎ (at ≤ g) → ¬ IsFreeRun v m g wanted
    here (inl a) = below g a
    here (inr a) = stops v m at longest limit end wanted g some lim inside next a h (omega arith) (λ e. omega arith)

-- a stretch that is long enough
pub long_enough : (v : Room) (m : ℕ → Option (List ℕ)) (wanted longest at limit end : ℕ) → 0 < v.group_blocks → IsLimit v at longest limit → at + 1 ≤ end → end ≤ limit → is_free v m at ≡ true → IsNext v m (at + 1) limit false end → NoRunBelow v m wanted at
    → IsTaken v m wanted longest at (end - at)
long_enough v m wanted longest at limit end some lim after inside free next below = record {
  free = record { one_group = let one = lim.one_group in omega arith; free = λ k a b. all_free v m at limit end free next k a (omega arith) };
  lowest = below;
  whole = by_len (same (end - at) longest);
}
  where
    same : (j n : ℕ) → (j ≡ n) ⊎ (j ≢ n)
    same j n = grind arith

    by_len : (end - at ≡ longest) ⊎ (end - at ≢ longest) → (end - at ≡ longest) ⊎ (¬ IsFreeRun v m at (end - at + 1))
    by_len (inl e) = inl e
    by_len (inr ne) = inr (stops v m at longest limit end (end - at + 1) at some lim inside next (omega arith) (omega arith) (omega arith) ne)

-- counts
count_on : (v : Room) (m : ℕ → Option (List ℕ)) (from n : ℕ) → ((k : ℕ) → from ≤ k → k < from + n → is_free v m k ≡ true) → free_count v m (from + n) ≡ free_count v m from + n
count_on v m from zero free = let e : from + 0 ≡ from = omega arith in ap (free_count v m) e ∙ omega arith
count_on v m from (suc n) free =
    let e : from + suc n ≡ suc (from + n) = omega arith in
    let here : is_free v m (from + n) ≡ true = free (from + n) (omega arith) (omega arith) in
    let ih : free_count v m (from + n) ≡ free_count v m from + n = count_on v m from n (λ k a b. free k a (omega arith)) in
    let step : free_count v m (suc (from + n)) ≡ 1 + free_count v m (from + n) = ap (λ (t : Bool). cond t 1 0 + free_count v m (from + n)) here in
    ap (free_count v m) e ∙ step ∙ omega (arith, ih)

none_on : (v : Room) (m : ℕ → Option (List ℕ)) (from n : ℕ) → ((k : ℕ) → from ≤ k → k < from + n → is_free v m k ≡ false) → free_count v m (from + n) ≡ free_count v m from
none_on v m from zero none = let e : from + 0 ≡ from = omega arith in ap (free_count v m) e
none_on v m from (suc n) none =
    let e : from + suc n ≡ suc (from + n) = omega arith in
    let here : is_free v m (from + n) ≡ false = none (from + n) (omega arith) (omega arith) in
    let ih : free_count v m (from + n) ≡ free_count v m from = none_on v m from n (λ k a b. none k a (omega arith)) in
    let step : free_count v m (suc (from + n)) ≡ free_count v m (from + n) = ap (λ (t : Bool). cond t 1 0 + free_count v m (from + n)) here ∙ omega arith in
    ap (free_count v m) e ∙ step ∙ ih

pub counted : (v : Room) (m : ℕ → Option (List ℕ)) (from to : ℕ) → from ≤ to → ((k : ℕ) → from ≤ k → k < to → is_free v m k ≡ true) → free_count v m to ≡ free_count v m from + (to - from)
counted v m from to le free = let e : from + (to - from) ≡ to = omega arith in ap (free_count v m) (sym e) ∙ count_on v m from (to - from) (λ k a b. free k a (omega arith))

pub not_counted : (v : Room) (m : ℕ → Option (List ℕ)) (from to : ℕ) → from ≤ to → ((k : ℕ) → from ≤ k → k < to → is_free v m k ≡ false) → free_count v m to ≡ free_count v m from
not_counted v m from to le none = let e : from + (to - from) ≡ to = omega arith in ap (free_count v m) (sym e) ∙ none_on v m from (to - from) (λ k a b. none k a (omega arith))

-- what is known at a place that the search has come to
pub record IsUpTo (v : Room) (m : ℕ → Option (List ℕ)) (start wanted low at free : ℕ) : Type 0 where
  pub nothing : (k : ℕ) → start ≤ k → k < low → is_free v m k ≡ false
  pub here : at < v.blocks → is_free v m at ≡ true
  pub none : NoRunBelow v m wanted at
  pub count : free_count v m start + free ≡ free_count v m at

-- at the beginning
pub up_to_first : (v : Room) (m : ℕ → Option (List ℕ)) (start wanted low : ℕ) → 1 ≤ wanted → NoRunBelow v m wanted start → start ≤ low → IsNext v m start v.blocks true low → IsUpTo v m start wanted low low 0
up_to_first v m start wanted low some below le next = record {
  nothing = next.before;
  here = next.here;
  none = no_run_on v m wanted start low some below next.before;
  count = let e : free_count v m low ≡ free_count v m start = not_counted v m start low le next.before in omega (arith, e);
}

-- past a stretch that is too short
pub up_to_next : (v : Room) (m : ℕ → Option (List ℕ)) (start wanted longest low at free limit end next_at : ℕ) → 0 < v.group_blocks → 1 ≤ wanted → wanted ≤ longest → at < v.blocks → IsLimit v at longest limit → at + 1 ≤ end → end ≤ limit → end ≤ next_at → end - at < wanted
    → IsUpTo v m start wanted low at free → IsNext v m (at + 1) limit false end → IsNext v m end v.blocks true next_at → IsUpTo v m start wanted low next_at (free + (end - at))
up_to_next v m start wanted longest low at free limit end next_at some one order inside lim after up le short so_far first second = record {
  nothing = so_far.nothing;
  here = second.here;
  none = no_run_on v m wanted end next_at one (too_short v m wanted longest at limit end some order lim after up first short so_far.none) second.before;
  count =
      let mid : free_count v m end ≡ free_count v m at + (end - at) = counted v m at end (omega arith) (all_free v m at limit end (so_far.here inside) first) in
      let all : free_count v m next_at ≡ free_count v m end = not_counted v m end next_at le second.before in
      let now = so_far.count in
      omega (arith, mid, all, now);
}

pub nothing_left : (v : Room) (m : ℕ → Option (List ℕ)) (start wanted longest low at free : ℕ) → 1 ≤ wanted → at ≡ v.blocks → IsUpTo v m start wanted low at free → IsAnswerFrom v m start wanted longest (Full free)
nothing_left v m start wanted longest low at free some e up = (λ g. here g (split g at), up.count ∙ ap (free_count v m) e)
  where
    here : (g : ℕ) → (g < at) ⊎ (at ≤ g) → ¬ IsFreeRun v m g wanted
    here g (inl h) = up.none g h
    here g (inr h) = no_run_over v m wanted g g (omega arith) (omega arith) (past v m g (omega arith))

-- nothing is free below the lowest block, so a search from there on has seen all
pub answer_low : (v : Room) (m : ℕ → Option (List ℕ)) (start wanted longest : ℕ) (s : Search) → start ≡ v.tally.low → Fits v m → IsAnswerFrom v m start wanted longest s → IsAnswer v m wanted longest s
answer_low v m start wanted longest (Found first len low) e fits answer = (answer.0, λ k h. by_place k h (split k v.tally.low))
  where
    by_place : (k : ℕ) → k < low → (k < v.tally.low) ⊎ (v.tally.low ≤ k) → is_free v m k ≡ false
    by_place k h (inl a) = fits.nothing_below k a
    by_place k h (inr a) = answer.1 k (omega (arith, a, e)) h
answer_low v m start wanted longest (Full free) e fits answer = record {
  none = answer.0;
  count =
      let none : free_count v m start ≡ 0 = not_counted v m 0 start (omega arith) (λ k a b. fits.nothing_below k (omega (arith, b, e))) in
      let all = answer.1 in
      omega (arith, none, all);
}

-- a search that began further up
pub answer_up : (v : Room) (m : ℕ → Option (List ℕ)) (start wanted longest first len low low' : ℕ) → low' ≡ v.tally.low → Fits v m → IsAnswerFrom v m start wanted longest (Found first len low) → IsAnswer v m wanted longest (Found first len low')
answer_up v m start wanted longest first len low low' e fits answer = (answer.0, λ k h. fits.nothing_below k (omega (arith, h, e)))

-- where it may begin
pub place_ok : (v : Room) (m : ℕ → Option (List ℕ)) (wanted start : ℕ) → 1 ≤ wanted → start ≡ place_for wanted v.tally → Fits v m → NoRunBelow v m wanted start
place_ok v m wanted start some e fits = subst (NoRunBelow v m wanted) (sym e) (by_test (nat_le v.tally.wide wanted) refl)
  where
    by_place : v.tally.wide ≤ wanted → (g : ℕ) → g < max v.tally.low v.tally.wide_low → (g < v.tally.low) ⊎ (v.tally.low ≤ g) → ¬ IsFreeRun v m g wanted
    by_place le g h (inl a) = no_run_over v m wanted g g (omega arith) (omega arith) (fits.nothing_below g a)
    by_place le g h (inr a) =
        let there : g < v.tally.wide_low = omega (arith, h, a) in
        λ run. fits.no_wide g there (record { one_group = let one = run.one_group in omega (arith, one, le); free = λ k low high. run.free k low (omega (arith, high, le)) })

    by_test : (t : Bool) → nat_le v.tally.wide wanted ≡ t → NoRunBelow v m wanted (cond t (max v.tally.low v.tally.wide_low) v.tally.low)
    by_test true is g h = let le : v.tally.wide ≤ wanted = grind (arith, is) in by_place le g h (split g v.tally.low)
    by_test false is g h = no_run_over v m wanted g g (omega arith) (omega arith) (fits.nothing_below g h)

pub below_low : (v : Room) (m : ℕ → Option (List ℕ)) (wanted start : ℕ) → 1 ≤ wanted → start ≡ v.tally.low → Fits v m → NoRunBelow v m wanted start
below_low v m wanted start some e fits g h = no_run_over v m wanted g g (omega arith) (omega arith) (fits.nothing_below g (omega (arith, h, e)))

pub next_at : (v : Room) (m : ℕ → Option (List ℕ)) (from to from' to' : ℕ) (clear : Bool) (at : ℕ) → from ≡ from' → to ≡ to' → IsNext v m from to clear at → IsNext v m from' to' clear at
next_at v m from to from' to' clear at e f next = subst (λ (n : ℕ). IsNext v m n to' clear at) e (subst (λ (n : ℕ). IsNext v m from n clear at) f next)
