-- Counts of blocks before and after bits were set or cleared.
use Rattle.std.proofs.Common.{◌≡◌, ◌≤◌, ◌<◌, ◌+◌, ◌-◌, ◌%◌, ℕ, zero, suc, List, [], ◌∷◌, length, Bool, true, false, not, cond, ◌&&◌, ◌==◌, nat_lt, nat_le, min, Option, refl, sym, ap, ◌∙◌, subst, arith, ◌⊎◌, inl, inr}
use Rattle.std.specs.Prelude.{All}
use Rattle.bfs_bitmap.specs.declared.given.Given.{Given}
use Rattle.bfs_bitmap.specs.Tallies.{raised}
use Rattle.bfs_bitmap.specs.Bits.{in_run}
use Rattle.bfs_bitmap.specs.Fills.{IsTold}
use Rattle.bfs_bitmap.specs.Runs.{Room, marked, is_reserved, is_free, free_count, marked_count, IsCounted, AreUsed, IsFreeRun, NoRunBelow, LosesFree, Marks, Fits, IsMarked, AreFrom, per_block}
use Rattle.bfs_bitmap.proofs.Marked.{in_it, below_it, above_it}
use Rattle.bfs_bitmap.proofs.Back.{no_run_kept, is_not, not_both, split, test_of}

-- how many of the numbers below one pass
abbrev count : (ℕ → Bool) → ℕ → ℕ
count p zero = 0
count p (suc k) = cond (p k) 1 0 + count p k

free_is : (v : Room) (m : ℕ → Option (List ℕ)) (n : ℕ) → free_count v m n ≡ count (is_free v m) n
free_is v m zero = refl
free_is v m (suc n) = ap (λ (c : ℕ). cond (is_free v m n) 1 0 + c) (free_is v m n)

used_at : Room → (ℕ → Option (List ℕ)) → ℕ → Bool
used_at v m k = not (marked (per_block v) m k == 0)

marked_is : (v : Room) (m : ℕ → Option (List ℕ)) (n : ℕ) → marked_count v m n ≡ count (used_at v m) n
unfolding used_at
marked_is v m zero = refl
marked_is v m (suc n) = ap (λ (c : ℕ). cond (marked (per_block v) m n == 0) 0 1 + c) (marked_is v m n) ∙ by_test (marked (per_block v) m n == 0)
  where
    by_test : (t : Bool) → cond t 0 1 + count (used_at v m) n ≡ cond (not t) 1 0 + count (used_at v m) n
    by_test true = refl
    by_test false = refl

count_le : (p : ℕ → Bool) (n : ℕ) → count p n ≤ n
count_le p zero = omega arith
count_le p (suc n) = by_test (p n) (count_le p n)
  where
    by_test : (t : Bool) → count p n ≤ n → cond t 1 0 + count p n ≤ suc n
    by_test true h = omega (arith, h)
    by_test false h = omega (arith, h)

-- the numbers between two places pass both tests alike
count_same : (p q : ℕ → Bool) (from n c : ℕ) → count q from ≡ count p from + c → ((k : ℕ) → from ≤ k → k < from + n → q k ≡ p k) → count q (from + n) ≡ count p (from + n) + c
count_same p q from zero c e same = let z : from + 0 ≡ from = omega arith in ap (count q) z ∙ e ∙ ap (λ (k : ℕ). count p k + c) (sym z)
count_same p q from (suc n) c e same =
    let z : from + suc n ≡ suc (from + n) = omega arith in
    let rest : count q (from + n) ≡ count p (from + n) + c = count_same p q from n c e (λ k a b. same k a (omega arith)) in
    let here : q (from + n) ≡ p (from + n) = same (from + n) (omega arith) (omega arith) in
    let step : count q (suc (from + n)) ≡ cond (p (from + n)) 1 0 + count q (from + n) = ap (λ (t : Bool). cond t 1 0 + count q (from + n)) here in
    ap (count q) z ∙ step ∙ by_test (p (from + n)) rest ∙ ap (λ (k : ℕ). count p k + c) (sym z)
  where
    by_test : (t : Bool) → count q (from + n) ≡ count p (from + n) + c → cond t 1 0 + count q (from + n) ≡ (cond t 1 0 + count p (from + n)) + c
    by_test true h = omega (arith, h)
    by_test false h = omega (arith, h)

-- they pass the second alone
count_more : (p q : ℕ → Bool) (from n : ℕ) → count q from ≡ count p from + 0 → ((k : ℕ) → from ≤ k → k < from + n → (p k ≡ false) × (q k ≡ true)) → count q (from + n) ≡ count p (from + n) + n
count_more p q from zero e new = let z : from + 0 ≡ from = omega arith in ap (count q) z ∙ e ∙ ap (λ (k : ℕ). count p k + 0) (sym z)
count_more p q from (suc n) e new =
    let z : from + suc n ≡ suc (from + n) = omega arith in
    let rest : count q (from + n) ≡ count p (from + n) + n = count_more p q from n e (λ k a b. new k a (omega arith)) in
    let here = new (from + n) (omega arith) (omega arith) in
    let step_q : count q (suc (from + n)) ≡ 1 + count q (from + n) = ap (λ (t : Bool). cond t 1 0 + count q (from + n)) here.1 in
    let step_p : count p (suc (from + n)) ≡ 0 + count p (from + n) = ap (λ (t : Bool). cond t 1 0 + count p (from + n)) here.0 in
    let total : count q (suc (from + n)) ≡ count p (suc (from + n)) + suc n = omega (arith, rest, step_q, step_p) in
    ap (count q) z ∙ total ∙ ap (λ (k : ℕ). count p k + suc n) (sym z)

-- those of a run pass the second test alone, and all others both alike
count_run : (p q : ℕ → Bool) (first len n : ℕ) → first + len ≤ n → ((k : ℕ) → k < n → in_run first len k ≡ false → q k ≡ p k) → ((k : ℕ) → first ≤ k → k < first + len → (p k ≡ false) × (q k ≡ true)) → count q n ≡ count p n + len
count_run p q first len n inside same new =
    let below : count q (0 + first) ≡ count p (0 + first) + 0 = count_same p q 0 first 0 refl (λ k a b. same k (omega arith) (below_it first len k (omega arith))) in
    let z : 0 + first ≡ first = omega arith in
    let start : count q first ≡ count p first + 0 = ap (count q) (sym z) ∙ below ∙ ap (λ (k : ℕ). count p k + 0) z in
    let run : count q (first + len) ≡ count p (first + len) + len = count_more p q first len start new in
    let above : count q (first + len + (n - (first + len))) ≡ count p (first + len + (n - (first + len))) + len = count_same p q (first + len) (n - (first + len)) len run (λ k a b. same k (omega arith) (above_it first len k a)) in
    let end : first + len + (n - (first + len)) ≡ n = omega arith in
    ap (count q) (sym end) ∙ above ∙ ap (λ (k : ℕ). count p k + len) end

true_and : (a b : Bool) → (a && b) ≡ true → (a ≡ true) × (b ≡ true)
true_and true true e = (refl, refl)
true_and true false e = absurd (not_both false e refl)
true_and false b e = absurd (not_both false e refl)

run_ends : (first len k : ℕ) → in_run first len k ≡ true → (first ≤ k) × (k < first + len)
run_ends first len k t = let both = true_and (nat_le first k) (nat_lt k (first + len)) t in let a = both.0 in let b = both.1 in (low a, high b)
  where
    low : nat_le first k ≡ true → first ≤ k
    low e = grind (arith, e)

    high : nat_lt k (first + len) ≡ true → k < first + len
    high e = grind (arith, e)

-- a free block has no bit
free_unmarked : (v : Room) (m : ℕ → Option (List ℕ)) (k : ℕ) → is_free v m k ≡ true → (marked (per_block v) m k == 0) ≡ true
free_unmarked v m k t = (true_and (marked (per_block v) m k == 0) (not (is_reserved v.given k)) (true_and (nat_lt k v.blocks) ((marked (per_block v) m k == 0) && not (is_reserved v.given k)) t).1).0

module _ (v : Room) (m map : ℕ → Option (List ℕ)) (first len : ℕ) (marks : Marks v first len 1 m map) where
  -- a block of a run that was taken isn't free
  run_used : (k : ℕ) → first ≤ k → k < first + len → is_free v map k ≡ false
  run_used k a b = by_place (nat_lt k v.blocks) refl
    where
      by_place : (t : Bool) → nat_lt k v.blocks ≡ t → (t && ((marked (per_block v) map k == 0) && not (is_reserved v.given k))) ≡ false
      by_place false e = refl
      by_place true e = ap (λ (n : ℕ). (n == 0) && not (is_reserved v.given k)) (marks.marks k (grind (arith, e)) ∙ ap (λ (t : Bool). cond t 1 (marked (per_block v) m k)) (in_it first len k a b))

  -- another one is as it was
  others_same : (k : ℕ) → in_run first len k ≡ false → is_free v map k ≡ is_free v m k
  others_same k out = by_place (nat_lt k v.blocks) refl
    where
      by_place : (t : Bool) → nat_lt k v.blocks ≡ t → (t && ((marked (per_block v) map k == 0) && not (is_reserved v.given k))) ≡ (t && ((marked (per_block v) m k == 0) && not (is_reserved v.given k)))
      by_place false e = refl
      by_place true e = ap (λ (n : ℕ). (n == 0) && not (is_reserved v.given k)) (marks.marks k (grind (arith, e)) ∙ ap (λ (t : Bool). cond t 1 (marked (per_block v) m k)) out)

  less_free : (k : ℕ) → is_free v map k ≡ true → is_free v m k ≡ true
  less_free k t = by_run (test_of (in_run first len k))
    where
      by_run : (in_run first len k ≡ true) ⊎ (in_run first len k ≡ false) → is_free v m k ≡ true
      by_run (inl e) = let h = run_ends first len k e in absurd (not_both (is_free v map k) t (run_used k h.0 h.1))
      by_run (inr e) = sym (others_same k e) ∙ t

  -- so many blocks fewer are free
  free_less : first + len ≤ v.blocks → IsFreeRun v m first len → LosesFree v v len m map
  free_less inside run =
      ap (λ (n : ℕ). n + len) (free_is v map v.blocks)
      ∙ sym (count_run (is_free v map) (is_free v m) first len v.blocks inside (λ k h out. sym (others_same k out)) (λ k a b. (run_used k a b, run.free k a b)))
      ∙ sym (free_is v m v.blocks)

  -- and so many more are used
  used_more : first + len ≤ v.blocks → IsFreeRun v m first len → marked_count v map v.blocks ≡ marked_count v m v.blocks + len
  unfolding used_at
  used_more inside run =
      marked_is v map v.blocks
      ∙ count_run (used_at v m) (used_at v map) first len v.blocks inside
      (λ k h out. ap (λ (n : ℕ). not (n == 0)) (marks.marks k h ∙ ap (λ (t : Bool). cond t 1 (marked (per_block v) m k)) out))
      (λ k a b. (
        ap not (free_unmarked v m k (run.free k a b)),
        ap (λ (n : ℕ). not (n == 0)) (marks.marks k (omega (arith, inside, b)) ∙ ap (λ (t : Bool). cond t 1 (marked (per_block v) m k)) (in_it first len k a b)),
      ))
      ∙ ap (λ (n : ℕ). n + len) (sym (marked_is v m v.blocks))

  counted_now : first + len ≤ v.blocks → IsFreeRun v m first len → IsCounted v m → min (v.tally.used + len) v.blocks ≡ marked_count v map v.blocks
  counted_now inside run counted =
      let more = used_more inside run in
      let few : marked_count v map v.blocks ≤ v.blocks = subst (λ (n : ℕ). n ≤ v.blocks) (sym (marked_is v map v.blocks)) (count_le (used_at v map) v.blocks) in
      omega (arith, more, few, counted)

  fits_taken : (wanted low : ℕ) (w : Room) → w ≡ record v { tally = raised wanted first len low v.blocks v.tally } → Fits v m → ((k : ℕ) → k < low → is_free v m k ≡ false) → NoRunBelow v m wanted first → Fits w map
  fits_taken wanted low w is fits nothing none = subst (λ (r : Room). Fits r map) (sym is) (record {
    has = record { told = marks.has.told };
    nothing_below = λ k h. by_low (low == first) refl k h;
    no_wide = by_wide (nat_lt 1 wanted) refl;
  })
    where
      still : (k : ℕ) → is_free v m k ≡ false → is_free v map k ≡ false
      still k e = is_not (is_free v map k) (λ t. not_both (is_free v m k) (less_free k t) e)

      by_place : (k : ℕ) → low ≡ first → k < first + len → (k < first) ⊎ (first ≤ k) → is_free v map k ≡ false
      by_place k e h (inl a) = still k (nothing k (omega (arith, a, e)))
      by_place k e h (inr a) = run_used k a h

      by_low : (t : Bool) → (low == first) ≡ t → (k : ℕ) → k < cond t (first + len) low → is_free v map k ≡ false
      by_low true e k h = by_place k (grind (arith, e)) h (split k first)
      by_low false e k h = still k (nothing k h)

      by_start : (g : ℕ) → 1 < wanted → g < first + len → (g < first) ⊎ (first ≤ g) → ¬ IsFreeRun (record v { tally = raised wanted first len low v.blocks v.tally }) map g wanted
      by_start g some h (inl a) = no_run_kept v (record v { tally = raised wanted first len low v.blocks v.tally }) m map wanted first refl less_free none g a
      by_start g some h (inr a) = λ run. not_both (is_free v map g) (run.free g (omega arith) (omega (arith, some))) (run_used g a h)

      by_wide : (t : Bool) → nat_lt 1 wanted ≡ t → NoRunBelow (record v { tally = raised wanted first len low v.blocks v.tally }) map (cond t wanted v.tally.wide) (cond t (first + len) v.tally.wide_low)
      by_wide true e = λ g h. by_start g (grind (arith, e)) h (split g first)
      by_wide false e = no_run_kept v (record v { tally = raised wanted first len low v.blocks v.tally }) m map v.tally.wide v.tally.wide_low refl less_free fits.no_wide

pub took : (v w : Room) (m : ℕ → Option (List ℕ)) (told : Option (ℕ → Option (List ℕ))) (wanted first len low : ℕ) → w ≡ record v { tally = raised wanted first len low v.blocks v.tally } → Fits v m → ((k : ℕ) → k < low → is_free v m k ≡ false) → NoRunBelow v m wanted first
    → IsTold (Marks v first len 1 m) told → IsMarked v w first len 1 m told
took v w m told wanted first len low e fits nothing none all = record {
  map = all.0;
  is = all.1;
  marks = all.2;
  fits = fits_taken v m all.0 first len all.2 wanted low w e fits nothing none;
}

pub took_counted : (v w : Room) (m : ℕ → Option (List ℕ)) (told : Option (ℕ → Option (List ℕ))) (wanted first len low : ℕ) → w ≡ record v { tally = raised wanted first len low v.blocks v.tally } → first + len ≤ v.blocks → IsFreeRun v m first len → IsCounted v m
    → IsTold (Marks v first len 1 m) told → IsTold (IsCounted w) told
took_counted v w m told wanted first len low e inside run counted all = (all.0, all.1, subst (λ (r : Room). IsCounted r all.0) (sym e) (counted_now v m all.0 first len all.2 inside run counted))

pub took_free : (v w : Room) (m : ℕ → Option (List ℕ)) (told : Option (ℕ → Option (List ℕ))) (wanted first len low : ℕ) → w ≡ record v { tally = raised wanted first len low v.blocks v.tally } → first + len ≤ v.blocks → IsFreeRun v m first len → IsTold (Marks v first len 1 m) told
    → IsTold (LosesFree v w len m) told
took_free v w m told wanted first len low e inside run all = (all.0, all.1, subst (λ (r : Room). LosesFree v r len m all.0) (sym e) (free_less v m all.0 first len all.2 inside run))

-- where a run that was used is given back, so many blocks fewer are used
pub gave_counted : (v w : Room) (m : ℕ → Option (List ℕ)) (told : Option (ℕ → Option (List ℕ))) (first len : ℕ) (gs : List Given) → w ≡ record v { given = gs; tally = record v.tally { used = v.tally.used - len } } → first + len ≤ v.blocks → AreUsed v m first len → IsCounted v m
    → IsTold (Marks v first len 0 m) told → IsTold (IsCounted w) told
unfolding used_at
gave_counted v w m told first len gs e inside used counted all = (all.0, all.1, subst (λ (r : Room). IsCounted r all.0) (sym e) now)
  where
    now : v.tally.used - len ≡ marked_count v all.0 v.blocks
    now =
        let less : marked_count v m v.blocks ≡ marked_count v all.0 v.blocks + len =
        marked_is v m v.blocks
        ∙ count_run (used_at v all.0) (used_at v m) first len v.blocks inside
        (λ k h out. sym (ap (λ (n : ℕ). not (n == 0)) (all.2.marks k h ∙ ap (λ (t : Bool). cond t 0 (marked (per_block v) m k)) out)))
        (λ k a b. (
          ap (λ (n : ℕ). not (n == 0)) (all.2.marks k (omega (arith, inside, b)) ∙ ap (λ (t : Bool). cond t 0 (marked (per_block v) m k)) (in_it first len k a b)),
          ap (λ (n : ℕ). not (n == 0)) (used k a b),
        ))
        ∙ ap (λ (n : ℕ). n + len) (sym (marked_is v all.0 v.blocks)) in
        omega (arith, less, counted)

-- the first blocks of a run are free, or one of the run isn't
abbrev Looked : Room → (ℕ → Option (List ℕ)) → ℕ → ℕ → ℕ → Type 0
Looked w map g n i = ((k : ℕ) → g ≤ k → k < g + i → is_free w map k ≡ true) ⊎ ((k : ℕ) × (g ≤ k) × (k < g + n) × (is_free w map k ≡ false))

-- a run that isn't free any more has lost a block
lost_block : (v w : Room) (m map : ℕ → Option (List ℕ)) (g n : ℕ) → w.group_blocks ≡ v.group_blocks → IsFreeRun v m g n → ¬ IsFreeRun w map g n → (k : ℕ) × (g ≤ k) × (k < g + n) × (is_free w map k ≡ false)
lost_block v w m map g n same run gone = by_look (look n (omega arith))
  where
    step : (i : ℕ) → suc i ≤ n → Looked w map g n i → (is_free w map (g + i) ≡ true) ⊎ (is_free w map (g + i) ≡ false) → Looked w map g n (suc i)
    step i h (inr found) t = inr found
    step i h (inl all) (inr e) = inr (g + i, omega arith, omega arith, e)
    step i h (inl all) (inl e) = inl (λ k a b. by_place k a b (split k (g + i)))
      where
        by_place : (k : ℕ) → g ≤ k → k < g + suc i → (k < g + i) ⊎ (g + i ≤ k) → is_free w map k ≡ true
        by_place k a b (inl c) = all k a c
        by_place k a b (inr c) = let z : g + i ≡ k = omega arith in subst (λ (j : ℕ). is_free w map j ≡ true) z e

    look : (i : ℕ) → i ≤ n → Looked w map g n i
    look zero h = inl (λ k a b. absurd (omega arith))
    look (suc i) h = step i h (look i (omega arith)) (test_of (is_free w map (g + i)))

    by_look : Looked w map g n n → (k : ℕ) × (g ≤ k) × (k < g + n) × (is_free w map k ≡ false)
    by_look (inr found) = found
    by_look (inl all) = absurd (gone (record { one_group = subst (λ (b : ℕ). g % b + n ≤ b) (sym same) run.one_group; free = all }))

-- where the second test passes less, its count grows no faster
count_slow : (p q : ℕ → Bool) (from n : ℕ) → ((k : ℕ) → q k ≡ true → p k ≡ true) → count q (from + n) + count p from ≤ count p (from + n) + count q from
count_slow p q from zero less = let z : from + 0 ≡ from = omega arith in subst (λ (k : ℕ). count q k + count p from ≤ count p k + count q from) (sym z) (omega arith)
count_slow p q from (suc n) less =
    let z : from + suc n ≡ suc (from + n) = omega arith in
    subst (λ (k : ℕ). count q k + count p from ≤ count p k + count q from) (sym z) (by_test (q (from + n)) (p (from + n)) (less (from + n)) (count_slow p q from n less))
  where
    by_test : (a b : Bool) → (a ≡ true → b ≡ true) → count q (from + n) + count p from ≤ count p (from + n) + count q from → (cond a 1 0 + count q (from + n)) + count p from ≤ (cond b 1 0 + count p (from + n)) + count q from
    by_test true true f h = omega (arith, h)
    by_test true false f h = absurd (not_both false (f refl) refl)
    by_test false true f h = omega (arith, h)
    by_test false false f h = omega (arith, h)

slow_to : (p q : ℕ → Bool) (from to : ℕ) → from ≤ to → ((k : ℕ) → q k ≡ true → p k ≡ true) → count q to + count p from ≤ count p to + count q from
slow_to p q from to le less = let z : from + (to - from) ≡ to = omega arith in subst (λ (k : ℕ). count q k + count p from ≤ count p k + count q from) z (count_slow p q from (to - from) less)

slow_over : (p q : ℕ → Bool) (from k to : ℕ) → from ≤ k → k < to → p k ≡ true → q k ≡ false → ((j : ℕ) → q j ≡ true → p j ≡ true) → count q to + count p from + 1 ≤ count p to + count q from
slow_over p q from k to low high yes_p no_q less =
    let one = slow_to p q from k low less in
    let two = slow_to p q (suc k) to (omega arith) less in
    let at_p : count p (suc k) ≡ 1 + count p k = ap (λ (t : Bool). cond t 1 0 + count p k) yes_p in
    let at_q : count q (suc k) ≡ 0 + count q k = ap (λ (t : Bool). cond t 1 0 + count q k) no_q in
    omega (arith, one, two, at_p, at_q)

pub few_runs : (v w : Room) (m map : ℕ → Option (List ℕ)) (len from : ℕ) (gs : List ℕ) → 1 ≤ len → w.group_blocks ≡ v.group_blocks → ((k : ℕ) → is_free w map k ≡ true → is_free v m k ≡ true) → ((g : ℕ) → ¬ IsFreeRun w map g len) → from ≤ v.blocks → AreFrom len from gs → All (λ g. IsFreeRun v m g len) gs
    → length gs + (count (is_free w map) v.blocks + count (is_free v m) from) ≤ count (is_free v m) v.blocks + count (is_free w map) from
few_runs v w m map len from [] some same less gone inside apart free = let z = slow_to (is_free v m) (is_free w map) from v.blocks inside less in omega (arith, z)
few_runs v w m map len from (g ∷ gs) some same less gone inside apart free =
    let run : IsFreeRun v m g len = free 0 0 (omega arith) in
    let lost = lost_block v w m map g len same run (gone g) in
    let last : is_free v m (g + len - 1) ≡ true = run.free (g + len - 1) (omega arith) (omega arith) in
    let end : g + len ≤ v.blocks = by_end (split (g + len - 1) v.blocks) last in
    let rest = few_runs v w m map len (g + len) gs some same less gone end apart.1 (λ k d h. free (suc k) d (omega arith)) in
    let here = slow_over (is_free v m) (is_free w map) from lost.0 (g + len) (let a = apart.0 in let b = lost.1 in omega (arith, a, b)) lost.2 (run.free lost.0 lost.1 lost.2) lost.3 less in
    omega (arith, rest, here)
  where
    by_end : (g + len - 1 < v.blocks) ⊎ (v.blocks ≤ g + len - 1) → is_free v m (g + len - 1) ≡ true → g + len ≤ v.blocks
    by_end (inl h) t = omega (arith, h, some)
    by_end (inr h) t = absurd (not_both (is_free v m (g + len - 1)) t (let test : nat_lt (g + len - 1) v.blocks ≡ false = grind (arith, h) in rw test refl))

pub few_runs_lost : (v w : Room) (m map : ℕ → Option (List ℕ)) (len : ℕ) (gs : List ℕ) → 1 ≤ len → w.group_blocks ≡ v.group_blocks → ((k : ℕ) → is_free w map k ≡ true → is_free v m k ≡ true) → ((g : ℕ) → ¬ IsFreeRun w map g len) → AreFrom len 0 gs → All (λ g. IsFreeRun v m g len) gs
    → length gs + free_count w map v.blocks ≤ free_count v m v.blocks
few_runs_lost v w m map len gs some same less gone apart free =
    let all = few_runs v w m map len 0 gs some same less gone (omega arith) apart free in
    let a = free_is v m v.blocks in
    let b = free_is w map v.blocks in
    omega (arith, all, a, b)
