-- What claims are after a run was claimed.
use Rattle.std.proofs.Common.{◌≡◌, ◌≤◌, ◌<◌, ◌+◌, ◌-◌, ◌/◌, ◌%◌, ℕ, zero, suc, List, [], ◌∷◌, ◌++◌, length, Bool, true, false, not, cond, ◌&&◌, ◌||◌, ◌==◌, nat_le, nat_lt, refl, sym, ap, ◌∙◌, arith, length-append, get_or, replicate, ◌⊎◌, inl, inr, subst}
use Rattle.std.specs.Int.{bit_at}
use Rattle.std.proofs.lemmas.Nat.Bits.{bit_at-zero}
use Rattle.std.proofs.lemmas.List.{get_or-replicate, get_or_past, length-replicate}
use Rattle.bfs_base.specs.Lists.{times, counted_from, Has}
use Rattle.bfs_bitmap.specs.Bits.{bit_of, is_clear, in_run, Fills}
use Rattle.bfs_claims.specs.Claims.{Claimed, is_claimed, claimed_below, IsKept, AreClaimed}

pub times_append : (k : ℕ) (xs ys : List ℕ) → times k (xs ++ ys) ≡ times k xs + times k ys
times_append k [] ys = grind arith
times_append k (x ∷ xs) ys = let rest = times_append k xs ys in omega (arith, rest)

joined : (k first n : ℕ) → cond (first == k) 1 0 + cond (nat_le (suc first) k && nat_lt k (suc first + n)) 1 0 ≡ cond (nat_le first k && nat_lt k (first + suc n)) 1 0
joined k first n = grind arith

-- a run's blocks are each there once
pub times_run : (k first n : ℕ) → times k (counted_from first n) ≡ cond (in_run first n k) 1 0
times_run k first zero = let none : (nat_le first k && nat_lt k (first + 0)) ≡ false = grind arith in ap (λ (b : Bool). cond b 1 0) (sym none)
times_run k first (suc n) = ap (λ (m : ℕ). cond (first == k) 1 0 + m) (times_run k (suc first) n) ∙ joined k first n

pub length_run : (first n : ℕ) → length (counted_from first n) ≡ n
length_run first zero = refl
length_run first (suc n) = ap suc (length_run (suc first) n)

pub below_few : (bits : List ℕ) (n : ℕ) → claimed_below bits n ≤ n
below_few bits zero = omega arith
below_few bits (suc n) = by_test (is_clear bits n) (below_few bits n)
  where
    by_test : (b : Bool) → claimed_below bits n ≤ n → cond b 0 1 + claimed_below bits n ≤ suc n
    by_test true h = omega (arith, h)
    by_test false h = omega (arith, h)

-- of a run so many blocks stand below a number
below : ℕ → ℕ → ℕ → ℕ
below first len zero = 0
below first len (suc k) = cond (in_run first len k) 1 0 + below first len k

one_more : (first len n m : ℕ) → m ≡ n - first - (n - (first + len)) → cond (in_run first len n) 1 0 + m ≡ suc n - first - (suc n - (first + len))
one_more first len n m e = grind (arith, e)

below_is : (first len n : ℕ) → below first len n ≡ n - first - (n - (first + len))
unfolding below
below_is first len zero = omega arith
below_is first len (suc n) = one_more first len n (below first len n) (below_is first len n)

abbrev zeros : ℕ → List ℕ
zeros n = replicate n 0

zeros_at : (n i : ℕ) → get_or (zeros n) i 0 ≡ 0
zeros_at n i = here (side i n)
  where
    side : (i n : ℕ) → (i < n) ⊎ (n ≤ i)
    side i n = grind arith

    here : (i < n) ⊎ (n ≤ i) → get_or (zeros n) i 0 ≡ 0
    here (inl lt) = get_or-replicate n i 0 0 lt
    here (inr le) = get_or_past (zeros n) i 0 (let e : length (zeros n) ≡ n = length-replicate n 0 in omega (arith, e, le))

-- no bit of a list of zeros is set
pub zeros_clear : (n k : ℕ) → is_clear (zeros n) k ≡ true
unfolding bit_of
zeros_clear n k = ap (λ (m : ℕ). bit_at m (k % 8) == 0) (zeros_at n (k / 8)) ∙ ap (λ (m : ℕ). m == 0) (bit_at-zero (k % 8))

pub zeros_below : (m n : ℕ) → claimed_below (replicate m 0) n ≡ 0
zeros_below m zero = refl
zeros_below m (suc n) = let step : cond (is_clear (replicate m 0) n) 0 1 + claimed_below (replicate m 0) n ≡ 0 + claimed_below (replicate m 0) n = ap (λ (b : Bool). cond b 0 1 + claimed_below (replicate m 0) n) (zeros_clear m n) in let rest = zeros_below m n in omega (arith, step, rest)

-- nothing is claimed yet
module _ (bits : List ℕ) (blocks size : ℕ) (is_zeros : bits ≡ replicate size 0) where
  abbrev pub nothing : Claimed
  nothing = record { bits = bits; blocks = blocks; count = 0 }

  pub none_claimed : (k : ℕ) → is_claimed nothing k ≡ false
  none_claimed k = ap (λ (l : List ℕ). not (is_clear l k)) is_zeros ∙ ap not (zeros_clear size k)

  pub none_kept : blocks ≤ 4194304 → size ≡ (blocks + 7) / 8 → IsKept nothing
  none_kept few long = record {
    few = few;
    room = ap (λ (l : List ℕ). length l) is_zeros ∙ length-replicate size 0 ∙ long;
    none_past = λ k past. ap (λ (l : List ℕ). is_clear l k) is_zeros ∙ zeros_clear size k;
    counted = sym (ap (λ (l : List ℕ). claimed_below l blocks) is_zeros ∙ zeros_below size blocks);
  }

  pub none_members : AreClaimed nothing []
  none_members = record { each = λ k. sym (ap (λ (b : Bool). cond b 1 0) (none_claimed k)); number = refl }

module _ (c : Claimed) (first len : ℕ) (new : List ℕ) (fills : Fills first (first + len) 1 c.bits new) (free : (k : ℕ) → first ≤ k → k < first + len → is_clear c.bits k ≡ true) where
  abbrev pub claimed_now : Claimed
  claimed_now = record { bits = new; blocks = c.blocks; count = c.count + len }

  -- what was filled in is no longer clear, and all else is as before
  pub clear_now : (k : ℕ) → is_clear new k ≡ (is_clear c.bits k && not (in_run first len k))
  clear_now k = ap (λ (n : ℕ). n == 0) (fills k) ∙ by_test (in_run first len k) (is_clear c.bits k) refl
    where
      by_test : (b t : Bool) → is_clear c.bits k ≡ t → (cond b 1 (bit_of c.bits k) == 0) ≡ (t && not b)
      by_test true true e = refl
      by_test true false e = refl
      by_test false true e = e
      by_test false false e = e

  pub claims_now : (k : ℕ) → is_claimed claimed_now k ≡ (is_claimed c k || in_run first len k)
  claims_now k = ap not (clear_now k) ∙ by_test (is_clear c.bits k) (in_run first len k)
    where
      by_test : (t b : Bool) → not (t && not b) ≡ (not t || b)
      by_test true true = refl
      by_test true false = refl
      by_test false true = refl
      by_test false false = refl

  clear_before : (k : ℕ) → in_run first len k ≡ true → is_clear c.bits k ≡ true
  clear_before k e = let low : first ≤ k = grind (arith, e) in let high : k < first + len = grind (arith, e) in free k low high

  counts_now : (n : ℕ) → claimed_below new n ≡ claimed_below c.bits n + below first len n
  unfolding below
  counts_now zero = refl
  counts_now (suc n) = ap (λ (b : Bool). cond b 0 1 + claimed_below new n) (clear_now n) ∙ by_test (is_clear c.bits n) (in_run first len n) (clear_before n) (counts_now n)
    where
      not_false : false ≡ true → ⊥
      not_false e = cc

      by_test : (t b : Bool) → (b ≡ true → t ≡ true) → claimed_below new n ≡ claimed_below c.bits n + below first len n
          → cond (t && not b) 0 1 + claimed_below new n ≡ (cond t 0 1 + claimed_below c.bits n) + (cond b 1 0 + below first len n)
      by_test true true h e = omega (arith, e)
      by_test true false h e = omega (arith, e)
      by_test false true h e = absurd (not_false (h refl))
      by_test false false h e = omega (arith, e)

  pub kept_now : IsKept c → first + len ≤ c.blocks → length new ≡ length c.bits → IsKept claimed_now
  kept_now kept inside long = record {
    few = kept.few;
    room = long ∙ kept.room;
    none_past = λ k past. clear_now k ∙ past_run k past (kept.none_past k past);
    counted = let a = kept.counted in let b = counts_now c.blocks in let d = below_is first len c.blocks in omega (arith, a, b, d);
  }
    where
      past_run : (k : ℕ) → c.blocks ≤ k → is_clear c.bits k ≡ true → (is_clear c.bits k && not (in_run first len k)) ≡ true
      past_run k past e = let out : in_run first len k ≡ false = grind (arith, past, inside) in ap (λ (t : Bool). t && not (in_run first len k)) e ∙ ap not out

  pub members_now : (xs : List ℕ) → AreClaimed c xs → AreClaimed claimed_now (xs ++ counted_from first len)
  members_now xs are = record {
    each = λ k. times_append k xs (counted_from first len) ∙ by_each k (is_clear c.bits k) (in_run first len k) (clear_before k) (are.each k) (times_run k first len) ∙ ap (λ (b : Bool). cond b 1 0) (sym (claims_now k));
    number = let a = are.number in let b = length-append xs (counted_from first len) in let d = length_run first len in omega (arith, a, b, d);
  }
    where
      not_false : false ≡ true → ⊥
      not_false e = cc

      by_each : (k : ℕ) (t b : Bool) → (b ≡ true → t ≡ true) → times k xs ≡ cond (not t) 1 0 → times k (counted_from first len) ≡ cond b 1 0
          → times k xs + times k (counted_from first len) ≡ cond (not t || b) 1 0
      by_each k true true h e f = omega (arith, e, f)
      by_each k true false h e f = omega (arith, e, f)
      by_each k false true h e f = absurd (not_false (h refl))
      by_each k false false h e f = omega (arith, e, f)

-- what is claimed already stands in the list
pub claimed_has : (c : Claimed) (xs : List ℕ) (k : ℕ) → AreClaimed c xs → is_claimed c k ≡ true → Has xs k
claimed_has c xs k are e = let one : times k xs ≡ 1 = are.each k ∙ ap (λ (b : Bool). cond b 1 0) e in omega (arith, one)

pub run_has : (first len k : ℕ) → first ≤ k → k < first + len → Has (counted_from first len) k
run_has first len k low high =
    let inside : in_run first len k ≡ true = grind (arith, low, high) in
    let one : times k (counted_from first len) ≡ 1 = times_run k first len ∙ ap (λ (b : Bool). cond b 1 0) inside in omega (arith, one)

-- ---- what is claimed, as a list

list_below : List ℕ → ℕ → List ℕ
list_below bits zero = []
list_below bits (suc n) = cond (is_clear bits n) (list_below bits n) (n ∷ list_below bits n)

length_below : (bits : List ℕ) (n : ℕ) → length (list_below bits n) ≡ claimed_below bits n
unfolding list_below
length_below bits zero = refl
length_below bits (suc n) = by_test (is_clear bits n) (length_below bits n)
  where
    by_test : (t : Bool) → length (list_below bits n) ≡ claimed_below bits n → length (cond t (list_below bits n) (n ∷ list_below bits n)) ≡ cond t 0 1 + claimed_below bits n
    by_test true e = omega (arith, e)
    by_test false e = omega (arith, e)

one_of : ℕ → ℕ → Bool → ℕ
one_of k n t = cond (nat_lt k n && not t) 1 0

times_below : (bits : List ℕ) (k n : ℕ) → times k (list_below bits n) ≡ one_of k n (is_clear bits k)
unfolding list_below one_of
times_below bits k zero = grind arith
times_below bits k (suc n) = by_test (is_clear bits n) refl (side k n) (times_below bits k n)
  where
    side : (a b : ℕ) → (a ≡ b) ⊎ ((a < b) ⊎ (b < a))
    side a b = grind arith

    step : (k < n) ⊎ (n < k) → one_of k n (is_clear bits k) ≡ one_of k (suc n) (is_clear bits k)
    step (inl lt) = ap (λ (b : Bool). cond (b && not (is_clear bits k)) 1 0) (let f : nat_lt k n ≡ nat_lt k (suc n) = grind (arith, lt) in f)
    step (inr gt) = ap (λ (b : Bool). cond (b && not (is_clear bits k)) 1 0) (let f : nat_lt k n ≡ nat_lt k (suc n) = grind (arith, gt) in f)

    differs : (k < n) ⊎ (n < k) → (n == k) ≡ false
    differs (inl lt) = grind (arith, lt)
    differs (inr gt) = grind (arith, gt)

    apart : (t : Bool) → (k < n) ⊎ (n < k) → times k (list_below bits n) ≡ one_of k n (is_clear bits k) → times k (cond t (list_below bits n) (n ∷ list_below bits n)) ≡ one_of k (suc n) (is_clear bits k)
    apart true h e = e ∙ step h
    apart false h e =
        let none : cond (n == k) 1 0 ≡ 0 = ap (λ (b : Bool). cond {A = ℕ} b 1 0) (differs h) in
        let all : cond (n == k) 1 0 + times k (list_below bits n) ≡ times k (list_below bits n) = omega (arith, none) in
        all ∙ (e ∙ step h)

    itself : (t : Bool) → is_clear bits n ≡ t → times n (list_below bits n) ≡ one_of n n (is_clear bits n) → times n (cond t (list_below bits n) (n ∷ list_below bits n)) ≡ one_of n (suc n) (is_clear bits n)
    itself true e h =
        h ∙ ap (λ (b : Bool). cond (b && not (is_clear bits n)) 1 0) (let f : nat_lt n n ≡ false = grind arith in f) ∙ sym (ap (λ (t : Bool). cond (nat_lt n (suc n) && not t) 1 0) e ∙ ap (λ (b : Bool). cond {A = ℕ} b 1 0) (let f : (nat_lt n (suc n) && false) ≡ false = grind arith in f))
    itself false e h =
        ap (λ (b : Bool). cond b 1 0 + times n (list_below bits n)) (let f : (n == n) ≡ true = grind arith in f)
        ∙ ap (λ (m : ℕ). 1 + m) (h ∙ ap (λ (b : Bool). cond {A = ℕ} (b && not (is_clear bits n)) 1 0) (let f : nat_lt n n ≡ false = grind arith in f))
        ∙ sym (ap (λ (t : Bool). cond (nat_lt n (suc n) && not t) 1 0) e ∙ ap (λ (b : Bool). cond {A = ℕ} b 1 0) (let f : (nat_lt n (suc n) && true) ≡ true = grind arith in f))

    by_test : (t : Bool) → is_clear bits n ≡ t → (k ≡ n) ⊎ ((k < n) ⊎ (n < k)) → times k (list_below bits n) ≡ one_of k n (is_clear bits k) → times k (cond t (list_below bits n) (n ∷ list_below bits n)) ≡ one_of k (suc n) (is_clear bits k)
    by_test t e (inl same) h =
        subst (λ (j : ℕ). times j (cond t (list_below bits n) (n ∷ list_below bits n)) ≡ one_of j (suc n) (is_clear bits j)) (sym same) (itself t e (subst (λ (j : ℕ). times j (list_below bits n) ≡ one_of j n (is_clear bits j)) same h))
    by_test t e (inr other) h = apart t other h

-- the claimed blocks are those of a list
pub are_listed : (c : Claimed) → IsKept c → (xs : List ℕ) × AreClaimed c xs
unfolding one_of
are_listed c kept = (list_below c.bits c.blocks, record { each = each; number = kept.counted ∙ sym (length_below c.bits c.blocks) })
  where
    side : (a b : ℕ) → (a < b) ⊎ (b ≤ a)
    side a b = grind arith

    each : (k : ℕ) → times k (list_below c.bits c.blocks) ≡ cond {A = ℕ} (is_claimed c k) 1 0
    each k = times_below c.bits k c.blocks ∙ by_side (side k c.blocks)
      where
        by_side : (k < c.blocks) ⊎ (c.blocks ≤ k) → cond {A = ℕ} (nat_lt k c.blocks && not (is_clear c.bits k)) 1 0 ≡ cond {A = ℕ} (not (is_clear c.bits k)) 1 0
        by_side (inl lt) = ap (λ (b : Bool). cond {A = ℕ} (b && not (is_clear c.bits k)) 1 0) (let f : nat_lt k c.blocks ≡ true = grind (arith, lt) in f)
        by_side (inr past) = ap (λ (t : Bool). cond {A = ℕ} (nat_lt k c.blocks && not t) 1 0) (kept.none_past k past) ∙ (let f : cond {A = ℕ} (nat_lt k c.blocks && false) 1 0 ≡ 0 = grind arith in f) ∙ sym (ap (λ (t : Bool). cond {A = ℕ} (not t) 1 0) (kept.none_past k past))
