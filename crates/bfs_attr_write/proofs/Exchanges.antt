-- Exchanges of blocks: what brings them about, and how they come together.
use Rattle.std.proofs.Common.{◌≡◌, ◌⊎◌, inl, inr, ◌<◌, ◌+◌, ◌∙◌, ℕ, zero, suc, List, ◌++◌, Bool, true, false, cond, not, ◌&&◌, Option, refl, sym, ap, ap₂, subst, arith}
use Rattle.std.specs.Prelude.{◌==◌}
use Rattle.bfs_base.specs.Lists.{times, Has}
use Rattle.bfs_bitmap.specs.Runs.{Room, per_block, is_free, marked}
use Rattle.bfs_stream.specs.Grown.{IsOutside, is_new}
use Rattle.bfs_stream.specs.Trimmed.{AreMarked}
use Rattle.bfs_stream.proofs.Frames.{has_right}
use Rattle.bfs_stream.proofs.Doubles.{times-append}
use Rattle.bfs_stream.proofs.Taking.{zero_test, some_test}
use Rattle.bfs_attr_write.specs.Exchanged.{Exchanged}

-- a list that is empty, or has a member
count_zero : (n : ℕ) → (n == 0) ≡ true → n ≡ 0
count_zero n e = grind (arith, e)

left_true : (b c : Bool) → (b && c) ≡ true → b ≡ true
left_true true c e = refl
left_true false c e = let bad : false ≡ true = e in cc

-- lists with the same members do as well
module _ (v now : Room) (m map : ℕ → Option (List ℕ)) (before after first second : List ℕ) (e : Exchanged v now m map before after)
    (same : (k : ℕ) → (times k first == 0) ≡ (times k before == 0)) (also : (k : ℕ) → (times k second == 0) ≡ (times k after == 0)) where
  none_both : (k : ℕ) → times k (first ++ second) ≡ 0 → times k (before ++ after) ≡ 0
  none_both k none =
      let parts = times-append k first second in
      let a : times k before ≡ 0 = count_zero (times k before) (sym (same k) ∙ zero_test (times k first) (omega (arith, parts, none))) in
      let b : times k after ≡ 0 = count_zero (times k after) (sym (also k) ∙ zero_test (times k second) (omega (arith, parts, none))) in
      let sum = times-append k before after in
      omega (arith, sum, a, b)

  has_second : (k : ℕ) → Has second k → Has after k
  has_second k has = by_count (times k after) refl
    where
      by_count : (n : ℕ) → times k after ≡ n → Has after k
      by_count zero z = let none : times k second ≡ 0 = count_zero (times k second) (also k ∙ zero_test (times k after) z) in let some : 0 < times k second = has in absurd (omega (arith, some, none))
      by_count (suc n) z = let h : 0 < times k after = omega (arith, z) in h

  has_before : (k : ℕ) → Has before k → Has first k
  has_before k has = by_count (times k first) refl
    where
      by_count : (n : ℕ) → times k first ≡ n → Has first k
      by_count zero z = let none : times k before ≡ 0 = count_zero (times k before) (sym (same k) ∙ zero_test (times k first) z) in let some : 0 < times k before = has in absurd (omega (arith, some, none))
      by_count (suc n) z = let h : 0 < times k first = omega (arith, z) in h

  pub exchanged_as : Exchanged v now m map first second
  exchanged_as = record {
    rest = e.rest;
    fits = e.fits;
    were_free = λ k has none. e.were_free k (has_second k has) (count_zero (times k before) (sym (same k) ∙ zero_test (times k first) none));
    free = λ k. e.free k ∙ ap (λ (b : Bool). is_free v m k && b) (sym (also k));
    marks = λ k low. e.marks k low ∙ ap₂ (λ (a b : Bool). cond (a && not b) 1 (cond (b && not a) 0 (marked (per_block v) m k))) (sym (same k)) (sym (also k));
    counted = λ used. e.counted (λ k low has. used k low (has_before k has));
    others = λ k out none. e.others k out (none_both k none);
    first = λ none. e.first (none_both 0 none);
  }

-- what is free, where something that isn't is beside
framed_free : (free here beside : Bool) → (beside ≡ false → free ≡ false) → (free && here) ≡ (free && (beside && here))
framed_free free here true taken = refl
framed_free free here false taken = ap (λ (b : Bool). b && here) (taken refl) ∙ ap (λ (b : Bool). b && (false && here)) (sym (taken refl))

-- and what is marked: out, since and beside tell that a block isn't in a list
framed_marks : (out since beside : Bool) (a : ℕ) → (beside ≡ false → (out ≡ true) × (since ≡ true)) → cond (out && not since) 1 (cond (since && not out) 0 a) ≡ cond ((beside && out) && not (beside && since)) 1 (cond ((beside && since) && not (beside && out)) 0 a)
framed_marks out since true a apart = refl
framed_marks true true false a apart = refl
framed_marks true false false a apart = let bad : false ≡ true = (apart refl).1 in cc
framed_marks false since false a apart = let bad : false ≡ true = (apart refl).0 in cc

zero_append : (k : ℕ) (xs ys : List ℕ) → (times k (xs ++ ys) == 0) ≡ ((times k xs == 0) && (times k ys == 0))
zero_append k xs ys = ap (λ (n : ℕ). n == 0) (times-append k xs ys) ∙ by_counts (times k xs) (times k ys)
  where
    by_counts : (a b : ℕ) → (a + b == 0) ≡ ((a == 0) && (b == 0))
    by_counts zero b = let same : 0 + b ≡ b = omega arith in ap (λ (n : ℕ). n == 0) same
    by_counts (suc a) b = some_test (suc a + b) (omega arith) ∙ sym (ap (λ (t : Bool). t && (b == 0)) (some_test (suc a) (omega arith)))

-- with other blocks beside, none of which is free or among those that came or went
module _ (v now : Room) (m map : ℕ → Option (List ℕ)) (before after beside : List ℕ) (e : Exchanged v now m map before after) (taken : (k : ℕ) → Has beside k → is_free v m k ≡ false) (apart : (k : ℕ) → Has beside k → times k before ≡ 0) where
  not_after : (k : ℕ) → Has beside k → times k after ≡ 0
  not_after k has = by_count (times k after) refl
    where
      by_count : (n : ℕ) → times k after ≡ n → times k after ≡ 0
      by_count zero z = z
      by_count (suc n) z = let f = e.were_free k (let h : 0 < times k after = omega (arith, z) in h) (apart k has) in let bad : true ≡ false = sym f ∙ taken k has in cc

  is_beside : (k : ℕ) → (times k beside == 0) ≡ false → Has beside k
  is_beside k t = by_count (times k beside) refl
    where
      by_count : (n : ℕ) → times k beside ≡ n → 0 < times k beside
      by_count zero z = let bad : true ≡ false = sym (zero_test (times k beside) z) ∙ t in cc
      by_count (suc n) z = omega (arith, z)

  no_part : (k : ℕ) → times k ((beside ++ before) ++ (beside ++ after)) ≡ 0 → times k (before ++ after) ≡ 0
  no_part k none =
      let a = times-append k (beside ++ before) (beside ++ after) in
      let b = times-append k beside before in
      let c = times-append k beside after in
      let d = times-append k before after in
      omega (arith, a, b, c, d, none)

  pub exchanged_beside : Exchanged v now m map (beside ++ before) (beside ++ after)
  exchanged_beside = record {
    rest = e.rest;
    fits = e.fits;
    were_free = λ k has none. e.were_free k
        (let h : 0 < times k (beside ++ after) = has in let a = times-append k beside after in let b = times-append k beside before in let s : 0 < times k after = omega (arith, h, a, b, none) in s)
        (let b = times-append k beside before in omega (arith, b, none));
    free = λ k.
        e.free k ∙ framed_free (is_free v m k) (times k after == 0) (times k beside == 0) (λ t. taken k (is_beside k t))
        ∙ ap (λ (b : Bool). is_free v m k && b) (sym (zero_append k beside after));
    marks = λ k low.
        e.marks k low
        ∙ framed_marks (times k before == 0) (times k after == 0) (times k beside == 0) (marked (per_block v) m k) (λ t. (zero_test (times k before) (apart k (is_beside k t)), zero_test (times k after) (not_after k (is_beside k t))))
        ∙ ap₂ (λ (a b : Bool). cond (a && not b) 1 (cond (b && not a) 0 (marked (per_block v) m k))) (sym (zero_append k beside before)) (sym (zero_append k beside after));
    counted = λ used. e.counted (λ k low has. used k low (has_right beside before k has));
    others = λ k out none. e.others k out (no_part k none);
    first = λ none. e.first (no_part 0 none);
  }

-- what is free and marked after two exchanges: a, b and c tell that a block isn't in the first, the second and the third list
twice_free : (free b c : Bool) → (b ≡ false → c ≡ true → free ≡ false) → ((free && b) && c) ≡ (free && c)
twice_free false b c went = refl
twice_free true true c went = refl
twice_free true false true went = let bad : true ≡ false = went refl refl in cc
twice_free true false false went = refl

twice_marks : (a b c : Bool) (x y z : ℕ) → (b ≡ false → (a ≡ false) ⊎ (c ≡ false)) → (b ≡ true → a ≡ false → c ≡ false → ⊥) → y ≡ cond (a && not b) 1 (cond (b && not a) 0 x) → z ≡ cond (b && not c) 1 (cond (c && not b) 0 y) → z ≡ cond (a && not c) 1 (cond (c && not a) 0 x)
twice_marks true true true x y z through back f g = g ∙ f
twice_marks true true false x y z through back f g = g
twice_marks true false true x y z through back f g = by_side (through refl)
  where
    by_side : (true ≡ false) ⊎ (true ≡ false) → z ≡ x
    by_side (inl bad) = cc
    by_side (inr bad) = cc
twice_marks true false false x y z through back f g = g ∙ f
twice_marks false true true x y z through back f g = g ∙ f
twice_marks false true false x y z through back f g = absurd (back refl refl refl)
twice_marks false false true x y z through back f g = g
twice_marks false false false x y z through back f g = g ∙ f

-- two exchanges, of which the second begins with what the first has left; what the first brought stays, or was there before
module _ (v mid now : Room) (m m1 map : ℕ → Option (List ℕ)) (xs ys zs : List ℕ) (one : Exchanged v mid m m1 xs ys) (two : Exchanged mid now m1 map ys zs) (taken : (k : ℕ) → Has xs k → is_free v m k ≡ false) (through : (k : ℕ) → Has ys k → Has xs k ⊎ Has zs k) where
  some_of : (l : List ℕ) (k : ℕ) → (times k l == 0) ≡ false → Has l k
  some_of l k t = by_count (times k l) refl
    where
      by_count : (n : ℕ) → times k l ≡ n → 0 < times k l
      by_count zero z = let bad : true ≡ false = sym (zero_test (times k l) z) ∙ t in cc
      by_count (suc n) z = omega (arith, z)

  none_between : (k : ℕ) → times k (xs ++ zs) ≡ 0 → times k ys ≡ 0
  none_between k none = by_count (times k ys) refl
    where
      parts : times k (xs ++ zs) ≡ times k xs + times k zs
      parts = times-append k xs zs

      by_side : Has xs k ⊎ Has zs k → times k ys ≡ 0
      by_side (inl has) = let h : 0 < times k xs = has in absurd (omega (arith, h, parts, none))
      by_side (inr has) = let h : 0 < times k zs = has in absurd (omega (arith, h, parts, none))

      by_count : (n : ℕ) → times k ys ≡ n → times k ys ≡ 0
      by_count zero z = z
      by_count (suc n) z = by_side (through k (let h : 0 < times k ys = omega (arith, z) in h))

  outside_mid : (k : ℕ) → IsOutside v k → IsOutside mid k
  outside_mid k out = subst (λ (x : Room). IsOutside x k) (sym one.rest) out

  free_first : (k : ℕ) → Has zs k → times k xs ≡ 0 → is_free v m k ≡ true
  free_first k has none = by_count (times k ys) refl
    where
      by_count : (n : ℕ) → times k ys ≡ n → is_free v m k ≡ true
      by_count zero z = left_true (is_free v m k) (times k ys == 0) (sym (one.free k) ∙ two.were_free k has z)
      by_count (suc n) z = one.were_free k (let h : 0 < times k ys = omega (arith, z) in h) none

  went_used : (k : ℕ) → (times k ys == 0) ≡ false → (times k zs == 0) ≡ true → is_free v m k ≡ false
  went_used k t u = by_side (through k (some_of ys k t))
    where
      by_side : Has xs k ⊎ Has zs k → is_free v m k ≡ false
      by_side (inl has) = taken k has
      by_side (inr has) = let none = count_zero (times k zs) u in let h : 0 < times k zs = has in absurd (omega (arith, h, none))

  sides : (k : ℕ) → (times k ys == 0) ≡ false → ((times k xs == 0) ≡ false) ⊎ ((times k zs == 0) ≡ false)
  sides k t = by_side (through k (some_of ys k t))
    where
      by_side : Has xs k ⊎ Has zs k → ((times k xs == 0) ≡ false) ⊎ ((times k zs == 0) ≡ false)
      by_side (inl has) = inl (some_test (times k xs) has)
      by_side (inr has) = inr (some_test (times k zs) has)

  not_back : (k : ℕ) → (times k ys == 0) ≡ true → (times k xs == 0) ≡ false → (times k zs == 0) ≡ false → ⊥
  not_back k t u w =
      let f : is_free mid m1 k ≡ true = two.were_free k (some_of zs k w) (count_zero (times k ys) t) in
      let g : is_free v m k ≡ true = left_true (is_free v m k) (times k ys == 0) (sym (one.free k) ∙ f) in
      let bad : true ≡ false = sym g ∙ taken k (some_of xs k u) in cc

  marks_two : (k : ℕ) → k < v.blocks → marked (per_block v) map k ≡ cond (is_new ys zs k) 1 (cond (is_new zs ys k) 0 (marked (per_block v) m1 k))
  marks_two k low =
      subst (λ (x : Room). marked (per_block x) map k ≡ cond (is_new ys zs k) 1 (cond (is_new zs ys k) 0 (marked (per_block x) m1 k))) one.rest
      (two.marks k (subst (λ (x : Room). k < x.blocks) (sym one.rest) low))

  -- what stands in the middle is marked there
  mark_mid : (a b : Bool) (x y : ℕ) → b ≡ false → (a ≡ false → x ≡ 1) → y ≡ cond (a && not b) 1 (cond (b && not a) 0 x) → y ≡ 1
  mark_mid true false x y e had f = f
  mark_mid false false x y e had f = f ∙ had refl
  mark_mid true true x y e had f = let bad : true ≡ false = e in cc
  mark_mid false true x y e had f = let bad : true ≡ false = e in cc

  marked_mid : AreMarked v xs m → AreMarked mid ys m1
  marked_mid used k low has =
      let below : k < v.blocks = subst (λ (x : Room). k < x.blocks) one.rest low in
      subst (λ (x : Room). marked (per_block x) m1 k ≡ 1) (sym one.rest)
      (mark_mid (times k xs == 0) (times k ys == 0) (marked (per_block v) m k) (marked (per_block v) m1 k) (some_test (times k ys) has) (λ t. used k below (some_of xs k t)) (one.marks k below))

  pub exchanged_twice : Exchanged v now m map xs zs
  exchanged_twice = record {
    rest = two.rest ∙ ap (λ (x : Room). record x { given = now.given; tally = now.tally }) one.rest;
    fits = two.fits;
    were_free = free_first;
    free = λ k. two.free k ∙ ap (λ (b : Bool). b && (times k zs == 0)) (one.free k) ∙ twice_free (is_free v m k) (times k ys == 0) (times k zs == 0) (went_used k);
    marks = λ k low. twice_marks (times k xs == 0) (times k ys == 0) (times k zs == 0) (marked (per_block v) m k) (marked (per_block v) m1 k) (marked (per_block v) map k) (sides k) (not_back k) (one.marks k low) (marks_two k low);
    counted = λ used count. two.counted (marked_mid used) (one.counted used count);
    others = λ k out none.
        let a = times-append k xs zs in
        let b = times-append k ys zs in
        let c = times-append k xs ys in
        let z = none_between k none in
        two.others k (outside_mid k out) (omega (arith, a, b, z, none)) ∙ one.others k out (omega (arith, a, c, z, none));
    first = λ none.
        let a = times-append 0 xs zs in
        let b = times-append 0 ys zs in
        let c = times-append 0 xs ys in
        let z = none_between 0 none in
        two.first (omega (arith, a, b, z, none)) ∙ one.first (omega (arith, a, c, z, none));
  }
