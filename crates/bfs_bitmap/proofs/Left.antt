-- Which groups have left the log, where the runs that were given back change.
use Rattle.std.proofs.Common.{◌≡◌, ◌≤◌, ◌<◌, ◌+◌, ◌∙◌, ℕ, zero, suc, List, [], ◌∷◌, ◌++◌, length, map, filter, not, Bool, true, false, cond, Option, Some, None, unwrap_or, nat_le, max, min, get_or, refl, sym, ap, subst, arith}
use Rattle.bfs_bitmap.specs.declared.given.Given.{Given}
use Rattle.bfs_bitmap.specs.declared.tally.Tally.{Tally}
use Rattle.bfs_bitmap.specs.Givens.{numbered, settled, is_left}
use Rattle.bfs_bitmap.specs.Left.{HasNoneLeft}
use Rattle.bfs_bitmap.specs.Runs.{none_given}
use Rattle.bfs_bitmap.specs.Tallies.{lowered_by}
use Rattle.bfs_bitmap.proofs.Back.{AreAll, all_filter, all_map}
use Rattle.bfs_bitmap.proofs.Settled.{none_have_left, none_lowered}

-- the run's group hasn't left the log by a number
abbrev pub Waits : ℕ → Given → Type 0
Waits left g = is_left left g ≡ false

-- what a test of two numbers says
above : (a b : ℕ) → nat_le a b ≡ false → b < a
above a b past = grind (arith, past)

below : (a b : ℕ) → b < a → nat_le a b ≡ false
below a b less = grind (arith, less)

-- by a lower number neither
pub waits_before : (low left : ℕ) (g : Given) → low ≤ left → Waits left g → Waits low g
waits_before low left g le waits = by_group g.group waits
  where
    by_group : (o : Option ℕ) → nat_le (unwrap_or o (left + 1)) left ≡ false → nat_le (unwrap_or o (low + 1)) low ≡ false
    by_group None past = below (low + 1) low (omega arith)
    by_group (Some n) past = let more = above n left past in below n low (omega (arith, more, le))

waits_numbered : (left last group : ℕ) → left ≤ last → last < group → (g : Given) → Waits left g → Waits left (numbered group g)
waits_numbered left last group low less g waits = by_group g.group waits
  where
    by_group : (o : Option ℕ) → nat_le (unwrap_or o (left + 1)) left ≡ false → nat_le (unwrap_or o group) left ≡ false
    by_group None past = below group left (omega (arith, low, less))
    by_group (Some n) past = past

waits_both : (left group last : ℕ) (g : Given) → Waits left g → Waits group g → Waits (max left (min group last)) g
waits_both left group last g a b = by_group g.group a b
  where
    by_group : (o : Option ℕ) → nat_le (unwrap_or o (left + 1)) left ≡ false → nat_le (unwrap_or o (group + 1)) group ≡ false → nat_le (unwrap_or o (max left (min group last) + 1)) (max left (min group last)) ≡ false
    by_group None past none = below (max left (min group last) + 1) (max left (min group last)) (omega arith)
    by_group (Some n) past none = let x = above n left past in let y = above n group none in below n (max left (min group last)) (omega (arith, x, y))

-- what a test leaves passes it
filter_waits : (group : ℕ) (gs : List Given) → AreAll (Waits group) (filter (λ g. not (is_left group g)) gs)
filter_waits group [] i low = absurd (omega (arith, low))
filter_waits group (g ∷ gs) i low = by_test (filter_waits group gs) (is_left group g) refl i low
  where
    by_test : AreAll (Waits group) (filter (λ x. not (is_left group x)) gs) → (t : Bool) → is_left group g ≡ t → AreAll (Waits group) (cond (not t) (g ∷ filter (λ x. not (is_left group x)) gs) (filter (λ x. not (is_left group x)) gs))
    by_test rest true e j more = rest j more
    by_test rest false e zero more = e
    by_test rest false e (suc j) more = rest j (omega (arith, more))

pub left_none : (last : ℕ) (gs : List Given) → gs ≡ [] → HasNoneLeft 0 last gs
left_none last gs none = record { low = omega arith; none = λ i low. let e : length gs ≡ 0 = ap (λ (l : List Given). length l) none in absurd (omega (arith, low, e)) }

-- a run more that has no group yet
pub left_with : (left last : ℕ) (gs hs : List Given) (g : Given) → HasNoneLeft left last gs → hs ≡ gs ++ g ∷ [] → g.group ≡ None → HasNoneLeft left last hs
left_with left last gs hs g has is none = record { low = has.low; none = subst (AreAll (Waits left)) (sym is) (added gs has.none) }
  where
    last_waits : Waits left g
    last_waits = ap (λ (o : Option ℕ). nat_le (unwrap_or o (left + 1)) left) none ∙ below (left + 1) left (omega arith)

    added : (gs : List Given) → AreAll (Waits left) gs → AreAll (Waits left) (gs ++ g ∷ [])
    added [] all zero low = last_waits
    added [] all (suc j) low = absurd (omega (arith, low))
    added (x ∷ xs) all zero low = all zero (omega arith)
    added (x ∷ xs) all (suc j) low = added xs (λ i inside. all (suc i) (omega (arith, inside))) j (omega (arith, low))

pub left_numbered : (left last group : ℕ) (gs hs : List Given) → HasNoneLeft left last gs → last < group → hs ≡ map (numbered group) gs → HasNoneLeft left group hs
left_numbered left last group gs hs has less is = record {
  low = let a = has.low in omega (arith, a, less);
  none = subst (AreAll (Waits left)) (sym is) (all_map (Waits left) (Waits left) (numbered group) gs (waits_numbered left last group has.low less) has.none);
}

pub left_settled : (left last : ℕ) (gs hs : List Given) → HasNoneLeft left last gs → hs ≡ map settled gs → HasNoneLeft left last hs
left_settled left last gs hs has is = record { low = has.low; none = subst (AreAll (Waits left)) (sym is) (all_map (Waits left) (Waits left) settled gs (λ g h. h) has.none) }

pub left_filter : (left last : ℕ) (p : Given → Bool) (gs hs : List Given) → HasNoneLeft left last gs → hs ≡ filter p gs → HasNoneLeft left last hs
left_filter left last p gs hs has is = record { low = has.low; none = subst (AreAll (Waits left)) (sym is) (all_filter (Waits left) p gs has.none) }

-- where those of a group are freed
pub left_freed : (left last group now : ℕ) (gs hs : List Given) → HasNoneLeft left last gs → hs ≡ filter (λ g. not (is_left group g)) gs → now ≡ max left (min group last) → HasNoneLeft now last hs
left_freed left last group now gs hs has is new = record {
  low = let a = has.low in omega (arith, a, new);
  none = subst (AreAll (Waits now)) (sym is) (λ i inside. subst (λ (n : ℕ). Waits n (get_or (filter (λ g. not (is_left group g)) gs) i none_given)) (sym new)
      (waits_both left group last (get_or (filter (λ g. not (is_left group g)) gs) i none_given) (all_filter (Waits left) (λ g. not (is_left group g)) gs has.none i inside) (filter_waits group gs i inside)));
}

-- by a number up to that one nothing is to be freed
pub left_same : (left last group : ℕ) (gs : List Given) → HasNoneLeft left last gs → group ≤ left → filter (λ g. not (is_left group g)) gs ≡ gs
left_same left last group gs has le = none_have_left group gs (λ i low. waits_before group left (get_or gs i none_given) le (has.none i low))

pub left_lowered : (left last group : ℕ) (gs : List Given) (t : Tally) → HasNoneLeft left last gs → group ≤ left → lowered_by group gs t ≡ t
left_lowered left last group gs t has le = none_lowered group gs t (λ i low. waits_before group left (get_or gs i none_given) le (has.none i low))
