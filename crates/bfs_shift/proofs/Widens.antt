-- Shifts that are widened, put in another order, or follow one another.
use Rattle.std.proofs.Common.{◌≡◌, ◌≤◌, ◌<◌, ◌+◌, ◌⊎◌, inl, inr, ℕ, zero, suc, List, refl, sym, ◌∙◌, arith}
use Rattle.bfs_base.specs.Lists.{times, Has, IsOnce, AreSame}
use Rattle.bfs_sound.specs.Volumes.{Volume, IsMarked}
use Rattle.bfs_shift.specs.Stocked.{Shifts}

pub there_or_not : (k : ℕ) (xs : List ℕ) → Has xs k ⊎ (times k xs ≡ 0)
there_or_not k xs = by_count (times k xs) refl
  where
    by_count : (c : ℕ) → times k xs ≡ c → Has xs k ⊎ (times k xs ≡ 0)
    by_count zero e = inr e
    by_count (suc c) e = inl (let h : 0 < times k xs = omega (arith, e) in h)

module _ (v : Volume) (new : ℕ → List ℕ) (xs ys us vs : List ℕ) (shifts : Shifts v new xs ys) (count : (k : ℕ) → times k us + times k ys ≡ times k vs + times k xs) (few : (k : ℕ) → times k xs ≤ times k us)
    (apart : IsOnce us) (are : (k : ℕ) → Has us k → IsMarked v k) where
  -- what is beside those that go didn't come
  none_came : (k : ℕ) → 0 < times k us → times k xs ≡ 0 → times k ys ≡ 0
  none_came k some none = by_case (there_or_not k ys)
    where
      by_case : Has ys k ⊎ (times k ys ≡ 0) → times k ys ≡ 0
      by_case (inr e) = e
      by_case (inl came) = absurd (shifts.fresh k came none (are k some))

  once_now : (k : ℕ) → times k vs ≤ 1
  once_now k = by_case (there_or_not k xs) (there_or_not k us)
    where
      by_case : Has xs k ⊎ (times k xs ≡ 0) → Has us k ⊎ (times k us ≡ 0) → times k vs ≤ 1
      by_case (inl x) u = let h : 0 < times k xs = x in let c = count k in let f = few k in let o : times k us ≤ 1 = apart k in let q : times k ys ≤ 1 = shifts.once k in omega (arith, h, c, f, o, q)
      by_case (inr x) (inl u) = let h : 0 < times k us = u in let n = none_came k h x in let c = count k in let o : times k us ≤ 1 = apart k in omega (arith, n, c, o, x)
      by_case (inr x) (inr u) = let c = count k in let q : times k ys ≤ 1 = shifts.once k in omega (arith, c, q, x, u)

  not_marked : (k : ℕ) → Has vs k → times k us ≡ 0 → ¬ IsMarked v k
  not_marked k has none =
      let h : 0 < times k vs = has in
      let c = count k in
      let f = few k in
      shifts.fresh k (let g : 0 < times k ys = omega (arith, h, c, f, none) in g) (omega (arith, f, none))

  marks_on : (k : ℕ) → Has ys k ⊎ (IsMarked v k × (times k xs ≡ 0)) → Has vs k ⊎ (IsMarked v k × (times k us ≡ 0))
  marks_on k (inl came) = let h : 0 < times k ys = came in let c = count k in let f = few k in inl (let g : 0 < times k vs = omega (arith, h, c, f) in g)
  marks_on k (inr old) = by_case (there_or_not k us)
    where
      by_case : Has us k ⊎ (times k us ≡ 0) → Has vs k ⊎ (IsMarked v k × (times k us ≡ 0))
      by_case (inl some) = let h : 0 < times k us = some in let c = count k in let n = old.1 in inl (let g : 0 < times k vs = omega (arith, h, c, n) in g)
      by_case (inr none) = inr (old.0, none)

  marks_back : (k : ℕ) → Has vs k ⊎ (IsMarked v k × (times k us ≡ 0)) → Has ys k ⊎ (IsMarked v k × (times k xs ≡ 0))
  marks_back k (inr old) = let n = old.1 in let f = few k in inr (old.0, omega (arith, n, f))
  marks_back k (inl has) = by_case (there_or_not k ys)
    where
      by_case : Has ys k ⊎ (times k ys ≡ 0) → Has ys k ⊎ (IsMarked v k × (times k xs ≡ 0))
      by_case (inl came) = inl came
      by_case (inr none) =
          let h : 0 < times k vs = has in
          let c = count k in
          let o : times k us ≤ 1 = apart k in
          let some : 0 < times k us = omega (arith, h, c, none) in
          inr (are k some, omega (arith, h, c, o, none))

  pub widened : Shifts v new us vs
  widened = record {
    stays = λ k none gone out. let c = count k in let f = few k in shifts.stays k (omega (arith, f, none)) (omega (arith, c, f, none, gone)) out;
    once = once_now;
    fresh = not_marked;
    marks = λ k. (λ m. marks_on k ((shifts.marks k).0 m), λ h. (shifts.marks k).1 (marks_back k h));
  }

module _ (v : Volume) (new : ℕ → List ℕ) (xs ys us vs : List ℕ) (same : AreSame xs us) (too : AreSame ys vs) (shifts : Shifts v new xs ys) where
  has_back : (k : ℕ) → Has vs k → Has ys k
  has_back k h = let e = too k in let g : 0 < times k vs = h in let r : 0 < times k ys = omega (arith, e, g) in r

  has_on : (k : ℕ) → Has ys k → Has vs k
  has_on k h = let e = too k in let g : 0 < times k ys = h in let r : 0 < times k vs = omega (arith, e, g) in r

  order_on : (k : ℕ) → Has ys k ⊎ (IsMarked v k × (times k xs ≡ 0)) → Has vs k ⊎ (IsMarked v k × (times k us ≡ 0))
  order_on k (inl h) = inl (has_on k h)
  order_on k (inr o) = inr (o.0, sym (same k) ∙ o.1)

  order_back : (k : ℕ) → Has vs k ⊎ (IsMarked v k × (times k us ≡ 0)) → Has ys k ⊎ (IsMarked v k × (times k xs ≡ 0))
  order_back k (inl h) = inl (has_back k h)
  order_back k (inr o) = inr (o.0, same k ∙ o.1)

  pub in_any_order : Shifts v new us vs
  in_any_order = record {
    stays = λ k none gone out. shifts.stays k (same k ∙ none) (too k ∙ gone) out;
    once = λ k. let e = too k in let o : times k ys ≤ 1 = shifts.once k in omega (arith, e, o);
    fresh = λ k has none. shifts.fresh k (has_back k has) (same k ∙ none);
    marks = λ k. (λ m. order_on k ((shifts.marks k).0 m), λ h. (shifts.marks k).1 (order_back k h));
  }
