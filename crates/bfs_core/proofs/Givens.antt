-- Runs that were given back, when a group gets its number and when one has left.
use Rattle.std.proofs.Common.{◌≡◌, inl, inr, ⊎_elim, ◌<◌, ◌≤◌, ◌+◌, ℕ, List, [], ◌∷◌, map, filter, not, Bool, true, false, cond, ◌||◌, nat_le, Option, Some, None, unwrap_or, refl, sym, ◌∙◌, ap, subst, arith}
use Rattle.std.proofs.lemmas.Bool.{cond-true, leb-false, lt-leb, or_cases, or_left, or_right}
use Rattle.bfs_bitmap.specs.declared.given.Given.{Given}
use Rattle.bfs_bitmap.specs.Bits.{in_run}
use Rattle.bfs_bitmap.specs.Givens.{numbered, is_left}
use Rattle.bfs_bitmap.specs.Runs.{is_reserved}
use Rattle.bfs_core.specs.Spaces.{IsHeld, IsFresh}

-- what no number frees
none_left : (n : ℕ) (g : Given) → g.group ≡ None → is_left n g ≡ false
none_left n g none = ap (λ (o : Option ℕ). nat_le (unwrap_or o (n + 1)) n) none ∙ lt-leb (n + 1) n (omega arith)

pub fresh_held : (n : ℕ) (gs : List Given) (k : ℕ) → IsFresh gs k → IsHeld n gs k
fresh_held n [] k fresh = absurd fresh
fresh_held n (g ∷ gs) k fresh = ⊎_elim (λ here. inl (here.0, none_left n g here.1)) (λ later. inr (fresh_held n gs k later)) fresh

later_left : (m n : ℕ) (o : Option ℕ) → m ≤ n → nat_le (unwrap_or o (n + 1)) n ≡ false → nat_le (unwrap_or o (m + 1)) m ≡ false
later_left m n None le is = lt-leb (m + 1) m (omega arith)
later_left m n (Some x) le is = lt-leb x m (let lt = leb-false x n is in omega (arith, lt, le))

pub held_lower : (m n : ℕ) (gs : List Given) (k : ℕ) → m ≤ n → IsHeld n gs k → IsHeld m gs k
held_lower m n [] k le held = absurd held
held_lower m n (g ∷ gs) k le held = ⊎_elim (λ here. inl (here.0, later_left m n g.group le here.1)) (λ later. inr (held_lower m n gs k le later)) held

-- ---- a group gets its number

numbered_left : (n last : ℕ) (g : Given) → n < last → is_left n g ≡ false → is_left n (numbered last g) ≡ false
numbered_left n last g lt is = by_group g.group is
  where
    by_group : (o : Option ℕ) → nat_le (unwrap_or o (n + 1)) n ≡ false → nat_le (unwrap_or o last) n ≡ false
    by_group None is = lt-leb last n lt
    by_group (Some x) is = is

pub held_numbered : (n last : ℕ) (gs : List Given) (k : ℕ) → n < last → IsHeld n gs k → IsHeld n (map (numbered last) gs) k
held_numbered n last [] k lt held = absurd held
held_numbered n last (g ∷ gs) k lt held = ⊎_elim (λ here. inl (here.0, numbered_left n last g lt here.1)) (λ later. inr (held_numbered n last gs k lt later)) held

pub reserved_numbered : (last : ℕ) (gs : List Given) (k : ℕ) → is_reserved (map (numbered last) gs) k ≡ is_reserved gs k
reserved_numbered last [] k = refl
reserved_numbered last (g ∷ gs) k = ap (λ (x : Bool). in_run g.first g.len k || x) (reserved_numbered last gs k)

-- ---- a group has left

pub held_released : (left n : ℕ) (gs : List Given) (k : ℕ) → left ≤ n → IsHeld n gs k → IsHeld n (filter (λ g. not (is_left left g)) gs) k
held_released left n [] k le held = absurd held
held_released left n (g ∷ gs) k le held = ⊎_elim
    (λ here.
    let stays : is_left left g ≡ false = later_left left n g.group le here.1 in
    subst (λ (xs : List Given). IsHeld n xs k) (sym (cond-true (not (is_left left g)) (g ∷ filter (λ x. not (is_left left x)) gs) (filter (λ x. not (is_left left x)) gs) (ap not stays))) (inl here))
    (λ later. either (not (is_left left g)) (held_released left n gs k le later)) held
  where
    either : (d : Bool) → IsHeld n (filter (λ x. not (is_left left x)) gs) k → IsHeld n (cond d (g ∷ filter (λ x. not (is_left left x)) gs) (filter (λ x. not (is_left left x)) gs)) k
    either true h = inr h
    either false h = h

pub released_reserved : (left : ℕ) (gs : List Given) (k : ℕ) → is_reserved (filter (λ g. not (is_left left g)) gs) k ≡ true → is_reserved gs k ≡ true
released_reserved left [] k is = is
released_reserved left (g ∷ gs) k is = by_test (λ later. released_reserved left gs k later) (not (is_left left g)) is
  where
    by_test : (is_reserved (filter (λ x. not (is_left left x)) gs) k ≡ true → is_reserved gs k ≡ true) → (d : Bool) → is_reserved (cond d (g ∷ filter (λ x. not (is_left left x)) gs) (filter (λ x. not (is_left left x)) gs)) k ≡ true → (in_run g.first g.len k || is_reserved gs k) ≡ true
    by_test more true is = ⊎_elim (λ here. or_left (in_run g.first g.len k) (is_reserved gs k) here) (λ later. or_right (in_run g.first g.len k) (is_reserved gs k) (more later)) (or_cases (in_run g.first g.len k) _ is)
    by_test more false is = or_right (in_run g.first g.len k) (is_reserved gs k) (more is)

pub released_fresh : (left : ℕ) (gs : List Given) (k : ℕ) → IsFresh gs k → IsFresh (filter (λ g. not (is_left left g)) gs) k
released_fresh left [] k fresh = absurd fresh
released_fresh left (g ∷ gs) k fresh = ⊎_elim
    (λ here. subst (λ (xs : List Given). IsFresh xs k) (sym (cond-true (not (is_left left g)) (g ∷ filter (λ x. not (is_left left x)) gs) (filter (λ x. not (is_left left x)) gs) (ap not (none_left left g here.1)))) (inl here))
    (λ later. either (not (is_left left g)) (released_fresh left gs k later)) fresh
  where
    either : (d : Bool) → IsFresh (filter (λ x. not (is_left left x)) gs) k → IsFresh (cond d (g ∷ filter (λ x. not (is_left left x)) gs) (filter (λ x. not (is_left left x)) gs)) k
    either true h = inr h
    either false h = h

-- what is held is reserved
pub held_reserved : (n : ℕ) (gs : List Given) (k : ℕ) → IsHeld n gs k → is_reserved gs k ≡ true
held_reserved n [] k held = absurd held
held_reserved n (g ∷ gs) k held = ⊎_elim (λ here. or_left (in_run g.first g.len k) (is_reserved gs k) here.0) (λ later. or_right (in_run g.first g.len k) (is_reserved gs k) (held_reserved n gs k later)) held
