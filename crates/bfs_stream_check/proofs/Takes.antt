-- Runs that are used are taken from one list of runs after the other.
use Rattle.std.proofs.Common.{◌≡◌, ◌≤◌, ◌<◌, ◌+◌, ◌*◌, ℕ, zero, suc, List, [], ◌∷◌, ◌++◌, length, Bool, true, false, cond, refl, sym, ap, ◌∙◌, subst, arith, append_assoc, length-append, inl, inr, ◌⊎◌}
use Rattle.std.specs.Prelude.{All, ◌==◌, IsTrue, ◌↔◌}
use Rattle.std.proofs.lemmas.List.Elements.{All-append, All-cons, All-nil}
use Rattle.bfs_bytes.specs.declared.Run.{Run}
use Rattle.bfs_stream.specs.Sizes.{Sizes}
use Rattle.bfs_stream.specs.Places.{used_runs}
use Rattle.bfs_sound.specs.Owners.{In}
use Rattle.bfs_stream_check.specs.declared.fault.ReadFault.{ReadFault}
use Rattle.bfs_stream_check.specs.declared.fault.ReadFault.TheVariants.{Wrong, Block}
use Rattle.bfs_stream_check.specs.Read.{IsRunFault, IsRunsFault, IsTaken}

-- the first of some runs is used
pub used_more : (r : Run) (rs : List Run) → (r.len ≡ 0 → ⊥) → used_runs (r ∷ rs) ≡ r ∷ used_runs rs
used_more r rs some = let e : (r.len == 0) ≡ false = grind (arith, some) in ap (λ (b : Bool). cond b [] (r ∷ used_runs rs)) e

-- the first of some runs ends them
pub used_end : (r : Run) (rs : List Run) → r.len ≡ 0 → used_runs (r ∷ rs) ≡ []
used_end r rs none = let e : (r.len == 0) ≡ true = grind (arith, none) in ap (λ (b : Bool). cond b [] (r ∷ used_runs rs)) e

-- used runs are no more than all
pub used_few : (rs : List Run) → length (used_runs rs) ≤ length rs
used_few [] = omega arith
used_few (r ∷ rs) = by_test (r.len == 0) (used_few rs)
  where
    by_test : (b : Bool) → length (used_runs rs) ≤ length rs → length (cond b [] (r ∷ used_runs rs)) ≤ suc (length rs)
    by_test true h = omega arith
    by_test false h = omega (arith, h)

-- where all are used, they are themselves
pub all_used : (rs : List Run) → length (used_runs rs) ≡ length rs → used_runs rs ≡ rs
all_used [] h = refl
all_used (r ∷ rs) h = by_test (r.len == 0) h (all_used rs)
  where
    by_test : (b : Bool) → length (cond b [] (r ∷ used_runs rs)) ≡ suc (length rs) → (length (used_runs rs) ≡ length rs → used_runs rs ≡ rs) → cond b [] (r ∷ used_runs rs) ≡ r ∷ rs
    by_test true h rest = let none : length {A = Run} [] ≡ suc (length rs) = h in absurd (omega (arith, none))
    by_test false h rest = ap (λ (l : List Run). r ∷ l) (rest (let e : suc (length (used_runs rs)) ≡ suc (length rs) = h in omega (arith, e)))

-- behind runs that are all used the next ones count
pub used_behind : (rs more : List Run) → used_runs rs ≡ rs → used_runs (rs ++ more) ≡ rs ++ used_runs more
used_behind [] more h = refl
used_behind (r ∷ rs) more h = by_test (r.len == 0) h (used_behind rs more)
  where
    tail : r ∷ used_runs rs ≡ r ∷ rs → used_runs rs ≡ rs
    tail e = cc

    none : [] ≡ r ∷ rs → ⊥
    none e = cc

    by_test : (b : Bool) → cond b [] (r ∷ used_runs rs) ≡ r ∷ rs → (used_runs rs ≡ rs → used_runs (rs ++ more) ≡ rs ++ used_runs more) → cond b [] (r ∷ used_runs (rs ++ more)) ≡ r ∷ (rs ++ used_runs more)
    by_test true h rest = absurd (none h)
    by_test false h rest = ap (λ (l : List Run). r ∷ l) (rest (tail h))

-- behind runs that aren't all used none counts
pub used_before : (rs more : List Run) → (length (used_runs rs) ≡ length rs → ⊥) → used_runs (rs ++ more) ≡ used_runs rs
used_before [] more h = absurd (h refl)
used_before (r ∷ rs) more h = by_test (r.len == 0) h (used_before rs more)
  where
    by_test : (b : Bool) → (length (cond b [] (r ∷ used_runs rs)) ≡ suc (length rs) → ⊥) → ((length (used_runs rs) ≡ length rs → ⊥) → used_runs (rs ++ more) ≡ used_runs rs) → cond b [] (r ∷ used_runs (rs ++ more)) ≡ cond b [] (r ∷ used_runs rs)
    by_test true h rest = refl
    by_test false h rest = ap (λ (l : List Run). r ∷ l) (rest (λ e. h (ap suc e)))

-- a run among those that are used is one where more follow
pub in_front : (rs more : List Run) (x : Run) → In x (used_runs rs) → In x (used_runs (rs ++ more))
in_front [] more x i = absurd i
in_front (r ∷ rs) more x i = by_test (r.len == 0) i (in_front rs more x)
  where
    by_test : (b : Bool) → In x (cond b [] (r ∷ used_runs rs)) → (In x (used_runs rs) → In x (used_runs (rs ++ more))) → In x (cond b [] (r ∷ used_runs (rs ++ more)))
    by_test true i rest = i
    by_test false (inl e) rest = inl e
    by_test false (inr i) rest = inr (rest i)

pub in_back : (xs ys : List Run) (x : Run) → In x ys → In x (xs ++ ys)
in_back [] ys x i = i
in_back (y ∷ xs) ys x i = inr (in_back xs ys x i)

-- a fault among some runs is one where all runs before them are used, and more follow
module _ (s : Sizes) (whole : Bool) (part this rest : List Run) (used : used_runs part ≡ part) where
  pub in_all : (x : Run) → In x (used_runs this) → In x (used_runs (part ++ (this ++ rest)))
  in_all x i = subst (λ (l : List Run). In x l) (sym (used_behind part (this ++ rest) used)) (in_back part (used_runs (this ++ rest)) x (in_front this rest x i))

  pub fault_in : (f : ReadFault) → IsRunsFault s whole (used_runs this) f → IsRunsFault s whole (used_runs (part ++ (this ++ rest))) f
  fault_in (Wrong w) (run, i, wrong) = (run, in_all run i, wrong)
  fault_in (Block fault) h = h

-- so many runs were taken, and each of them is used
pub record IsOn (part before now : List Run) : Type 0 where
  pub items : now ≡ before ++ part
  pub used : used_runs part ≡ part

pub on_start : (before : List Run) → IsOn [] before before
on_start before = record { items = sym (append_nil before); used = refl }
  where
    append_nil : (xs : List Run) → xs ++ [] ≡ xs
    append_nil [] = refl
    append_nil (x ∷ xs) = ap (λ (l : List Run). x ∷ l) (append_nil xs)

pub on_more : (part before now next : List Run) (r : Run) → IsOn part before now → (r.len ≡ 0 → ⊥) → next ≡ now ++ r ∷ [] → IsOn (part ++ r ∷ []) before next
on_more part before now next r on some e = record {
  items = e ∙ ap (λ (l : List Run). l ++ r ∷ []) on.items ∙ append_assoc before part (r ∷ []);
  used = used_behind part (r ∷ []) on.used ∙ ap (λ (l : List Run). part ++ l) (used_more r [] some);
}

-- a list of runs after them was taken whole
pub on_joined : (part before now next this : List Run) → IsOn part before now → IsTaken this now next true → IsOn (part ++ this) before next
on_joined part before now next this on taken =
    let self : used_runs this ≡ this = all_used this (taken.ends.0 refl) in record {
      items = taken.items ∙ ap (λ (l : List Run). l ++ used_runs this) on.items ∙ ap (λ (l : List Run). (before ++ part) ++ l) self ∙ append_assoc before part this;
      used = used_behind part this on.used ∙ ap (λ (l : List Run). part ++ l) self;
    }

length_less : (part this rest : List Run) → (length (used_runs this) ≡ length this → ⊥) → length (part ++ used_runs this) ≡ length (part ++ (this ++ rest)) → ⊥
length_less part this rest other e =
    let few = used_few this in
    let a = length-append part (used_runs this) in
    let b = length-append part (this ++ rest) in
    let c = length-append this rest in
    other (omega (arith, few, a, b, c, e))

-- the next list of runs ends them
pub taken_stop : (part before now next this rest : List Run) → IsOn part before now → IsTaken this now next false → IsTaken (part ++ (this ++ rest)) before next false
taken_stop part before now next this rest on taken =
    let other : length (used_runs this) ≡ length this → ⊥ = λ e. let bad : false ≡ true = taken.ends.1 e in cc in
    let all : used_runs (part ++ (this ++ rest)) ≡ part ++ used_runs this =
    used_behind part (this ++ rest) on.used ∙ ap (λ (l : List Run). part ++ l) (used_before this rest other) in record {
      items = taken.items ∙ ap (λ (l : List Run). l ++ used_runs this) on.items ∙ append_assoc before part (used_runs this) ∙ ap (λ (l : List Run). before ++ l) (sym all);
      ends = (λ t. let bad : false ≡ true = t in cc, λ e. absurd (length_less part this rest other (ap length (sym all) ∙ e)));
    }

-- a run without blocks does
pub taken_end : (part before now : List Run) (r : Run) (rest : List Run) → IsOn part before now → r.len ≡ 0 → IsTaken (part ++ (r ∷ rest)) before now false
taken_end part before now r rest on none =
    taken_stop part before now now (r ∷ []) rest on (record {
      items = sym (append_nil now) ∙ ap (λ (l : List Run). now ++ l) (sym (used_end r [] none));
      ends = (λ t. let bad : false ≡ true = t in cc, λ e. let z = ap length (used_end r [] none) in absurd (no_more (sym z ∙ e)));
    })
  where
    append_nil : (xs : List Run) → xs ++ [] ≡ xs
    append_nil [] = refl
    append_nil (x ∷ xs) = ap (λ (l : List Run). x ∷ l) (append_nil xs)

    no_more : length {A = Run} [] ≡ length (r ∷ []) → ⊥
    no_more e = omega (arith, e)

-- all of them were taken
pub taken_all : (part before now : List Run) → IsOn part before now → IsTaken part before now true
taken_all part before now on = record {
  items = on.items ∙ ap (λ (l : List Run). before ++ l) (sym on.used);
  ends = (λ t. ap length on.used, λ e. refl);
}

-- one more of those that are so
pub all_more : (P : Run → Type 0) (now next : List Run) (r : Run) → next ≡ now ++ r ∷ [] → All P now → P r → All P next
all_more P now next r e all one = subst (λ (l : List Run). All P l) (sym e) (All-append P now (r ∷ []) all (All-cons P r [] one (All-nil P)))
