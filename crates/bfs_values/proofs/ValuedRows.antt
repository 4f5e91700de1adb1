-- Rows, where that of a key has another value.
use Rattle.std.proofs.Common.{◌≡◌, ◌≤◌, ◌<◌, ◌+◌, ℕ, ℤ, zero, suc, List, [], ◌∷◌, ◌++◌, length, Some, None, Bool, true, false, cond, refl, ap, ap₂, sym, ◌∙◌, subst, arith}
use Rattle.std.specs.Prelude.{slice_set}
use Rattle.std.specs.List.{AllByRecursion}
use Rattle.bfs_base.specs.declared.kind.KeyKind.{KeyKind}
use Rattle.bfs_node.specs.Page.{Row, row_in, key_of, HasKeys}
use Rattle.bfs_node.specs.Search.{key_at}
use Rattle.bfs_pages.specs.Maps.{assoc}
use Rattle.bfs_pages.specs.Order.{Key, comes_before, same_keys}
use Rattle.bfs_pages.specs.Ways.{KeysAscend}
use Rattle.bfs_pages.proofs.KeyOrder.{less_not_same, same_before, same_itself}
use Rattle.bfs_values.specs.Sets.{with_value}

-- how many rows have a key
abbrev pub keyed : KeyKind → Key → List Row → ℕ
keyed kind k [] = 0
keyed kind k (r ∷ rs) = cond (same_keys kind k r.0) 1 0 + keyed kind k rs

pub keyed-append : (kind : KeyKind) (k : Key) (xs ys : List Row) → keyed kind k (xs ++ ys) ≡ keyed kind k xs + keyed kind k ys
keyed-append kind k [] ys = omega arith
keyed-append kind k (x ∷ xs) ys = omega (arith, keyed-append kind k xs ys)

-- none has a key below all of them
keyed-none : (kind : KeyKind) (k : Key) (rows : List Row) → AllByRecursion (λ s. comes_before kind k s.0 ≡ true) rows → keyed kind k rows ≡ 0
keyed-none kind k [] a = refl
keyed-none kind k (r ∷ rs) a = let n : keyed kind k (r ∷ rs) ≡ 0 + keyed kind k rs = ap (λ c. cond c 1 0 + keyed kind k rs) (less_not_same kind k r.0 a.0) in omega (arith, n, keyed-none kind k rs a.1)

pub keyed-most : (kind : KeyKind) (k : Key) (rows : List Row) → KeysAscend kind rows → keyed kind k rows ≤ 1
keyed-most kind k [] up = omega arith
keyed-most kind k (r ∷ rs) up = by_test (same_keys kind k r.0) refl (keyed-most kind k rs up.1)
  where
    all_above : same_keys kind k r.0 ≡ true → (xs : List Row) → AllByRecursion (λ s. comes_before kind r.0 s.0 ≡ true) xs → AllByRecursion (λ s. comes_before kind k s.0 ≡ true) xs
    all_above h [] a = tt
    all_above h (x ∷ xs) a = (same_before kind k r.0 x.0 h ∙ a.0, all_above h xs a.1)

    by_test : (c : Bool) → same_keys kind k r.0 ≡ c → keyed kind k rs ≤ 1 → cond c 1 0 + keyed kind k rs ≤ 1
    by_test true e ih = omega (arith, keyed-none kind k rs (all_above e rs up.0))
    by_test false e ih = omega (arith, ih)

pub keyed-some : (kind : KeyKind) (k : Key) (v : ℤ) (rows : List Row) → assoc kind rows k ≡ Some v → 1 ≤ keyed kind k rows
keyed-some kind k v [] e = absurd (no e)
  where
    no : None ≡ Some v → ⊥
    no e = cc
keyed-some kind k v (r ∷ rs) e = by_test (same_keys kind k r.0) e (λ h. keyed-some kind k v rs h)
  where
    by_test : (c : Bool) → cond c (Some r.1) (assoc kind rs k) ≡ Some v → (assoc kind rs k ≡ Some v → 1 ≤ keyed kind k rs) → 1 ≤ cond c 1 0 + keyed kind k rs
    by_test true e ih = omega arith
    by_test false e ih = let i = ih e in omega (arith, i)

pub value-none : (kind : KeyKind) (k : Key) (v : ℤ) (rows : List Row) → keyed kind k rows ≡ 0 → with_value kind rows k v ≡ rows
value-none kind k v [] n = refl
value-none kind k v (r ∷ rs) n = by_test (same_keys kind k r.0) n (λ h. value-none kind k v rs h)
  where
    by_test : (c : Bool) → cond c 1 0 + keyed kind k rs ≡ 0 → (keyed kind k rs ≡ 0 → with_value kind rs k v ≡ rs) → cond c (r.0, v) r ∷ with_value kind rs k v ≡ r ∷ rs
    by_test true n ih = absurd (omega (arith, n))
    by_test false n ih = ap (λ l. r ∷ l) (ih (omega (arith, n)))

pub value-append : (kind : KeyKind) (k : Key) (v : ℤ) (xs ys : List Row) → with_value kind (xs ++ ys) k v ≡ with_value kind xs k v ++ with_value kind ys k v
value-append kind k v [] ys = refl
value-append kind k v (x ∷ xs) ys = ap (λ l. cond (same_keys kind k x.0) (x.0, v) x ∷ l) (value-append kind k v xs ys)

pub value-row : (kind : KeyKind) (k l : Key) (old v : ℤ) (front back : List Row) → same_keys kind k l ≡ true → keyed kind k (front ++ ((l, old) ∷ back)) ≤ 1
    → with_value kind (front ++ ((l, old) ∷ back)) k v ≡ front ++ ((l, v) ∷ back)
value-row kind k l old v front back e most =
    value-append kind k v front ((l, old) ∷ back)
    ∙ ap₂ (λ a b. a ++ b) (value-none kind k v front before) (ap₂ (λ c z. cond c (l, v) (l, old) ∷ z) e (value-none kind k v back behind))
  where
    one : keyed kind k ((l, old) ∷ back) ≡ 1 + keyed kind k back
    one = ap (λ c. cond c 1 0 + keyed kind k back) e

    before : keyed kind k front ≡ 0
    before = omega (arith, most, one, keyed-append kind k front ((l, old) ∷ back))

    behind : keyed kind k back ≡ 0
    behind = omega (arith, most, one, keyed-append kind k front ((l, old) ∷ back))

-- the row at a place is that of the key
pub value-at : (kind : KeyKind) (k : Key) (v : ℤ) (rows : List Row) (i : ℕ) → KeysAscend kind rows → i < length rows → key_at rows i ≡ k → slice_set rows i (key_of (row_in rows i), v) ≡ with_value kind rows k v
value-at kind k v [] i up h e = absurd (omega (arith, h))
value-at kind k v (r ∷ rs) zero up h e =
    let same : same_keys kind k r.0 ≡ true = subst (λ z. same_keys kind z r.0 ≡ true) e (same_itself kind r.0) in
    ap (λ l. (r.0, v) ∷ l) (sym (value-none kind k v rs (rest same (keyed-most kind k (r ∷ rs) up)))) ∙ ap (λ c. cond c (r.0, v) r ∷ with_value kind rs k v) (sym same)
  where
    rest : same_keys kind k r.0 ≡ true → keyed kind k (r ∷ rs) ≤ 1 → keyed kind k rs ≡ 0
    rest same most = let one : keyed kind k (r ∷ rs) ≡ 1 + keyed kind k rs = ap (λ c. cond c 1 0 + keyed kind k rs) same in omega (arith, most, one)
value-at kind k v (r ∷ rs) (suc i) up h e =
    ap (λ l. r ∷ l) (value-at kind k v rs i up.1 (omega (arith, h)) e) ∙ ap (λ c. cond c (r.0, v) r ∷ with_value kind rs k v) (sym (off (keyed-most kind k (r ∷ rs) up)))
  where
    there : (xs : List Row) (j : ℕ) → j < length xs → key_at xs j ≡ k → 1 ≤ keyed kind k xs
    there [] j h e = absurd (omega (arith, h))
    there (x ∷ xs) zero h e =
        let same : same_keys kind k x.0 ≡ true = subst (λ z. same_keys kind z x.0 ≡ true) e (same_itself kind x.0) in
        let one : keyed kind k (x ∷ xs) ≡ 1 + keyed kind k xs = ap (λ c. cond c 1 0 + keyed kind k xs) same in
        omega (arith, one)
    there (x ∷ xs) (suc j) h e = omega (arith, there xs j (omega (arith, h)) e)

    off : keyed kind k (r ∷ rs) ≤ 1 → same_keys kind k r.0 ≡ false
    off most = by_test (same_keys kind k r.0) most (there rs i (omega (arith, h)) e)
      where
        by_test : (c : Bool) → cond c 1 0 + keyed kind k rs ≤ 1 → 1 ≤ keyed kind k rs → c ≡ false
        by_test true m n = absurd (omega (arith, m, n))
        by_test false m n = refl

-- the keys are those that were there
pub keys-set : (kind : KeyKind) (rows : List Row) (i : ℕ) (v : ℤ) → HasKeys kind rows → HasKeys kind (slice_set rows i (key_of (row_in rows i), v))
keys-set kind [] i v h j l = h j l
keys-set kind (r ∷ rs) zero v h zero l = h zero (omega arith)
keys-set kind (r ∷ rs) zero v h (suc j) l = h (suc j) (omega (arith, l))
keys-set kind (r ∷ rs) (suc i) v h zero l = h zero (omega arith)
keys-set kind (r ∷ rs) (suc i) v h (suc j) l = keys-set kind rs i v (λ m n. h (suc m) (omega (arith, n))) j (omega (arith, l))
