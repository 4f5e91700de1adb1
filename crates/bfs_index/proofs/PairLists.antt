-- The pairs of rows: which are among them, and what they come to where one row changes.
use Rattle.std.proofs.Common.{◌≡◌, ◌≤◌, ◌⊎◌, inl, inr, ◌+◌, ◌∙◌, ℕ, ℤ, zero, suc, List, [], ◌∷◌, ◌++◌, Bool, true, false, cond, ◌==◌, nat_le, refl, sym, ap, ap₂, subst, arith, map}
use Rattle.std.specs.List.{Contains, flat_map}
use Rattle.bfs_base.specs.Lists.{times}
use Rattle.bfs_base.specs.declared.kind.KeyKind.{KeyKind}
use Rattle.bfs_node.specs.Page.{Row}
use Rattle.bfs_pages.specs.Order.{Key, same_keys}
use Rattle.bfs_pages.proofs.KeyOrder.{same_itself}
use Rattle.bfs_pages.proofs.Splice.{self}
use Rattle.bfs_tree.proofs.Members.{In}
use Rattle.bfs_values.specs.Reached.{pairs_of}
use Rattle.bfs_values.specs.Stored.{SameNumbers, with_number}
use Rattle.bfs_values.specs.Values.{values_in, placed}
use Rattle.bfs_values.proofs.ValuedRows.{keyed}
use Rattle.bfs_dups.proofs.Ordered.{with-placed, with-times}
use Rattle.bfs_dups_remove.specs.Lessened.{without_number}

pub contains_in : {A : Type 0} (xs : List A) (x : A) → Contains xs x → In x xs
contains_in [] x (k, h, e) = absurd (omega (arith, h))
contains_in (y ∷ ys) x (zero, h, e) = inl (sym e)
contains_in (y ∷ ys) x (suc k, h, e) = inr (contains_in ys x (k, omega (arith, h), e))

pub in_contains : {A : Type 0} (xs : List A) (x : A) → In x xs → Contains xs x
in_contains [] x h = absurd h
in_contains (y ∷ ys) x (inl e) = (zero, omega arith, sym e)
in_contains (y ∷ ys) x (inr h) = let later = in_contains ys x h in let short = later.1 in (suc later.0, omega (arith, short), later.2)

in_left : {A : Type 0} (xs ys : List A) (x : A) → In x xs → In x (xs ++ ys)
in_left [] ys x h = absurd h
in_left (z ∷ zs) ys x (inl e) = inl e
in_left (z ∷ zs) ys x (inr h) = inr (in_left zs ys x h)

in_right : {A : Type 0} (xs ys : List A) (x : A) → In x ys → In x (xs ++ ys)
in_right [] ys x h = h
in_right (z ∷ zs) ys x h = inr (in_right zs ys x h)

pub in_cases : {A : Type 0} (xs ys : List A) (x : A) → In x (xs ++ ys) → In x xs ⊎ In x ys
in_cases [] ys x h = inr h
in_cases (z ∷ zs) ys x (inl e) = inl (inl e)
in_cases (z ∷ zs) ys x (inr h) = by_cases (in_cases zs ys x h)
  where
    by_cases : In x zs ⊎ In x ys → In x (z ∷ zs) ⊎ In x ys
    by_cases (inl i) = inl (inr i)
    by_cases (inr i) = inr i

-- ---- the pairs of one row

eq_is : (a b : ℕ) → (a == b) ≡ true → a ≡ b
eq_is a b e = grind (arith, e)

pub keyed_pair : Key → ℕ → Key × ℕ
keyed_pair l n = (l, n)

pub in_row : (l k : Key) (n : ℕ) (ns : List ℕ) → In {A = Key × ℕ} (k, n) (map (λ m. (l, m)) ns) → (k ≡ l) × (1 ≤ times n ns)
in_row l k n [] h = absurd h
in_row l k n (m ∷ ms) (inl e) = let same : n ≡ m = ap (λ (p : Key × ℕ). p.1) e in (ap (λ (p : Key × ℕ). p.0) e, subst (λ z. 1 ≤ times z (m ∷ ms)) (sym same) (self m ms))
in_row l k n (m ∷ ms) (inr h) = let i = in_row l k n ms h in let more = i.1 in (i.0, omega (arith, more))

pub row_in : (l k : Key) (n : ℕ) (ns : List ℕ) → k ≡ l → 1 ≤ times n ns → In {A = Key × ℕ} (k, n) (map (λ m. (l, m)) ns)
row_in l k n [] e some = absurd (omega (arith, some))
row_in l k n (m ∷ ms) e some = by_test (m == n) refl some (λ s. row_in l k n ms e s)
  where
    by_test : (t : Bool) → (m == n) ≡ t → 1 ≤ cond t 1 0 + times n ms → (1 ≤ times n ms → In {A = Key × ℕ} (k, n) (map (λ m. (l, m)) ms)) → In {A = Key × ℕ} (k, n) (map (λ m. (l, m)) (m ∷ ms))
    by_test true same s more = let is : n ≡ m = sym (eq_is m n same) in inl (λ i. (e i, is i))
    by_test false same s more = inr (more (omega (arith, s)))

-- ---- the pairs of rows

abbrev pub pairs_by : List ℕ → List Row → List (Key × ℕ)
pairs_by b rows = flat_map (pairs_of b) rows

pub pairs_same : (b c : List ℕ) (rows : List Row) → SameNumbers b c rows → pairs_by c rows ≡ pairs_by b rows
pairs_same b c [] same = refl
pairs_same b c (r ∷ rs) same = ap₂ (λ (xs ys : List (Key × ℕ)). xs ++ ys) (ap (λ (ns : List ℕ). map (λ n. (r.0, n)) ns) same.0) (pairs_same b c rs same.1)

-- pairs, with a key that has these numbers between others
abbrev pub Parts : List (Key × ℕ) → Key → List ℕ → List (Key × ℕ) → Key → ℕ → Type 0
Parts fs key ns bs k n = In {A = Key × ℕ} (k, n) fs ⊎ (((k ≡ key) × (1 ≤ times n ns)) ⊎ In {A = Key × ℕ} (k, n) bs)

abbrev Amid : List ℕ → List Row → Key → ℤ → List Row → Key → ℕ → Type 0
Amid b front key v back k n = In {A = Key × ℕ} (k, n) (pairs_by b front) ⊎ (((k ≡ key) × (1 ≤ times n (values_in b v))) ⊎ In {A = Key × ℕ} (k, n) (pairs_by b back))

pub in_amid : (b : List ℕ) (front : List Row) (key : Key) (v : ℤ) (back : List Row) (k : Key) (n : ℕ) → In {A = Key × ℕ} (k, n) (pairs_by b (front ++ ((key, v) ∷ back))) → Amid b front key v back k n
in_amid b [] key v back k n h = by_cases (in_cases (map (λ m. (key, m)) (values_in b v)) (pairs_by b back) (k, n) h)
  where
    by_cases : In {A = Key × ℕ} (k, n) (map (λ m. (key, m)) (values_in b v)) ⊎ In {A = Key × ℕ} (k, n) (pairs_by b back) → Amid b [] key v back k n
    by_cases (inl i) = inr (inl (in_row key k n (values_in b v) i))
    by_cases (inr i) = inr (inr i)
in_amid b (r ∷ rs) key v back k n h = by_cases (in_cases (pairs_of b r) (pairs_by b (rs ++ ((key, v) ∷ back))) (k, n) h) (λ i. in_amid b rs key v back k n i)
  where
    later : Amid b rs key v back k n → Amid b (r ∷ rs) key v back k n
    later (inl i) = inl (in_right (pairs_of b r) (pairs_by b rs) (k, n) i)
    later (inr i) = inr i

    by_cases : In {A = Key × ℕ} (k, n) (pairs_of b r) ⊎ In {A = Key × ℕ} (k, n) (pairs_by b (rs ++ ((key, v) ∷ back))) → (In {A = Key × ℕ} (k, n) (pairs_by b (rs ++ ((key, v) ∷ back))) → Amid b rs key v back k n) → Amid b (r ∷ rs) key v back k n
    by_cases (inl i) more = inl (in_left (pairs_of b r) (pairs_by b rs) (k, n) i)
    by_cases (inr i) more = later (more i)

pub amid_in : (b : List ℕ) (front : List Row) (key : Key) (v : ℤ) (back : List Row) (k : Key) (n : ℕ) → Amid b front key v back k n → In {A = Key × ℕ} (k, n) (pairs_by b (front ++ ((key, v) ∷ back)))
amid_in b [] key v back k n (inl i) = absurd i
amid_in b [] key v back k n (inr (inl i)) = in_left (map (λ m. (key, m)) (values_in b v)) (pairs_by b back) (k, n) (row_in key k n (values_in b v) i.0 i.1)
amid_in b [] key v back k n (inr (inr i)) = in_right (map (λ m. (key, m)) (values_in b v)) (pairs_by b back) (k, n) i
amid_in b (r ∷ rs) key v back k n h = by_cases h (λ i. amid_in b rs key v back k n i)
  where
    whole : List Row
    whole = rs ++ ((key, v) ∷ back)

    first : In {A = Key × ℕ} (k, n) (pairs_of b r) ⊎ In {A = Key × ℕ} (k, n) (pairs_by b rs) → (Amid b rs key v back k n → In {A = Key × ℕ} (k, n) (pairs_by b (rs ++ ((key, v) ∷ back)))) → In {A = Key × ℕ} (k, n) (pairs_of b r ++ pairs_by b (rs ++ ((key, v) ∷ back)))
    first (inl i) more = in_left (pairs_of b r) (pairs_by b (rs ++ ((key, v) ∷ back))) (k, n) i
    first (inr i) more = in_right (pairs_of b r) (pairs_by b (rs ++ ((key, v) ∷ back))) (k, n) (more (inl i))

    by_cases : Amid b (r ∷ rs) key v back k n → (Amid b rs key v back k n → In {A = Key × ℕ} (k, n) (pairs_by b (rs ++ ((key, v) ∷ back)))) → In {A = Key × ℕ} (k, n) (pairs_of b r ++ pairs_by b (rs ++ ((key, v) ∷ back)))
    by_cases (inl i) more = first (in_cases (pairs_of b r) (pairs_by b rs) (k, n) i) more
    by_cases (inr i) more = in_right (pairs_of b r) (pairs_by b (rs ++ ((key, v) ∷ back))) (k, n) (more (inr i))

pub in_apart : (b : List ℕ) (front back : List Row) (k : Key) (n : ℕ) → In {A = Key × ℕ} (k, n) (pairs_by b (front ++ back)) → In {A = Key × ℕ} (k, n) (pairs_by b front) ⊎ In {A = Key × ℕ} (k, n) (pairs_by b back)
in_apart b [] back k n h = inr h
in_apart b (r ∷ rs) back k n h = by_cases (in_cases (pairs_of b r) (pairs_by b (rs ++ back)) (k, n) h) (λ i. in_apart b rs back k n i)
  where
    later : In {A = Key × ℕ} (k, n) (pairs_by b rs) ⊎ In {A = Key × ℕ} (k, n) (pairs_by b back) → In {A = Key × ℕ} (k, n) (pairs_by b (r ∷ rs)) ⊎ In {A = Key × ℕ} (k, n) (pairs_by b back)
    later (inl i) = inl (in_right (pairs_of b r) (pairs_by b rs) (k, n) i)
    later (inr i) = inr i

    by_cases : In {A = Key × ℕ} (k, n) (pairs_of b r) ⊎ In {A = Key × ℕ} (k, n) (pairs_by b (rs ++ back)) → (In {A = Key × ℕ} (k, n) (pairs_by b (rs ++ back)) → In {A = Key × ℕ} (k, n) (pairs_by b rs) ⊎ In {A = Key × ℕ} (k, n) (pairs_by b back)) → In {A = Key × ℕ} (k, n) (pairs_by b (r ∷ rs)) ⊎ In {A = Key × ℕ} (k, n) (pairs_by b back)
    by_cases (inl i) more = inl (in_left (pairs_of b r) (pairs_by b rs) (k, n) i)
    by_cases (inr i) more = later (more i)

pub apart_in : (b : List ℕ) (front back : List Row) (k : Key) (n : ℕ) → In {A = Key × ℕ} (k, n) (pairs_by b front) ⊎ In {A = Key × ℕ} (k, n) (pairs_by b back) → In {A = Key × ℕ} (k, n) (pairs_by b (front ++ back))
apart_in b [] back k n (inl i) = absurd i
apart_in b [] back k n (inr i) = i
apart_in b (r ∷ rs) back k n h = by_cases h (λ i. apart_in b rs back k n i)
  where
    first : In {A = Key × ℕ} (k, n) (pairs_of b r) ⊎ In {A = Key × ℕ} (k, n) (pairs_by b rs) → (In {A = Key × ℕ} (k, n) (pairs_by b rs) ⊎ In {A = Key × ℕ} (k, n) (pairs_by b back) → In {A = Key × ℕ} (k, n) (pairs_by b (rs ++ back))) → In {A = Key × ℕ} (k, n) (pairs_of b r ++ pairs_by b (rs ++ back))
    first (inl i) more = in_left (pairs_of b r) (pairs_by b (rs ++ back)) (k, n) i
    first (inr i) more = in_right (pairs_of b r) (pairs_by b (rs ++ back)) (k, n) (more (inl i))

    by_cases : In {A = Key × ℕ} (k, n) (pairs_by b (r ∷ rs)) ⊎ In {A = Key × ℕ} (k, n) (pairs_by b back) → (In {A = Key × ℕ} (k, n) (pairs_by b rs) ⊎ In {A = Key × ℕ} (k, n) (pairs_by b back) → In {A = Key × ℕ} (k, n) (pairs_by b (rs ++ back))) → In {A = Key × ℕ} (k, n) (pairs_of b r ++ pairs_by b (rs ++ back))
    by_cases (inl i) more = first (in_cases (pairs_of b r) (pairs_by b rs) (k, n) i) more
    by_cases (inr i) more = in_right (pairs_of b r) (pairs_by b (rs ++ back)) (k, n) (more (inr i))

-- a pair's key is the key of a row
pub pair_keyed : (kind : KeyKind) (b : List ℕ) (rows : List Row) (k : Key) (n : ℕ) → In {A = Key × ℕ} (k, n) (pairs_by b rows) → 1 ≤ keyed kind k rows
pair_keyed kind b [] k n h = absurd h
pair_keyed kind b (r ∷ rs) k n h = by_cases (in_cases (pairs_of b r) (pairs_by b rs) (k, n) h) (λ i. pair_keyed kind b rs k n i)
  where
    by_cases : In {A = Key × ℕ} (k, n) (pairs_of b r) ⊎ In {A = Key × ℕ} (k, n) (pairs_by b rs) → (In {A = Key × ℕ} (k, n) (pairs_by b rs) → 1 ≤ keyed kind k rs) → 1 ≤ cond (same_keys kind k r.0) 1 0 + keyed kind k rs
    by_cases (inl i) more =
        let same : k ≡ r.0 = (in_row r.0 k n (values_in b r.1) i).0 in
        let test : same_keys kind k r.0 ≡ true = subst (λ (z : Key). same_keys kind k z ≡ true) same (same_itself kind k) in
        let one : cond (same_keys kind k r.0) 1 0 + keyed kind k rs ≡ 1 + keyed kind k rs = ap (λ t. cond t 1 0 + keyed kind k rs) test in
        omega (arith, one)
    by_cases (inr i) more = let some = more i in omega (arith, some)

-- ---- numbers with one, and without one

pub with_has : (m n : ℕ) (ns : List ℕ) → 1 ≤ times m (with_number n ns) → (1 ≤ times m ns) ⊎ (m ≡ n)
with_has m n ns h = by_test (nat_le 1 (times n ns)) h
  where
    cases : (m n : ℕ) (rest : ℕ) → 1 ≤ times m (n ∷ []) + rest → (1 ≤ rest) ⊎ (m ≡ n)
    cases m n rest h = by_eq (n == m) refl h
      where
        by_eq : (t : Bool) → (n == m) ≡ t → 1 ≤ (cond t 1 0 + 0) + rest → (1 ≤ rest) ⊎ (m ≡ n)
        by_eq true e h = inr (sym (eq_is n m e))
        by_eq false e h = inl (omega (arith, h))

    by_test : (t : Bool) → 1 ≤ times m (cond t ns (placed n ns)) → (1 ≤ times m ns) ⊎ (m ≡ n)
    by_test true h = inl h
    by_test false h = cases m n (times m ns) (subst (λ z. 1 ≤ z) (with-times n m ns (placed n ns) (with-placed n ns)) h)

pub has_with : (m n : ℕ) (ns : List ℕ) → (1 ≤ times m ns) ⊎ (m ≡ n) → 1 ≤ times m (with_number n ns)
has_with m n ns h = by_test (nat_le 1 (times n ns)) refl h
  where
    le_yes : (a b : ℕ) → nat_le a b ≡ true → a ≤ b
    le_yes a b e = grind (arith, e)

    count : times m (placed n ns) ≡ times m (n ∷ []) + times m ns
    count = with-times n m ns (placed n ns) (with-placed n ns)

    by_test : (t : Bool) → nat_le 1 (times n ns) ≡ t → (1 ≤ times m ns) ⊎ (m ≡ n) → 1 ≤ times m (cond t ns (placed n ns))
    by_test true e (inl i) = i
    by_test true e (inr same) = subst (λ z. 1 ≤ times z ns) (sym same) (le_yes 1 (times n ns) e)
    by_test false e (inl i) = omega (arith, i, count)
    by_test false e (inr same) = let one : 1 ≤ times m (n ∷ []) = subst (λ z. 1 ≤ times z (n ∷ [])) (sym same) (self n []) in omega (arith, one, count)

pub without_has : (m n : ℕ) (ns : List ℕ) → 1 ≤ times m (without_number n ns) → (1 ≤ times m ns) × (m ≡ n → ⊥)
without_has m n [] h = absurd (omega (arith, h))
without_has m n (x ∷ xs) h = by_test (x == n) refl h (λ i. without_has m n xs i)
  where
    off : (a b : ℕ) → (a == b) ≡ false → a ≡ b → ⊥
    off a b e s = grind (arith, e, s)

    first : (t : Bool) → (x == m) ≡ t → (x == n) ≡ false → 1 ≤ cond t 1 0 + times m (without_number n xs) → (1 ≤ times m (without_number n xs) → (1 ≤ times m xs) × (m ≡ n → ⊥)) → (1 ≤ cond t 1 0 + times m xs) × (m ≡ n → ⊥)
    first true e f h more = (omega arith, λ s. off x n f (eq_is x m e ∙ s))
    first false e f h more = let i = more (omega (arith, h)) in let some = i.0 in (omega (arith, some), i.1)

    by_test : (t : Bool) → (x == n) ≡ t → 1 ≤ times m (cond t (without_number n xs) (x ∷ without_number n xs)) → (1 ≤ times m (without_number n xs) → (1 ≤ times m xs) × (m ≡ n → ⊥)) → (1 ≤ times m (x ∷ xs)) × (m ≡ n → ⊥)
    by_test true e h more = let i = more h in let some = i.0 in (omega (arith, some), i.1)
    by_test false e h more = first (x == m) refl e h more

pub has_without : (m n : ℕ) (ns : List ℕ) → 1 ≤ times m ns → (m ≡ n → ⊥) → 1 ≤ times m (without_number n ns)
has_without m n [] h other = absurd (omega (arith, h))
has_without m n (x ∷ xs) h other = by_test (x == n) refl (λ i. has_without m n xs i other)
  where
    off_first : (t : Bool) → (x == m) ≡ t → x ≡ n → 1 ≤ cond t 1 0 + times m xs → 1 ≤ times m xs
    off_first true e f h = absurd (other (sym (eq_is x m e) ∙ f))
    off_first false e f h = omega (arith, h)

    keeps : (t : Bool) → 1 ≤ cond t 1 0 + times m xs → (1 ≤ times m xs → 1 ≤ times m (without_number n xs)) → 1 ≤ cond t 1 0 + times m (without_number n xs)
    keeps true h more = omega arith
    keeps false h more = let i = more (omega (arith, h)) in omega (arith, i)

    by_test : (t : Bool) → (x == n) ≡ t → (1 ≤ times m xs → 1 ≤ times m (without_number n xs)) → 1 ≤ times m (cond t (without_number n xs) (x ∷ without_number n xs))
    by_test true e more = more (off_first (x == m) refl (eq_is x n e) h)
    by_test false e more = keeps (x == m) h more
