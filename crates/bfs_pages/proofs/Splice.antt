-- Children in the place of one: entries, depth, pages, leaves.
use Rattle.std.proofs.Common.{◌≡◌, ◌≤◌, ◌+◌, ℕ, List, [], ◌∷◌, ◌++◌, Option, Bool, true, false, cond, refl, ap, sym, ◌∙◌, arith, append_assoc, append-nil}
use Rattle.std.specs.List.{AllByRecursion}
use Rattle.bfs_node.specs.Lists.{times}
use Rattle.bfs_node.specs.BaseKeyKind.{KeyKind}
use Rattle.bfs_pages.specs.Order.{Key, comes_before, at_most}
use Rattle.bfs_pages.specs.Shapes.{Body, Shape, Shapes, leaf_shape, node_shape, last_shape, more_shapes, met_by, met_by_all, leaves_of, leaves_all, AreDeep, Stands, StandAll, Entry, a_bound, entries_of, entries_all, IsAbove, Precedes, AscendAll}
use Rattle.bfs_pages.specs.Ways.{child_for, joined, spliced, before, behind, leaves_before, leaves_behind}
use Rattle.bfs_pages.proofs.KeyOrder.{IsBelow, not_most, below_bound, above_bound}

pub all-append : (P : Entry → Type 0) (xs ys : List Entry) → AllByRecursion P xs → AllByRecursion P ys → AllByRecursion P (xs ++ ys)
all-append P [] ys a b = b
all-append P (x ∷ xs) ys a b = (a.0, all-append P xs ys a.1 b)

pub all-left : (P : Entry → Type 0) (xs ys : List Entry) → AllByRecursion P (xs ++ ys) → AllByRecursion P xs
all-left P [] ys a = tt
all-left P (x ∷ xs) ys a = (a.0, all-left P xs ys a.1)

pub all-right : (P : Entry → Type 0) (xs ys : List Entry) → AllByRecursion P (xs ++ ys) → AllByRecursion P ys
all-right P [] ys a = a
all-right P (x ∷ xs) ys a = all-right P xs ys a.1

pub all-more : (P Q : Entry → Type 0) → ((e : Entry) → P e → Q e) → (xs : List Entry) → AllByRecursion P xs → AllByRecursion Q xs
all-more P Q f [] a = tt
all-more P Q f (x ∷ xs) a = (f x a.0, all-more P Q f xs a.1)

-- each of the first is before each of the second
abbrev pub Precede : (kind : KeyKind) → List Entry → List Entry → Type 0
Precede kind [] ys = Unit {0}
Precede kind (x ∷ xs) ys = AllByRecursion (λ f. Precedes kind x f) ys × Precede kind xs ys

pub ascends-append : (kind : KeyKind) → (xs ys : List Entry) → AscendAll kind xs → AscendAll kind ys → Precede kind xs ys → AscendAll kind (xs ++ ys)
ascends-append kind [] ys a b p = b
ascends-append kind (x ∷ xs) ys a b p = (all-append (λ f. Precedes kind x f) xs ys a.0 p.0, ascends-append kind xs ys a.1 b p.1)

pub ascends-left : (kind : KeyKind) → (xs ys : List Entry) → AscendAll kind (xs ++ ys) → AscendAll kind xs
ascends-left kind [] ys a = tt
ascends-left kind (x ∷ xs) ys a = (all-left (λ f. Precedes kind x f) xs ys a.0, ascends-left kind xs ys a.1)

pub ascends-right : (kind : KeyKind) → (xs ys : List Entry) → AscendAll kind (xs ++ ys) → AscendAll kind ys
ascends-right kind [] ys a = a
ascends-right kind (x ∷ xs) ys a = ascends-right kind xs ys a.1

pub ascends-across : (kind : KeyKind) → (xs ys : List Entry) → AscendAll kind (xs ++ ys) → Precede kind xs ys
ascends-across kind [] ys a = tt
ascends-across kind (x ∷ xs) ys a = (all-right (λ f. Precedes kind x f) xs ys a.0, ascends-across kind xs ys a.1)

-- those before an entry are below it
pub below-head : (kind : KeyKind) → (xs : List Entry) (y : Entry) (ys : List Entry) → Precede kind xs (y ∷ ys) → AllByRecursion (λ f. Precedes kind f y) xs
below-head kind [] y ys p = tt
below-head kind (x ∷ xs) y ys p = (p.0.0, below-head kind xs y ys p.1)

-- entries
pub entries-child : (kind : KeyKind) → (ts : Shapes) (k : Key) → entries_all ts ≡ before kind ts k ++ (entries_of (child_for kind ts k) ++ behind kind ts k)
entries-child kind (last_shape t) k = sym (append-nil (entries_of t))
entries-child kind (more_shapes t key ts) k = by_test (at_most kind k key) (entries-child kind ts k)
  where
    by_test : (c : Bool) → entries_all ts ≡ before kind ts k ++ (entries_of (child_for kind ts k) ++ behind kind ts k)
        → entries_of t ++ (a_bound key ∷ entries_all ts) ≡ cond c [] (entries_of t ++ (a_bound key ∷ before kind ts k)) ++ (entries_of (cond c t (child_for kind ts k)) ++ cond c (a_bound key ∷ entries_all ts) (behind kind ts k))
    by_test true ih = refl
    by_test false ih = ap (λ l. entries_of t ++ (a_bound key ∷ l)) ih ∙ sym (append_assoc (entries_of t) (a_bound key ∷ before kind ts k) (entries_of (child_for kind ts k) ++ behind kind ts k))

pub entries-joined : (ss : Shapes) (key : Key) (ts : Shapes) → entries_all (joined ss key ts) ≡ entries_all ss ++ (a_bound key ∷ entries_all ts)
entries-joined (last_shape t) key ts = refl
entries-joined (more_shapes t k ss) key ts = ap (λ l. entries_of t ++ (a_bound k ∷ l)) (entries-joined ss key ts) ∙ sym (append_assoc (entries_of t) (a_bound k ∷ entries_all ss) (a_bound key ∷ entries_all ts))

pub entries-spliced : (kind : KeyKind) → (ts : Shapes) (k : Key) (ss : Shapes) → entries_all (spliced kind ts k ss) ≡ before kind ts k ++ (entries_all ss ++ behind kind ts k)
entries-spliced kind (last_shape t) k ss = sym (append-nil (entries_all ss))
entries-spliced kind (more_shapes t key ts) k ss = by_test (at_most kind k key) (entries-spliced kind ts k ss)
  where
    by_test : (c : Bool) → entries_all (spliced kind ts k ss) ≡ before kind ts k ++ (entries_all ss ++ behind kind ts k)
        → entries_all (cond c (joined ss key ts) (more_shapes t key (spliced kind ts k ss))) ≡ cond c [] (entries_of t ++ (a_bound key ∷ before kind ts k)) ++ (entries_all ss ++ cond c (a_bound key ∷ entries_all ts) (behind kind ts k))
    by_test true ih = entries-joined ss key ts
    by_test false ih = ap (λ l. entries_of t ++ (a_bound key ∷ l)) ih ∙ sym (append_assoc (entries_of t) (a_bound key ∷ before kind ts k) (entries_all ss ++ behind kind ts k))

-- the other entries are off the key
pub before-below : (kind : KeyKind) → (ts : Shapes) (k : Key) → AscendAll kind (entries_all ts) → AllByRecursion (λ e. IsBelow kind k e) (before kind ts k)
before-below kind (last_shape t) k a = tt
before-below kind (more_shapes t key ts) k a = by_test (at_most kind k key) refl (before-below kind ts k (ascends-right kind (entries_of t) (a_bound key ∷ entries_all ts) a).1)
  where
    by_test : (c : Bool) → at_most kind k key ≡ c → AllByRecursion (λ e. IsBelow kind k e) (before kind ts k) → AllByRecursion (λ e. IsBelow kind k e) (cond c [] (entries_of t ++ (a_bound key ∷ before kind ts k)))
    by_test true e ih = tt
    by_test false e ih =
        let l : comes_before kind key k ≡ true = not_most kind k key e in
        all-append (λ e. IsBelow kind k e) (entries_of t) (a_bound key ∷ before kind ts k)
        (all-more (λ e. Precedes kind e (a_bound key)) (λ e. IsBelow kind k e) (below_bound kind key k l) (entries_of t) (below-head kind (entries_of t) (a_bound key) (entries_all ts) (ascends-across kind (entries_of t) (a_bound key ∷ entries_all ts) a)))
        (l, ih)

pub behind-above : (kind : KeyKind) → (ts : Shapes) (k : Key) → AscendAll kind (entries_all ts) → AllByRecursion (λ e. IsAbove kind k e) (behind kind ts k)
behind-above kind (last_shape t) k a = tt
behind-above kind (more_shapes t key ts) k a = by_test (at_most kind k key) refl (ascends-right kind (entries_of t) (a_bound key ∷ entries_all ts) a) (behind-above kind ts k (ascends-right kind (entries_of t) (a_bound key ∷ entries_all ts) a).1)
  where
    by_test : (c : Bool) → at_most kind k key ≡ c → AscendAll kind (a_bound key ∷ entries_all ts) → AllByRecursion (λ e. IsAbove kind k e) (behind kind ts k) → AllByRecursion (λ e. IsAbove kind k e) (cond c (a_bound key ∷ entries_all ts) (behind kind ts k))
    by_test true e b ih =
        (e, all-more (λ e. Precedes kind (a_bound key) e) (λ e. IsAbove kind k e) (above_bound kind key k e) (entries_all ts) b.0)
    by_test false e b ih = ih

-- depth
deep-joined : (n : ℕ) (ss : Shapes) (key : Key) (ts : Shapes) → AreDeep n ss → AreDeep n ts → AreDeep n (joined ss key ts)
deep-joined n (last_shape t) key ts a b = (a, b)
deep-joined n (more_shapes t k ss) key ts a b = (a.0, deep-joined n ss key ts a.1 b)

pub deep-spliced : (kind : KeyKind) → (n : ℕ) (ts : Shapes) (k : Key) (ss : Shapes) → AreDeep n ts → AreDeep n ss → AreDeep n (spliced kind ts k ss)
deep-spliced kind n (last_shape t) k ss a b = b
deep-spliced kind n (more_shapes t key ts) k ss a b = by_test (at_most kind k key) (deep-spliced kind n ts k ss a.1 b)
  where
    by_test : (c : Bool) → AreDeep n (spliced kind ts k ss) → AreDeep n (cond c (joined ss key ts) (more_shapes t key (spliced kind ts k ss)))
    by_test true ih = deep-joined n ss key ts b a.1
    by_test false ih = (a.0, ih)

-- pages met
pub times-append : (x : ℕ) (xs ys : List ℕ) → times x (xs ++ ys) ≡ times x xs + times x ys
times-append x [] ys = omega arith
times-append x (y ∷ xs) ys = omega (arith, times-append x xs ys)

pub times-joined : (x : ℕ) (ss : Shapes) (key : Key) (ts : Shapes) → times x (met_by_all (joined ss key ts)) ≡ times x (met_by_all ss) + times x (met_by_all ts)
times-joined x (last_shape t) key ts = times-append x (met_by t) (met_by_all ts)
times-joined x (more_shapes t k ss) key ts = omega (arith, times-append x (met_by t) (met_by_all ss), times-append x (met_by t) (met_by_all (joined ss key ts)), times-joined x ss key ts)

pub times-spliced : (kind : KeyKind) → (x : ℕ) (ts : Shapes) (k : Key) (ss : Shapes) → times x (met_by_all (spliced kind ts k ss)) + times x (met_by (child_for kind ts k)) ≡ times x (met_by_all ts) + times x (met_by_all ss)
times-spliced kind x (last_shape t) k ss = omega arith
times-spliced kind x (more_shapes t key ts) k ss = by_test (at_most kind k key) (times-spliced kind x ts k ss)
  where
    by_test : (c : Bool) → times x (met_by_all (spliced kind ts k ss)) + times x (met_by (child_for kind ts k)) ≡ times x (met_by_all ts) + times x (met_by_all ss)
        → times x (met_by_all (cond c (joined ss key ts) (more_shapes t key (spliced kind ts k ss)))) + times x (met_by (cond c t (child_for kind ts k))) ≡ times x (met_by t ++ met_by_all ts) + times x (met_by_all ss)
    by_test true ih = omega (arith, times-joined x ss key ts, times-append x (met_by t) (met_by_all ts))
    by_test false ih = omega (arith, ih, times-append x (met_by t) (met_by_all ts), times-append x (met_by t) (met_by_all (spliced kind ts k ss)))

-- leaves
pub leaves-child : (kind : KeyKind) → (ts : Shapes) (k : Key) → leaves_all ts ≡ leaves_before kind ts k ++ (leaves_of (child_for kind ts k) ++ leaves_behind kind ts k)
leaves-child kind (last_shape t) k = sym (append-nil (leaves_of t))
leaves-child kind (more_shapes t key ts) k = by_test (at_most kind k key) (leaves-child kind ts k)
  where
    by_test : (c : Bool) → leaves_all ts ≡ leaves_before kind ts k ++ (leaves_of (child_for kind ts k) ++ leaves_behind kind ts k)
        → leaves_of t ++ leaves_all ts ≡ cond c [] (leaves_of t ++ leaves_before kind ts k) ++ (leaves_of (cond c t (child_for kind ts k)) ++ cond c (leaves_all ts) (leaves_behind kind ts k))
    by_test true ih = refl
    by_test false ih = ap (λ l. leaves_of t ++ l) ih ∙ sym (append_assoc (leaves_of t) (leaves_before kind ts k) (leaves_of (child_for kind ts k) ++ leaves_behind kind ts k))

pub leaves-joined : (ss : Shapes) (key : Key) (ts : Shapes) → leaves_all (joined ss key ts) ≡ leaves_all ss ++ leaves_all ts
leaves-joined (last_shape t) key ts = refl
leaves-joined (more_shapes t k ss) key ts = ap (λ l. leaves_of t ++ l) (leaves-joined ss key ts) ∙ sym (append_assoc (leaves_of t) (leaves_all ss) (leaves_all ts))

pub leaves-spliced : (kind : KeyKind) → (ts : Shapes) (k : Key) (ss : Shapes) → leaves_all (spliced kind ts k ss) ≡ leaves_before kind ts k ++ (leaves_all ss ++ leaves_behind kind ts k)
leaves-spliced kind (last_shape t) k ss = sym (append-nil (leaves_all ss))
leaves-spliced kind (more_shapes t key ts) k ss = by_test (at_most kind k key) (leaves-spliced kind ts k ss)
  where
    by_test : (c : Bool) → leaves_all (spliced kind ts k ss) ≡ leaves_before kind ts k ++ (leaves_all ss ++ leaves_behind kind ts k)
        → leaves_all (cond c (joined ss key ts) (more_shapes t key (spliced kind ts k ss))) ≡ cond c [] (leaves_of t ++ leaves_before kind ts k) ++ (leaves_all ss ++ cond c (leaves_all ts) (leaves_behind kind ts k))
    by_test true ih = leaves-joined ss key ts
    by_test false ih = ap (λ l. leaves_of t ++ l) ih ∙ sym (append_assoc (leaves_of t) (leaves_before kind ts k) (leaves_all ss ++ leaves_behind kind ts k))

pub self : (x : ℕ) (xs : List ℕ) → 1 ≤ times x (x ∷ xs)
self x xs = grind (arith)

-- standing: other pages are as they were
mutual
  pub same_shape : (pages now : ℕ → Option Body) (t : Shape) → ((x : ℕ) → 1 ≤ times x (met_by t) → now x ≡ pages x) → Stands pages t → Stands now t
  same_shape pages now (leaf_shape at rows) h s = h at (self at []) ∙ s
  same_shape pages now (node_shape at below) h s = (h at (self at (met_by_all below)) ∙ s.0, same_shapes pages now below (λ x i. h x (omega (arith, i))) s.1)

  pub same_shapes : (pages now : ℕ → Option Body) (ts : Shapes) → ((x : ℕ) → 1 ≤ times x (met_by_all ts) → now x ≡ pages x) → StandAll pages ts → StandAll now ts
  same_shapes pages now (last_shape t) h s = same_shape pages now t h s
  same_shapes pages now (more_shapes t key ts) h s =
      (same_shape pages now t (λ x i. h x (omega (arith, i, times-append x (met_by t) (met_by_all ts)))) s.0, same_shapes pages now ts (λ x i. h x (omega (arith, i, times-append x (met_by t) (met_by_all ts)))) s.1)
