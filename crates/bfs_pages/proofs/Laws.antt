-- Rows put, rows cut, and leaves and pages split.
use Rattle.std.proofs.Common.{◌≡◌, ◌≢◌, ◌≤◌, ◌+◌, ℕ, ℤ, List, [], ◌∷◌, ◌++◌, Some, None, Bool, true, false, cond, refl, ap, ap₂, sym, ◌∙◌, subst, arith}
use Rattle.std.specs.List.{AllByRecursion}
use Rattle.bfs_node.specs.Lists.{times}
use Rattle.bfs_node.specs.BaseKeyKind.{KeyKind}
use Rattle.bfs_node.specs.Page.{Row}
use Rattle.bfs_pages.specs.Order.{Key, comes_before, at_most, same_keys}
use Rattle.bfs_pages.specs.Maps.{assoc, put}
use Rattle.bfs_pages.specs.Shapes.{Shape, Shapes, leaf_shape, node_shape, last_shape, more_shapes, tree_rows, trees_rows, Entry, a_row, a_bound, entries_in, entries_of, entries_all, IsAbove, Precedes, AscendAll}
use Rattle.bfs_pages.specs.Trees.{head_or, Linked}
use Rattle.bfs_pages.specs.Ways.{rows_in}
use Rattle.bfs_pages.proofs.KeyOrder.{IsBelow, not_most, less_is_most, less_if_not_same, most_not, above_more, row_above}
use Rattle.bfs_pages.proofs.Splice.{all-append, all-left, all-right, all-more, Precede, ascends-append, ascends-left, ascends-right, ascends-across, times-append}

pub rows-append : (xs ys : List Entry) → rows_in (xs ++ ys) ≡ rows_in xs ++ rows_in ys
rows-append [] ys = refl
rows-append (a_row k v ∷ xs) ys = ap (λ l. (k, v) ∷ l) (rows-append xs ys)
rows-append (a_bound k ∷ xs) ys = rows-append xs ys

pub rows-back : (rows : List Row) → rows_in (entries_in rows) ≡ rows
rows-back [] = refl
rows-back (r ∷ rs) = ap (λ l. r ∷ l) (rows-back rs)

mutual
  pub rows-shape : (t : Shape) → tree_rows t ≡ rows_in (entries_of t)
  rows-shape (leaf_shape at rows) = sym (rows-back rows)
  rows-shape (node_shape at below) = rows-shapes below

  pub rows-shapes : (ts : Shapes) → trees_rows ts ≡ rows_in (entries_all ts)
  rows-shapes (last_shape t) = rows-shape t
  rows-shapes (more_shapes t key ts) = ap₂ (λ a b. a ++ b) (rows-shape t) (rows-shapes ts) ∙ sym (rows-append (entries_of t) (a_bound key ∷ entries_all ts))

-- put
put-behind : (kind : KeyKind) → (fs : List Entry) (xs : List Row) (k : Key) (v : ℤ) → AllByRecursion (λ e. IsBelow kind k e) fs → put kind (rows_in fs ++ xs) k v ≡ rows_in fs ++ put kind xs k v
put-behind kind [] xs k v a = refl
put-behind kind (a_bound b ∷ fs) xs k v a = put-behind kind fs xs k v a.1
put-behind kind (a_row b w ∷ fs) xs k v a = ap (λ c. cond c ((k, v) ∷ (b, w) ∷ (rows_in fs ++ xs)) ((b, w) ∷ put kind (rows_in fs ++ xs) k v)) no ∙ ap (λ l. (b, w) ∷ l) (put-behind kind fs xs k v a.1)
  where
    no : at_most kind k b ≡ false
    no = most_not kind k b a.0

put-stop : (kind : KeyKind) → (bs : List Entry) (k : Key) (v : ℤ) → AllByRecursion (λ e. IsAbove kind k e) bs → put kind (rows_in bs) k v ≡ (k, v) ∷ rows_in bs
put-stop kind [] k v a = refl
put-stop kind (a_bound b ∷ bs) k v a = put-stop kind bs k v a.1
put-stop kind (a_row b w ∷ bs) k v a = ap (λ c. cond c ((k, v) ∷ (b, w) ∷ rows_in bs) ((b, w) ∷ put kind (rows_in bs) k v)) yes
  where
    yes : at_most kind k b ≡ true
    yes = less_is_most kind k b a.0

put-before : (kind : KeyKind) → (xs : List Row) (bs : List Entry) (k : Key) (v : ℤ) → AllByRecursion (λ e. IsAbove kind k e) bs → put kind (xs ++ rows_in bs) k v ≡ put kind xs k v ++ rows_in bs
put-before kind [] bs k v a = put-stop kind bs k v a
put-before kind (x ∷ xs) bs k v a = by_test (at_most kind k x.0) (put-before kind xs bs k v a)
  where
    by_test : (c : Bool) → put kind (xs ++ rows_in bs) k v ≡ put kind xs k v ++ rows_in bs
        → cond c ((k, v) ∷ x ∷ (xs ++ rows_in bs)) (x ∷ put kind (xs ++ rows_in bs) k v) ≡ cond c ((k, v) ∷ x ∷ xs) (x ∷ put kind xs k v) ++ rows_in bs
    by_test true ih = refl
    by_test false ih = ap (λ l. x ∷ l) ih

amid : (fs : List Entry) (xs : List Row) (bs : List Entry) → rows_in (fs ++ (entries_in xs ++ bs)) ≡ rows_in fs ++ (xs ++ rows_in bs)
amid fs xs bs = rows-append fs (entries_in xs ++ bs) ∙ ap (λ l. rows_in fs ++ l) (rows-append (entries_in xs) bs ∙ ap (λ l. l ++ rows_in bs) (rows-back xs))

pub put-amid : (kind : KeyKind) → (fs : List Entry) (xs : List Row) (bs : List Entry) (k : Key) (v : ℤ) → AllByRecursion (λ e. IsBelow kind k e) fs → AllByRecursion (λ e. IsAbove kind k e) bs
    → rows_in (fs ++ (entries_in (put kind xs k v) ++ bs)) ≡ put kind (rows_in (fs ++ (entries_in xs ++ bs))) k v
put-amid kind fs xs bs k v a b =
    amid fs (put kind xs k v) bs
    ∙ sym (ap (λ l. put kind l k v) (amid fs xs bs) ∙ put-behind kind fs (xs ++ rows_in bs) k v a ∙ ap (λ l. rows_in fs ++ l) (put-before kind xs bs k v b))

-- what holds of the rows and of the new one holds of all
all-put : (kind : KeyKind) → (P : Entry → Type 0) (xs : List Row) (k : Key) (v : ℤ) → P (a_row k v) → AllByRecursion P (entries_in xs) → AllByRecursion P (entries_in (put kind xs k v))
all-put kind P [] k v p a = (p, tt)
all-put kind P (x ∷ xs) k v p a = by_test (at_most kind k x.0) (all-put kind P xs k v p a.1)
  where
    by_test : (c : Bool) → AllByRecursion P (entries_in (put kind xs k v)) → AllByRecursion P (entries_in (cond c ((k, v) ∷ x ∷ xs) (x ∷ put kind xs k v)))
    by_test true ih = (p, a)
    by_test false ih = (a.0, ih)

ascends-put : (kind : KeyKind) → (xs : List Row) (k : Key) (v : ℤ) → assoc kind xs k ≡ None → AscendAll kind (entries_in xs) → AscendAll kind (entries_in (put kind xs k v))
ascends-put kind [] k v none a = (tt, tt)
ascends-put kind (x ∷ xs) k v none a = by_test (at_most kind k x.0) refl (ascends-put kind xs k v (later (same_keys kind k x.0) none) a.1)
  where
    later : (c : Bool) → cond c (Some x.1) (assoc kind xs k) ≡ None → assoc kind xs k ≡ None
    later true e = cc
    later false e = e

    differs : (c : Bool) → same_keys kind k x.0 ≡ c → cond c (Some x.1) (assoc kind xs k) ≡ None → same_keys kind k x.0 ≡ false
    differs true e n = absurd (none_some n)
      where
        none_some : Some x.1 ≡ None → ⊥
        none_some n = cc
    differs false e n = e

    by_test : (c : Bool) → at_most kind k x.0 ≡ c → AscendAll kind (entries_in (put kind xs k v)) → AscendAll kind (entries_in (cond c ((k, v) ∷ x ∷ xs) (x ∷ put kind xs k v)))
    by_test true e ih =
        let m : comes_before kind k x.0 ≡ true = less_if_not_same kind k x.0 e (differs (same_keys kind k x.0) refl none) in
        ((m, all-more (λ f. IsAbove kind x.0 f) (λ f. IsAbove kind k f) (above_more kind x.0 k m) (entries_in xs) a.0), a)
    by_test false e ih =
        (all-put kind (λ f. IsAbove kind x.0 f) xs k v (not_most kind k x.0 e) a.0, ih)

-- to precede is of each on the right
precede-put : (kind : KeyKind) → (fs : List Entry) (xs : List Row) (k : Key) (v : ℤ) → AllByRecursion (λ e. IsBelow kind k e) fs → Precede kind fs (entries_in xs) → Precede kind fs (entries_in (put kind xs k v))
precede-put kind [] xs k v a p = tt
precede-put kind (f ∷ fs) xs k v a p = (all-put kind (λ e. Precedes kind f e) xs k v (row_above kind k v f a.0) p.0, precede-put kind fs xs k v a.1 p.1)

precede-right : (kind : KeyKind) → (fs xs ys : List Entry) → Precede kind fs xs → Precede kind fs ys → Precede kind fs (xs ++ ys)
precede-right kind [] xs ys p q = tt
precede-right kind (f ∷ fs) xs ys p q = (all-append (λ e. Precedes kind f e) xs ys p.0 q.0, precede-right kind fs xs ys p.1 q.1)

precede-left-part : (kind : KeyKind) → (fs xs ys : List Entry) → Precede kind fs (xs ++ ys) → Precede kind fs xs
precede-left-part kind [] xs ys p = tt
precede-left-part kind (f ∷ fs) xs ys p = (all-left (λ e. Precedes kind f e) xs ys p.0, precede-left-part kind fs xs ys p.1)

precede-right-part : (kind : KeyKind) → (fs xs ys : List Entry) → Precede kind fs (xs ++ ys) → Precede kind fs ys
precede-right-part kind [] xs ys p = tt
precede-right-part kind (f ∷ fs) xs ys p = (all-right (λ e. Precedes kind f e) xs ys p.0, precede-right-part kind fs xs ys p.1)

-- (spoken of by all, Precede xs bs is a fact of each of xs)
put-precede : (kind : KeyKind) → (xs : List Row) (bs : List Entry) (k : Key) (v : ℤ) → AllByRecursion (λ e. IsAbove kind k e) bs → Precede kind (entries_in xs) bs → Precede kind (entries_in (put kind xs k v)) bs
put-precede kind [] bs k v b p = (b, tt)
put-precede kind (x ∷ xs) bs k v b p = by_test (at_most kind k x.0) (put-precede kind xs bs k v b p.1)
  where
    by_test : (c : Bool) → Precede kind (entries_in (put kind xs k v)) bs → Precede kind (entries_in (cond c ((k, v) ∷ x ∷ xs) (x ∷ put kind xs k v))) bs
    by_test true ih = (b, p)
    by_test false ih = (p.0, ih)

pub ascends-amid : (kind : KeyKind) → (fs : List Entry) (xs : List Row) (bs : List Entry) (k : Key) (v : ℤ) → AllByRecursion (λ e. IsBelow kind k e) fs → AllByRecursion (λ e. IsAbove kind k e) bs → assoc kind xs k ≡ None
    → AscendAll kind (fs ++ (entries_in xs ++ bs)) → AscendAll kind (fs ++ (entries_in (put kind xs k v) ++ bs))
ascends-amid kind fs xs bs k v a b none all =
    let right = ascends-right kind fs (entries_in xs ++ bs) all in
    let p = ascends-across kind fs (entries_in xs ++ bs) all in
    ascends-append kind fs (entries_in (put kind xs k v) ++ bs) (ascends-left kind fs (entries_in xs ++ bs) all)
    (ascends-append kind (entries_in (put kind xs k v)) bs (ascends-put kind xs k v none (ascends-left kind (entries_in xs) bs right)) (ascends-right kind (entries_in xs) bs right) (put-precede kind xs bs k v b (ascends-across kind (entries_in xs) bs right)))
    (precede-right kind fs (entries_in (put kind xs k v)) bs (precede-put kind fs xs k v a (precede-left-part kind fs (entries_in xs) bs p)) (precede-right-part kind fs (entries_in xs) bs p))

-- a key straight after an entry
pub ascends-after : (kind : KeyKind) → (xs : List Entry) (e f : Entry) (ys : List Entry) → Precedes kind e f → ((z : Entry) → Precedes kind z e → Precedes kind z f) → AllByRecursion (λ y. Precedes kind f y) ys → AscendAll kind (xs ++ (e ∷ ys)) → AscendAll kind (xs ++ (e ∷ f ∷ ys))
ascends-after kind [] e f ys is onto up a = ((is, a.0), (up, a.1))
ascends-after kind (x ∷ xs) e f ys is onto up a =
    let right = all-right (λ y. Precedes kind x y) xs (e ∷ ys) a.0 in
    (all-append (λ y. Precedes kind x y) xs (e ∷ f ∷ ys) (all-left (λ y. Precedes kind x y) xs (e ∷ ys) a.0) (right.0, (onto x right.0, right.1)), ascends-after kind xs e f ys is onto up a.1)

pub one : (x : ℕ) (xs : List ℕ) → times x (x ∷ xs) ≡ 1 + times x xs
one x xs = grind arith

-- links: a page q comes between p and its right neighbour
pub same-links : (old new : ℕ → ℕ × ℕ) (prev : ℕ) (xs : List ℕ) (next : ℕ) → ((x : ℕ) → 1 ≤ times x xs → new x ≡ old x) → Linked old prev xs next → Linked new prev xs next
same-links old new prev [] next h l = tt
same-links old new prev (x ∷ xs) next h l = (h x (grind arith) ∙ l.0, same-links old new x xs next (λ y i. h y (omega (arith, i))) l.1)

head-append : (none : ℕ) (xs : List ℕ) (p : ℕ) (ys : List ℕ) → head_or none (xs ++ (p ∷ ys)) ≡ head_or p xs
head-append none [] p ys = refl
head-append none (x ∷ xs) p ys = refl

-- the right neighbour, where there is one, has its left link changed
after-split : (old new : ℕ → ℕ × ℕ) (p q next : ℕ) (ys : List ℕ) → Linked old p ys next
    → ((x : ℕ) → x ≢ p → x ≢ q → x ≢ head_or next ys → new x ≡ old x)
    → times p ys ≡ 0 → times q ys ≡ 0 → ((x : ℕ) → times x ys ≤ 1)
    → ((y : ℕ) (zs : List ℕ) → ys ≡ y ∷ zs → new y ≡ (q, (old y).1)) → Linked new q ys next
after-split old new p q next [] l same a b once moved = tt
after-split old new p q next (y ∷ ys) l same a b once moved = (
  moved y ys refl ∙ ap (λ w. (q, w.1)) l.0,
  same-links old new y ys next (λ x i. same x (λ e. off x p i e a) (λ e. off x q i e b) (λ e. twice x i e)) l.1,
)
  where
    off : (x z : ℕ) → 1 ≤ times x ys → x ≡ z → times z (y ∷ ys) ≡ 0 → ⊥
    off x z i e n = let m : 1 ≤ times z ys = subst (λ w. 1 ≤ times w ys) e i in omega (arith, m, n)

    twice : (x : ℕ) → 1 ≤ times x ys → x ≡ y → ⊥
    twice x i e =
        let m : 1 ≤ times y ys = subst (λ w. 1 ≤ times w ys) e i in
        let o : times y (y ∷ ys) ≤ 1 = once y in
        let s : times y (y ∷ ys) ≡ 1 + times y ys = one y ys in
        omega (arith, m, o, s)

pub linked-split : (old new : ℕ → ℕ × ℕ) (prev : ℕ) (xs : List ℕ) (p q : ℕ) (ys : List ℕ) (next : ℕ) → Linked old prev (xs ++ (p ∷ ys)) next
    → ((x : ℕ) → times x (xs ++ (p ∷ ys)) ≤ 1) → times q (xs ++ (p ∷ ys)) ≡ 0
    → ((x : ℕ) → x ≢ p → x ≢ q → x ≢ head_or next ys → new x ≡ old x) → times next (xs ++ (p ∷ ys)) ≡ 0
    → new p ≡ ((old p).0, q) → new q ≡ (p, (old p).1) → ((y : ℕ) (zs : List ℕ) → ys ≡ y ∷ zs → new y ≡ (q, (old y).1)) → Linked new prev (xs ++ (p ∷ q ∷ ys)) next
linked-split old new prev [] p q ys next l once out same end np nq moved =
    let rest = after-split old new p q next ys l.1 same (let o : times p (p ∷ ys) ≤ 1 = once p in omega (arith, o, one p ys)) (omega (arith, out)) (λ x. omega (arith, once x)) moved in
    (np ∙ ap (λ w. (w.0, q)) l.0, (nq ∙ ap (λ w. (p, w.1)) l.0, rest))
linked-split old new prev (x ∷ xs) p q ys next l once out same end np nq moved = (
  same x (λ e. no x p (omega (arith, here p ys, times-append p xs (p ∷ ys))) e) (λ e. only_q e) (λ e. at_head ys e refl)
      ∙ l.0 ∙ ap (λ w. (prev, w)) (head-append next xs p ys ∙ sym (head-append next xs p (q ∷ ys))),
  linked-split old new x xs p q ys next l.1 (λ z. omega (arith, once z)) (omega (arith, out)) same (omega (arith, end)) np nq moved,
)
  where
    here : (z : ℕ) (zs : List ℕ) → 1 ≤ times z (z ∷ zs)
    here z zs = grind arith

    no : (z w : ℕ) → 1 ≤ times w (xs ++ (p ∷ ys)) → x ≡ w → ⊥
    no z w i e =
        let m : 1 ≤ times x (xs ++ (p ∷ ys)) = subst (λ u. 1 ≤ times u (xs ++ (p ∷ ys))) (sym e) i in
        omega (arith, m, once x, one x (xs ++ (p ∷ ys)))

    only_q : x ≡ q → ⊥
    only_q e = let m : times x (x ∷ (xs ++ (p ∷ ys))) ≡ 0 = subst (λ u. times u (x ∷ (xs ++ (p ∷ ys))) ≡ 0) (sym e) out in omega (arith, m, one x (xs ++ (p ∷ ys)))

    at_head : (zs : List ℕ) → x ≡ head_or next zs → zs ≡ ys → ⊥
    at_head [] e is = let m : times x (x ∷ (xs ++ (p ∷ ys))) ≡ 0 = subst (λ u. times u (x ∷ (xs ++ (p ∷ ys))) ≡ 0) (sym e) end in omega (arith, m, one x (xs ++ (p ∷ ys)))
    at_head (z ∷ zs) e is =
        let i : 1 ≤ times z (z ∷ zs) = here z zs in
        let j : 1 ≤ times z ys = subst (λ u. 1 ≤ times z u) is i in
        no x z (omega (arith, j, times-append z xs (p ∷ ys))) e
