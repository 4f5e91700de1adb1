-- A block of rows goes from a list, a child from a page, and a leaf from the row of leaves.
use Rattle.std.proofs.Common.{◌≡◌, ◌≢◌, ◌≤◌, ◌+◌, ℕ, ℤ, zero, suc, List, [], ◌∷◌, ◌++◌, Option, Some, Bool, true, false, cond, refl, ap, ap₂, sym, ◌∙◌, subst, arith, append_assoc, append-nil}
use Rattle.std.specs.List.{AllByRecursion}
use Rattle.bfs_base.specs.Lists.{times}
use Rattle.bfs_base.specs.declared.kind.KeyKind.{KeyKind}
use Rattle.bfs_node.specs.Page.{Row}
use Rattle.bfs_pages.specs.Order.{Key, at_most, same_keys}
use Rattle.bfs_pages.specs.Maps.{without}
use Rattle.bfs_pages.specs.Shapes.{Body, inner_body, Shape, Shapes, leaf_shape, node_shape, last_shape, more_shapes, place, tree_rows, met_by, met_by_all, leaves_of, leaves_all, children_of, last_child, IsDeep, AreDeep, Stands, StandAll, Entry, a_row, a_bound, entries_of, entries_all, IsAbove, Precedes, AscendAll}
use Rattle.bfs_pages.specs.Trees.{State, head_or, Linked, Holds}
use Rattle.bfs_pages.specs.Ways.{child_for, rows_in, under, instead, before_way, behind_way, leaves_before_way, leaves_behind_way}
use Rattle.bfs_remove.specs.Cuts.{dropped, IsChain, HasMore, DropLinks, keys_without, last_without}
use Rattle.bfs_pages.proofs.KeyOrder.{less_not_same, greater_not_same, same_itself}
use Rattle.bfs_pages.proofs.Splice.{all-append, all-left, all-right, all-more, Precede, ascends-right, ascends-across, times-append, same_shapes, self}
use Rattle.bfs_pages.proofs.Way.{entries-under, entries-instead, leaves-under, leaves-instead, times-under}
use Rattle.bfs_pages.proofs.Laws.{rows-shape, rows-append, same-links, one}
use Rattle.bfs_pages.proofs.Exchange.{stands-under, met-once, exchange-any, Apart}
use Rattle.bfs_pages.proofs.Leaves.{linked-at}

-- a block of an ascending list goes
pub ascends-without : (kind : KeyKind) (xs ys zs : List Entry) → AscendAll kind (xs ++ (ys ++ zs)) → AscendAll kind (xs ++ zs)
ascends-without kind [] ys zs a = ascends-right kind ys zs a
ascends-without kind (x ∷ xs) ys zs a = (
  all-append (λ f. Precedes kind x f) xs zs (all-left (λ f. Precedes kind x f) xs (ys ++ zs) a.0) (all-right (λ f. Precedes kind x f) ys zs (all-right (λ f. Precedes kind x f) xs (ys ++ zs) a.0)),
  ascends-without kind xs ys zs a.1,
)

without-append : (kind : KeyKind) (xs ys : List Row) (k : Key) → without kind (xs ++ ys) k ≡ without kind xs k ++ without kind ys k
without-append kind [] ys k = refl
without-append kind (x ∷ xs) ys k = by_test (same_keys kind k x.0) (without-append kind xs ys k)
  where
    by_test : (c : Bool) → without kind (xs ++ ys) k ≡ without kind xs k ++ without kind ys k → cond c (without kind (xs ++ ys) k) (x ∷ without kind (xs ++ ys) k) ≡ cond c (without kind xs k) (x ∷ without kind xs k) ++ without kind ys k
    by_test true ih = ih
    by_test false ih = ap (λ l. x ∷ l) ih

-- a row with another key
abbrev pub IsOff : KeyKind → Key → Entry → Type 0
IsOff kind k (a_row b w) = same_keys kind k b ≡ false
IsOff kind k (a_bound b) = Unit {0}

pub without-off : (kind : KeyKind) (es : List Entry) (k : Key) → AllByRecursion (λ e. IsOff kind k e) es → without kind (rows_in es) k ≡ rows_in es
without-off kind [] k a = refl
without-off kind (a_bound b ∷ es) k a = without-off kind es k a.1
without-off kind (a_row b w ∷ es) k a = ap (λ c. cond c (without kind (rows_in es) k) ((b, w) ∷ without kind (rows_in es) k)) a.0 ∙ ap (λ l. (b, w) ∷ l) (without-off kind es k a.1)

pick-row : (P : Entry → Type 0) (ys : List Entry) (k : Key) (v : ℤ) (rest : List Row) → rows_in ys ≡ (k, v) ∷ rest → AllByRecursion P ys → P (a_row k v)
pick-row P [] k v rest e a = absurd (none e)
  where
    none : [] ≡ (k, v) ∷ rest → ⊥
    none e = cc
pick-row P (a_bound b ∷ ys) k v rest e a = pick-row P ys k v rest e a.1
pick-row P (a_row b w ∷ ys) k v rest e a = subst (λ (x : Row). P (a_row x.0 x.1)) head a.0
  where
    head : ◌≡◌ {A = Row} (b, w) (k, v)
    head = cc

off-below : (kind : KeyKind) (k : Key) (v : ℤ) (e : Entry) → Precedes kind e (a_row k v) → IsOff kind k e
off-below kind k v (a_row b w) h = greater_not_same kind k b h
off-below kind k v (a_bound b) h = tt

off-above : (kind : KeyKind) (k : Key) (e : Entry) → IsAbove kind k e → IsOff kind k e
off-above kind k (a_row b w) h = less_not_same kind k b h
off-above kind k (a_bound b) h = tt

off-front : (kind : KeyKind) (k : Key) (v : ℤ) (xs ys zs : List Entry) → rows_in ys ≡ (k, v) ∷ [] → Precede kind xs (ys ++ zs) → AllByRecursion (λ e. IsOff kind k e) xs
off-front kind k v [] ys zs r p = tt
off-front kind k v (x ∷ xs) ys zs r p =
    (off-below kind k v x (pick-row (λ f. Precedes kind x f) ys k v [] r (all-left (λ f. Precedes kind x f) ys zs p.0)), off-front kind k v xs ys zs r p.1)

off-back : (kind : KeyKind) (k : Key) (v : ℤ) (ys zs : List Entry) → rows_in ys ≡ (k, v) ∷ [] → Precede kind ys zs → AllByRecursion (λ e. IsOff kind k e) zs
off-back kind k v [] zs r p = absurd (none r)
  where
    none : ◌≡◌ {A = List Row} [] ((k, v) ∷ []) → ⊥
    none e = cc
off-back kind k v (a_bound b ∷ ys) zs r p = off-back kind k v ys zs r p.1
off-back kind k v (a_row b w ∷ ys) zs r p = all-more (λ f. IsAbove kind b f) (λ f. IsOff kind k f) (λ f h. off-above kind k f (subst (λ z. IsAbove kind z f) same h)) zs p.0
  where
    head : ◌≡◌ {A = Row} (b, w) (k, v)
    head = cc

    same : b ≡ k
    same = ap (λ (x : Row). x.0) head

pub cut-block : (kind : KeyKind) (k : Key) (v : ℤ) (xs ys zs : List Entry) → rows_in ys ≡ (k, v) ∷ [] → AscendAll kind (xs ++ (ys ++ zs)) → rows_in (xs ++ zs) ≡ without kind (rows_in (xs ++ (ys ++ zs))) k
cut-block kind k v xs ys zs r up =
    let off_front : AllByRecursion (λ e. IsOff kind k e) xs = off-front kind k v xs ys zs r (ascends-across kind xs (ys ++ zs) up) in
    let off_back : AllByRecursion (λ e. IsOff kind k e) zs = off-back kind k v ys zs r (ascends-across kind ys zs (ascends-right kind xs (ys ++ zs) up)) in
    rows-append xs zs ∙ sym (ap (λ w. without kind w k) (rows-append xs (ys ++ zs) ∙ ap (λ w. rows_in xs ++ w) (rows-append ys zs ∙ ap (λ w. w ++ rows_in zs) r))
    ∙ without-append kind (rows_in xs) ((k, v) ∷ rows_in zs) k
    ∙ ap₂ (λ p q. p ++ q) (without-off kind xs k off_front) (ap (λ c. cond c (without kind (rows_in zs) k) ((k, v) ∷ without kind (rows_in zs) k)) (same_itself kind k) ∙ without-off kind zs k off_back))

-- the children without one: a block of entries goes, which has that child's rows
pub dropped-entries : (kind : KeyKind) (ts : Shapes) (k : Key) → HasMore ts
    → (xs : List Entry) × (ys : List Entry) × (zs : List Entry) × (entries_all ts ≡ xs ++ (ys ++ zs)) × (entries_all (dropped kind ts k) ≡ xs ++ zs) × (rows_in ys ≡ rows_in (entries_of (child_for kind ts k)))
dropped-entries kind (last_shape t) k h = absurd h
dropped-entries kind (more_shapes t key (last_shape u)) k h = by_test (at_most kind k key)
  where
    by_test : (c : Bool) → (xs : List Entry) × (ys : List Entry) × (zs : List Entry) × (entries_of t ++ (a_bound key ∷ entries_of u) ≡ xs ++ (ys ++ zs)) × (entries_all (cond c (last_shape u) (last_shape t)) ≡ xs ++ zs) × (rows_in ys ≡ rows_in (entries_of (cond c t u)))
    by_test true = ([], entries_of t ++ (a_bound key ∷ []), entries_of u, sym (append_assoc (entries_of t) (a_bound key ∷ []) (entries_of u)), refl, rows-append (entries_of t) (a_bound key ∷ []) ∙ append-nil (rows_in (entries_of t)))
    by_test false = (entries_of t, a_bound key ∷ entries_of u, [], ap (λ z. entries_of t ++ z) (sym (append-nil (a_bound key ∷ entries_of u))), sym (append-nil (entries_of t)), refl)
dropped-entries kind (more_shapes t key (more_shapes u b us)) k h = by_test (at_most kind k key) (dropped-entries kind (more_shapes u b us) k tt)
  where
    by_test : (c : Bool) → (xs : List Entry) × (ys : List Entry) × (zs : List Entry) × (entries_all (more_shapes u b us) ≡ xs ++ (ys ++ zs)) × (entries_all (dropped kind (more_shapes u b us) k) ≡ xs ++ zs) × (rows_in ys ≡ rows_in (entries_of (child_for kind (more_shapes u b us) k)))
        → (xs : List Entry) × (ys : List Entry) × (zs : List Entry) × (entries_of t ++ (a_bound key ∷ entries_all (more_shapes u b us)) ≡ xs ++ (ys ++ zs))
        × (entries_all (cond c (more_shapes u b us) (more_shapes t key (dropped kind (more_shapes u b us) k))) ≡ xs ++ zs) × (rows_in ys ≡ rows_in (entries_of (cond c t (child_for kind (more_shapes u b us) k))))
    by_test true i = ([], entries_of t ++ (a_bound key ∷ []), entries_all (more_shapes u b us), sym (append_assoc (entries_of t) (a_bound key ∷ []) (entries_all (more_shapes u b us))), refl, rows-append (entries_of t) (a_bound key ∷ []) ∙ append-nil (rows_in (entries_of t)))
    by_test false (xs, ys, zs, e, f, r) =
        (entries_of t ++ (a_bound key ∷ xs), ys, zs, ap (λ z. entries_of t ++ (a_bound key ∷ z)) e ∙ sym (append_assoc (entries_of t) (a_bound key ∷ xs) (ys ++ zs)), ap (λ z. entries_of t ++ (a_bound key ∷ z)) f ∙ sym (append_assoc (entries_of t) (a_bound key ∷ xs) zs), r)

pub dropped-leaves : (kind : KeyKind) (ts : Shapes) (k : Key) → HasMore ts → (xs : List ℕ) × (zs : List ℕ) × (leaves_all ts ≡ xs ++ (leaves_of (child_for kind ts k) ++ zs)) × (leaves_all (dropped kind ts k) ≡ xs ++ zs)
dropped-leaves kind (last_shape t) k h = absurd h
dropped-leaves kind (more_shapes t key (last_shape u)) k h = by_test (at_most kind k key)
  where
    by_test : (c : Bool) → (xs : List ℕ) × (zs : List ℕ) × (leaves_of t ++ leaves_of u ≡ xs ++ (leaves_of (cond c t u) ++ zs)) × (leaves_all (cond c (last_shape u) (last_shape t)) ≡ xs ++ zs)
    by_test true = ([], leaves_of u, refl, refl)
    by_test false = (leaves_of t, [], ap (λ z. leaves_of t ++ z) (sym (append-nil (leaves_of u))), sym (append-nil (leaves_of t)))
dropped-leaves kind (more_shapes t key (more_shapes u b us)) k h = by_test (at_most kind k key) (dropped-leaves kind (more_shapes u b us) k tt)
  where
    by_test : (c : Bool) → (xs : List ℕ) × (zs : List ℕ) × (leaves_all (more_shapes u b us) ≡ xs ++ (leaves_of (child_for kind (more_shapes u b us) k) ++ zs)) × (leaves_all (dropped kind (more_shapes u b us) k) ≡ xs ++ zs)
        → (xs : List ℕ) × (zs : List ℕ) × (leaves_of t ++ leaves_all (more_shapes u b us) ≡ xs ++ (leaves_of (cond c t (child_for kind (more_shapes u b us) k)) ++ zs)) × (leaves_all (cond c (more_shapes u b us) (more_shapes t key (dropped kind (more_shapes u b us) k))) ≡ xs ++ zs)
    by_test true i = ([], leaves_all (more_shapes u b us), refl, refl)
    by_test false (xs, zs, e, f) = (leaves_of t ++ xs, zs, ap (λ z. leaves_of t ++ z) e ∙ sym (append_assoc (leaves_of t) xs (leaves_of (child_for kind (more_shapes u b us) k) ++ zs)), ap (λ z. leaves_of t ++ z) f ∙ sym (append_assoc (leaves_of t) xs zs))

pub dropped-times : (kind : KeyKind) (x : ℕ) (ts : Shapes) (k : Key) → HasMore ts → times x (met_by_all (dropped kind ts k)) + times x (met_by (child_for kind ts k)) ≡ times x (met_by_all ts)
dropped-times kind x (last_shape t) k h = absurd h
dropped-times kind x (more_shapes t key (last_shape u)) k h = by_test (at_most kind k key)
  where
    by_test : (c : Bool) → times x (met_by_all (cond c (last_shape u) (last_shape t))) + times x (met_by (cond c t u)) ≡ times x (met_by t ++ met_by u)
    by_test true = omega (arith, times-append x (met_by t) (met_by u))
    by_test false = omega (arith, times-append x (met_by t) (met_by u))
dropped-times kind x (more_shapes t key (more_shapes u b us)) k h = by_test (at_most kind k key) (dropped-times kind x (more_shapes u b us) k tt)
  where
    by_test : (c : Bool) → times x (met_by_all (dropped kind (more_shapes u b us) k)) + times x (met_by (child_for kind (more_shapes u b us) k)) ≡ times x (met_by_all (more_shapes u b us))
        → times x (met_by_all (cond c (more_shapes u b us) (more_shapes t key (dropped kind (more_shapes u b us) k)))) + times x (met_by (cond c t (child_for kind (more_shapes u b us) k))) ≡ times x (met_by t ++ met_by_all (more_shapes u b us))
    by_test true i = omega (arith, times-append x (met_by t) (met_by_all (more_shapes u b us)))
    by_test false i = omega (arith, i, times-append x (met_by t) (met_by_all (more_shapes u b us)), times-append x (met_by t) (met_by_all (dropped kind (more_shapes u b us) k)))

pub dropped-deep : (kind : KeyKind) (n : ℕ) (ts : Shapes) (k : Key) → AreDeep n ts → AreDeep n (dropped kind ts k)
dropped-deep kind n (last_shape t) k d = d
dropped-deep kind n (more_shapes t key (last_shape u)) k d = by_test (at_most kind k key)
  where
    by_test : (c : Bool) → AreDeep n (cond c (last_shape u) (last_shape t))
    by_test true = d.1
    by_test false = d.0
dropped-deep kind n (more_shapes t key (more_shapes u b us)) k d = by_test (at_most kind k key) (dropped-deep kind n (more_shapes u b us) k d.1)
  where
    by_test : (c : Bool) → AreDeep n (dropped kind (more_shapes u b us) k) → AreDeep n (cond c (more_shapes u b us) (more_shapes t key (dropped kind (more_shapes u b us) k)))
    by_test true i = d.1
    by_test false i = (d.0, i)

pub dropped-stands : (kind : KeyKind) (pages : ℕ → Option Body) (ts : Shapes) (k : Key) → StandAll pages ts → StandAll pages (dropped kind ts k)
dropped-stands kind pages (last_shape t) k d = d
dropped-stands kind pages (more_shapes t key (last_shape u)) k d = by_test (at_most kind k key)
  where
    by_test : (c : Bool) → StandAll pages (cond c (last_shape u) (last_shape t))
    by_test true = d.1
    by_test false = d.0
dropped-stands kind pages (more_shapes t key (more_shapes u b us)) k d = by_test (at_most kind k key) (dropped-stands kind pages (more_shapes u b us) k d.1)
  where
    by_test : (c : Bool) → StandAll pages (dropped kind (more_shapes u b us) k) → StandAll pages (cond c (more_shapes u b us) (more_shapes t key (dropped kind (more_shapes u b us) k)))
    by_test true i = d.1
    by_test false i = (d.0, i)

pub chain-leaf : (t : Shape) (leaf : ℕ) → IsChain t leaf → leaves_of t ≡ leaf ∷ []
chain-leaf (leaf_shape at rows) leaf c = ap (λ z. z ∷ []) c
chain-leaf (node_shape at (last_shape t)) leaf c = chain-leaf t leaf c
chain-leaf (node_shape at (more_shapes t key ts)) leaf c = absurd c

-- links where a page goes from a list: seen from its left neighbour on
after-drop : (old new : ℕ → ℕ × ℕ) (l p : ℕ) (ys : List ℕ) → Linked old p ys 0 → ((y : ℕ) (zs : List ℕ) → ys ≡ y ∷ zs → new y ≡ (l, (old y).1)) → ((x : ℕ) → 1 ≤ times x ys → x ≢ head_or 0 ys → new x ≡ old x) → ((x : ℕ) → times x ys ≤ 1) → Linked new l ys 0
after-drop old new l p [] k moved same once = tt
after-drop old new l p (y ∷ ys) k moved same once =
    (moved y ys refl ∙ ap (λ w. (l, w.1)) k.0, same-links old new y ys 0 (λ x i. same x (omega (arith, i)) (λ e. twice x i e)) k.1)
  where
    twice : (x : ℕ) → 1 ≤ times x ys → x ≡ y → ⊥
    twice x i e = let m : 1 ≤ times y ys = subst (λ w. 1 ≤ times w ys) e i in omega (arith, m, once y, one y ys)

pub linked-drop : (old new : ℕ → ℕ × ℕ) (prev : ℕ) (xs : List ℕ) (p : ℕ) (ys : List ℕ) → Linked old prev (xs ++ (p ∷ ys)) 0 → DropLinks old new p
    → ((x : ℕ) → times x (xs ++ (p ∷ ys)) ≤ 1) → times 0 (xs ++ (p ∷ ys)) ≡ 0 → times prev (xs ++ (p ∷ ys)) ≡ 0 → Linked new prev (xs ++ ys) 0
linked-drop old new prev [] p ys l d once nil out =
    after-drop old new prev p ys l.1
    (λ y zs e. subst (λ z. new z ≡ (prev, (old z).1)) (next ∙ ap (λ w. head_or 0 w) e) (d.right (λ z. none y zs e (sym (ap (λ w. head_or 0 w) e) ∙ sym next ∙ z)) ∙ ap (λ z. (z, (old (old p).1).1)) before_p))
    (λ x i n. d.others x (λ e. far x i (e ∙ before_p)) (λ e. n (e ∙ next)))
    (λ x. omega (arith, once x))
  where
    next : (old p).1 ≡ head_or 0 ys
    next = ap (λ w. w.1) l.0

    before_p : (old p).0 ≡ prev
    before_p = ap (λ w. w.0) l.0

    far : (x : ℕ) → 1 ≤ times x ys → x ≡ prev → ⊥
    far x i e = let m : 1 ≤ times prev ys = subst (λ w. 1 ≤ times w ys) e i in omega (arith, m, out, one prev ys)

    none : (y : ℕ) (zs : List ℕ) → ys ≡ y ∷ zs → y ≡ 0 → ⊥
    none y zs e z =
        let m : times 0 (y ∷ zs) ≡ 0 = subst (λ w. times 0 w ≡ 0) e (omega (arith, nil)) in
        let m2 : times 0 (0 ∷ zs) ≡ 0 = subst (λ w. times 0 (w ∷ zs) ≡ 0) z m in
        omega (arith, m2, self 0 zs)
linked-drop old new prev (x ∷ []) p ys l d once nil out = (
  subst (λ z. new z ≡ (prev, head_or 0 ys)) before_p (d.left (λ z. not_nil (sym before_p ∙ z)) ∙ ap₂ (λ a b. (a, b)) (ap (λ z. (old z).0) before_p ∙ ap (λ w. w.0) l.0) (ap (λ w. w.1) l.1.0)),
  linked-drop old new x [] p ys l.1 d (λ z. omega (arith, once z)) (omega (arith, nil)) (omega (arith, once x, one x (p ∷ ys))),
)
  where
    before_p : (old p).0 ≡ x
    before_p = ap (λ w. w.0) l.1.0

    not_nil : x ≡ 0 → ⊥
    not_nil z = let m : times 0 (0 ∷ (p ∷ ys)) ≡ 0 = subst (λ w. times 0 (w ∷ (p ∷ ys)) ≡ 0) z nil in omega (arith, m, self 0 (p ∷ ys))
linked-drop old new prev (x ∷ (y ∷ xs)) p ys l d once nil out = (
  d.others x (λ e. not_before e) (λ e. not_behind ys refl (e ∙ next xs y l.1)) ∙ l.0,
  linked-drop old new x (y ∷ xs) p ys l.1 d (λ z. omega (arith, once z)) (omega (arith, nil)) (omega (arith, once x, one x ((y ∷ xs) ++ (p ∷ ys)))),
)
  where
    next : (zs : List ℕ) (b : ℕ) → Linked old x ((b ∷ zs) ++ (p ∷ ys)) 0 → (old p).1 ≡ head_or 0 ys
    next zs b k = linked-at old x (b ∷ zs) p ys 0 k

    x_out : times x ((y ∷ xs) ++ (p ∷ ys)) ≡ 0
    x_out = omega (arith, once x, one x ((y ∷ xs) ++ (p ∷ ys)))

    prior : (a b : ℕ) (zs : List ℕ) → Linked old a ((b ∷ zs) ++ (p ∷ ys)) 0 → 1 ≤ times (old p).0 (b ∷ zs)
    prior a b [] k = subst (λ w. 1 ≤ times w (b ∷ [])) (sym (ap (λ w. w.0) k.1.0)) (self b [])
    prior a b (c ∷ zs) k = omega (arith, prior b c zs k.1)

    not_before : x ≡ (old p).0 → ⊥
    not_before e =
        let m : 1 ≤ times x (y ∷ xs) = subst (λ w. 1 ≤ times w (y ∷ xs)) (sym e) (prior x y xs l.1) in
        omega (arith, m, x_out, times-append x (y ∷ xs) (p ∷ ys))

    not_behind : (zs : List ℕ) → zs ≡ ys → x ≡ head_or 0 zs → ⊥
    not_behind [] q e = let m : times 0 (0 ∷ ((y ∷ xs) ++ (p ∷ ys))) ≡ 0 = subst (λ w. times 0 (w ∷ ((y ∷ xs) ++ (p ∷ ys))) ≡ 0) e nil in omega (arith, m, self 0 ((y ∷ xs) ++ (p ∷ ys)))
    not_behind (z ∷ zs) q e =
        let i : 1 ≤ times z ys = subst (λ w. 1 ≤ times z w) q (self z zs) in
        let j : 1 ≤ times x ys = subst (λ w. 1 ≤ times w ys) (sym e) i in
        omega (arith, j, x_out, times-append x (y ∷ xs) (p ∷ ys), one x ys)

-- A leaf without its row, and whose parent with more children loses it
pub drop-child : (kind : KeyKind) (st new : State) (loose : List ℕ) (t : Shape) (fs : List ℕ) (d : ℕ) (k : Key) (at : ℕ) (v : ℤ) (leaf : ℕ) (below : Shapes)
    → Holds kind st loose t fs → under kind d t k ≡ node_shape at below → HasMore below → tree_rows (child_for kind below k) ≡ (k, v) ∷ [] → IsChain (child_for kind below k) leaf
    → Apart st new (at ∷ []) → new.bodies at ≡ Some (inner_body (children_of (dropped kind below k)) (last_child (dropped kind below k)))
    → ((xs ys : List ℕ) → leaves_of t ≡ xs ++ (leaf ∷ ys) → Linked new.links 0 (xs ++ ys) 0)
    → Holds kind new (met_by (child_for kind below k) ++ loose) (instead kind d t k (node_shape at (dropped kind below k))) fs × (tree_rows (instead kind d t k (node_shape at (dropped kind below k))) ≡ without kind (tree_rows t) k)
drop-child kind st new loose t fs d k at v leaf below h is keys rows chain o body links =
    finish (dropped-entries kind below k keys) (dropped-leaves kind below k keys)
  where
    node_stands : Stands st.bodies (node_shape at below)
    node_stands = subst (λ u. Stands st.bodies u) is (stands-under kind st.bodies d t k h.built.stands)

    node_once : (x : ℕ) → times x (met_by (node_shape at below)) ≤ 1
    node_once x = subst (λ u. times x (met_by u) ≤ 1) is (omega (arith, times-under kind x d t k, met-once st loose t fs h.built x))

    off : (x y : ℕ) → x ≢ y → times x (y ∷ []) ≡ 0
    off x y n = grind (arith, n)

    not_at : (x : ℕ) → 1 ≤ times x (met_by_all below) → x ≢ at
    not_at x i = λ e. let m : 1 ≤ times at (met_by_all below) = subst (λ w. 1 ≤ times w (met_by_all below)) e i in omega (arith, m, node_once at, one at (met_by_all below))

    inside : (x : ℕ) → times x (met_by (under kind d t k) ++ loose) ≡ 0 → times x (at ∷ []) ≡ 0
    inside x z =
        let m : times x (met_by (node_shape at below) ++ loose) ≡ 0 = subst (λ u. times x (met_by u ++ loose) ≡ 0) is z in
        let a = times-append x (met_by (node_shape at below)) loose in
        let p : times x (at ∷ met_by_all below) ≡ times x (at ∷ []) + times x (met_by_all below) = omega arith in
        omega (arith, m, a, p)

    deeper : (n : ℕ) → IsDeep n (node_shape at below) → IsDeep n (node_shape at (dropped kind below k))
    deeper zero i = i
    deeper (suc n) i = dropped-deep kind n below k i

    counted : (x : ℕ) → times x (met_by (node_shape at (dropped kind below k))) + times x (met_by (child_for kind below k) ++ loose) ≡ times x (met_by (node_shape at below)) + times x loose
    counted x = omega (arith, dropped-times kind x below k keys, times-append x (met_by (child_for kind below k)) loose)

    finish : ((xs : List Entry) × (ys : List Entry) × (zs : List Entry) × (entries_all below ≡ xs ++ (ys ++ zs)) × (entries_all (dropped kind below k) ≡ xs ++ zs) × (rows_in ys ≡ rows_in (entries_of (child_for kind below k))))
        → ((xs : List ℕ) × (zs : List ℕ) × (leaves_all below ≡ xs ++ (leaves_of (child_for kind below k) ++ zs)) × (leaves_all (dropped kind below k) ≡ xs ++ zs))
        → Holds kind new (met_by (child_for kind below k) ++ loose) (instead kind d t k (node_shape at (dropped kind below k))) fs × (tree_rows (instead kind d t k (node_shape at (dropped kind below k))) ≡ without kind (tree_rows t) k)
    finish (xs, ys, zs, e, f, r) (ls, rs, le, lf) =
        let a = before_way kind d t k ++ xs in
        let b = zs ++ behind_way kind d t k in
        let is_old : entries_of t ≡ (before_way kind d t k ++ xs) ++ (ys ++ (zs ++ behind_way kind d t k)) = entries-under kind d t k ∙ ap (λ u. before_way kind d t k ++ (entries_of u ++ behind_way kind d t k)) is ∙ ap (λ z. before_way kind d t k ++ (z ++ behind_way kind d t k)) e ∙ shape_old (before_way kind d t k) xs ys zs (behind_way kind d t k) in
        let is_new : entries_of (instead kind d t k (node_shape at (dropped kind below k))) ≡ (before_way kind d t k ++ xs) ++ (zs ++ behind_way kind d t k) = entries-instead kind d t k (node_shape at (dropped kind below k)) ∙ ap (λ z. before_way kind d t k ++ (z ++ behind_way kind d t k)) f ∙ shape_new (before_way kind d t k) xs zs (behind_way kind d t k) in
        let up : AscendAll kind ((before_way kind d t k ++ xs) ++ (ys ++ (zs ++ behind_way kind d t k))) = subst (λ z. AscendAll kind z) is_old h.ascends in
        let one_row : rows_in ys ≡ (k, v) ∷ [] = r ∙ sym (rows-shape (child_for kind below k)) ∙ rows in
        let l_old : leaves_of t ≡ (leaves_before_way kind d t k ++ ls) ++ (leaf ∷ (rs ++ leaves_behind_way kind d t k)) = leaves-under kind d t k ∙ ap (λ u. leaves_before_way kind d t k ++ (leaves_of u ++ leaves_behind_way kind d t k)) is ∙ ap (λ z. leaves_before_way kind d t k ++ (z ++ leaves_behind_way kind d t k)) (le ∙ ap (λ z. ls ++ (z ++ rs)) (chain-leaf (child_for kind below k) leaf chain)) ∙ shape_leaf (leaves_before_way kind d t k) ls leaf rs (leaves_behind_way kind d t k) in
        let l_new : leaves_of (instead kind d t k (node_shape at (dropped kind below k))) ≡ (leaves_before_way kind d t k ++ ls) ++ (rs ++ leaves_behind_way kind d t k) = leaves-instead kind d t k (node_shape at (dropped kind below k)) ∙ ap (λ z. leaves_before_way kind d t k ++ (z ++ leaves_behind_way kind d t k)) lf ∙ shape_new (leaves_before_way kind d t k) ls rs (leaves_behind_way kind d t k) in (
          record {
            built = exchange-any kind st new loose (met_by (child_for kind below k) ++ loose) t fs d k (node_shape at (dropped kind below k)) h.built
                (record {
                  bodies = λ x z. o.bodies x (inside x z);
                  frees = λ x z. o.frees x (inside x z);
                  root = o.root;
                  levels = o.levels;
                  free = o.free;
                  size = o.size;
                })
                (ap place (sym is))
                (body, same_shapes st.bodies new.bodies (dropped kind below k) (λ x i. o.bodies x (off x at (not_at x (omega (arith, i, dropped-times kind x below k keys))))) (dropped-stands kind st.bodies below k node_stands.1))
                (λ n i. deeper n (subst (λ u. IsDeep n u) is i))
                (λ x. subst (λ u. times x (met_by (node_shape at (dropped kind below k))) + times x (met_by (child_for kind below k) ++ loose) ≡ times x (met_by u) + times x loose) (sym is) (counted x));
            ascends = subst (λ z. AscendAll kind z) (sym is_new) (ascends-without kind (before_way kind d t k ++ xs) ys (zs ++ behind_way kind d t k) up);
            linked = subst (λ z. Linked new.links 0 z 0) (sym l_new) (links (leaves_before_way kind d t k ++ ls) (rs ++ leaves_behind_way kind d t k) l_old);
          },
          rows-shape (instead kind d t k (node_shape at (dropped kind below k))) ∙ ap (λ z. rows_in z) is_new ∙ cut-block kind k v (before_way kind d t k ++ xs) ys (zs ++ behind_way kind d t k) one_row up ∙ sym (ap (λ z. without kind z k) (rows-shape t ∙ ap (λ z. rows_in z) is_old)),
        )
      where
        shape_old : {A : Type 0} (a x y z b : List A) → a ++ ((x ++ (y ++ z)) ++ b) ≡ (a ++ x) ++ (y ++ (z ++ b))
        shape_old a x y z b = simp append_assoc

        shape_new : {A : Type 0} (a x z b : List A) → a ++ ((x ++ z) ++ b) ≡ (a ++ x) ++ (z ++ b)
        shape_new a x z b = simp append_assoc

        shape_leaf : {A : Type 0} (a x : List A) (p : A) (z b : List A) → a ++ ((x ++ ((p ∷ []) ++ z)) ++ b) ≡ (a ++ x) ++ (p ∷ (z ++ b))
        shape_leaf a x p z b = simp append_assoc

pub keys-dropped : (kind : KeyKind) (ts : Shapes) (k : Key) → HasMore ts → (children_of (dropped kind ts k) ≡ keys_without kind (children_of ts) k) × (last_child (dropped kind ts k) ≡ last_without kind (children_of ts) (last_child ts) k)
keys-dropped kind (last_shape t) k h = absurd h
keys-dropped kind (more_shapes t key (last_shape u)) k h = by_test (at_most kind k key)
  where
    by_test : (c : Bool) → (children_of (cond c (last_shape u) (last_shape t)) ≡ []) × (last_child (cond c (last_shape u) (last_shape t)) ≡ cond c (place u) (place t))
    by_test true = (refl, refl)
    by_test false = (refl, refl)
keys-dropped kind (more_shapes t key (more_shapes u b us)) k h = by_test (at_most kind k key) (keys-dropped kind (more_shapes u b us) k tt)
  where
    by_test : (c : Bool) → (children_of (dropped kind (more_shapes u b us) k) ≡ keys_without kind ((b, place u) ∷ children_of us) k) × (last_child (dropped kind (more_shapes u b us) k) ≡ last_without kind ((b, place u) ∷ children_of us) (last_child us) k)
        → (children_of (cond c (more_shapes u b us) (more_shapes t key (dropped kind (more_shapes u b us) k))) ≡ cond c ((b, place u) ∷ children_of us) ((key, place t) ∷ keys_without kind ((b, place u) ∷ children_of us) k))
        × (last_child (cond c (more_shapes u b us) (more_shapes t key (dropped kind (more_shapes u b us) k))) ≡ cond c (last_child us) (last_without kind ((b, place u) ∷ children_of us) (last_child us) k))
    by_test true i = (refl, refl)
    by_test false i = (ap (λ l. (key, place t) ∷ l) i.0, i.1)
