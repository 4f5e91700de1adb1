-- A child is split in a tree.
use Rattle.std.proofs.Common.{◌≡◌, ◌≢◌, ◌≤◌, ◌+◌, ℕ, ℤ, zero, suc, List, [], ◌∷◌, ◌++◌, Option, Some, refl, ap, ap₂, sym, ◌∙◌, subst, arith, append_assoc}
use Rattle.std.specs.List.{AllByRecursion}
use Rattle.bfs_base.specs.Lists.{times}
use Rattle.bfs_base.specs.declared.kind.KeyKind.{KeyKind}
use Rattle.bfs_node.specs.Page.{Row}
use Rattle.bfs_pages.specs.Order.{Key}
use Rattle.bfs_pages.specs.Shapes.{Body, leaf_body, inner_body, Shape, Shapes, leaf_shape, node_shape, last_shape, more_shapes, place, tree_rows, met_by, met_by_all, leaves_of, children_of, last_child, IsDeep, Stands, StandAll, Entry, a_row, a_bound, entries_in, entries_of, IsAbove, Precedes, AscendAll}
use Rattle.bfs_pages.specs.Changes.{Others}
use Rattle.bfs_insert.specs.Growth.{SplitLinks}
use Rattle.bfs_pages.proofs.Placed.{held_first}
use Rattle.bfs_pages.specs.Trees.{State, head_or, Linked, Built, Holds}
use Rattle.bfs_pages.specs.Ways.{child_for, spliced, rows_in, before, behind, leaves_before, leaves_behind, under, instead, before_way, behind_way, leaves_before_way, leaves_behind_way, keys_split, last_split}
use Rattle.bfs_pages.proofs.KeyOrder.{most_itself, beyond_row, bound_after}
use Rattle.bfs_pages.proofs.Splice.{all-more, ascends-right, entries-spliced, deep-spliced, times-spliced, times-append, leaves-spliced, self}
use Rattle.bfs_pages.proofs.Way.{entries-instead, leaves-instead, times-under, times-child, stands-spliced, child-deep, place-met}
use Rattle.bfs_pages.proofs.Laws.{rows-shape, rows-append, ascends-after, linked-split, one}
use Rattle.bfs_pages.proofs.Exchange.{keys-two, stands-under, exchange, met-once}
use Rattle.bfs_pages.proofs.Leaves.{node-entries, node-leaves, linked-at, leaf-form, times-leaves, entries-append}

old-form : {A : Type 0} (a b l : List A) (e : A) (r c d : List A) → a ++ ((b ++ ((l ++ (e ∷ r)) ++ c)) ++ d) ≡ (a ++ (b ++ l)) ++ (e ∷ (r ++ (c ++ d)))
old-form a b l e r c d = simp append_assoc

new-form : {A : Type 0} (a b l : List A) (e f : A) (r c d : List A) → a ++ ((b ++ (((l ++ (e ∷ [])) ++ (f ∷ r)) ++ c)) ++ d) ≡ (a ++ (b ++ l)) ++ (e ∷ f ∷ (r ++ (c ++ d)))
new-form a b l e f r c d = simp append_assoc

two-form : {A : Type 0} (a b : List A) (e f : A) (c d : List A) → a ++ ((b ++ (e ∷ f ∷ c)) ++ d) ≡ (a ++ b) ++ (e ∷ f ∷ (c ++ d))
two-form a b e f c d = simp append_assoc

-- the parts of a new child are not before a place
node-stands : (kind : KeyKind) → (pages new : ℕ → Option Body) (at c q : ℕ) (k : Key) (below ss : Shapes) → Stands pages (node_shape at below) → ((x : ℕ) → times x (met_by (node_shape at below)) ≤ 1) → times q (met_by_all below) ≡ 0
    → place (child_for kind below k) ≡ c → ((x : ℕ) → x ≢ at → x ≢ c → x ≢ q → new x ≡ pages x)
    → new at ≡ Some (inner_body (children_of (spliced kind below k ss)) (last_child (spliced kind below k ss))) → StandAll new ss → Stands new (node_shape at (spliced kind below k ss))
node-stands kind pages new at c q k below ss s once out is same body n = (
  body,
  stands-spliced kind pages new below k ss s.1 n (λ x. omega (arith, once x, one x (met_by_all below))) (λ x i z. same x (not_at x i) (not_c x z) (not_q x i)),
)
  where
    not_at : (x : ℕ) → 1 ≤ times x (met_by_all below) → x ≢ at
    not_at x i = λ e. let m : 1 ≤ times at (met_by_all below) = subst (λ w. 1 ≤ times w (met_by_all below)) e i in omega (arith, m, once at, self at (met_by_all below), one at (met_by_all below))

    not_c : (x : ℕ) → times x (met_by (child_for kind below k)) ≡ 0 → x ≢ c
    not_c x z = λ e. let m : 1 ≤ times x (met_by (child_for kind below k)) = subst (λ w. 1 ≤ times w (met_by (child_for kind below k))) (is ∙ sym e) (place-met (child_for kind below k)) in omega (arith, m, z)

    not_q : (x : ℕ) → 1 ≤ times x (met_by_all below) → x ≢ q
    not_q x i = λ e. let m : 1 ≤ times q (met_by_all below) = subst (λ w. 1 ≤ times w (met_by_all below)) e i in omega (arith, m, out)

-- the tree where the child that a key leads to is split
abbrev pub split_tree : KeyKind → ℕ → Shape → Key → ℕ → Shapes → Shape → Key → Shape → Shape
split_tree kind d t k at below l sep r = instead kind d t k (node_shape at (spliced kind below k (more_shapes l sep (last_shape r))))

-- all but order and links
pub split-built : (kind : KeyKind) → (st new : State) (q : ℕ) (loose : List ℕ) (t : Shape) (fs : List ℕ) (d : ℕ) (k : Key) (at c : ℕ) (below : Shapes) (l : Shape) (sep : Key) (r : Shape)
    → Built st (q ∷ loose) t fs → under kind d t k ≡ node_shape at below → place (child_for kind below k) ≡ c → Others st new at c q
    → new.bodies at ≡ Some (inner_body (keys_split kind (children_of below) (last_child below) k sep q) (last_split kind (children_of below) (last_child below) k q))
    → place l ≡ c → place r ≡ q → Stands new.bodies l → Stands new.bodies r
    → ((n : ℕ) → IsDeep n (child_for kind below k) → IsDeep n l × IsDeep n r)
    → ((x : ℕ) → times x (met_by l) + times x (met_by r) ≡ times x (met_by (child_for kind below k)) + times x (q ∷ []))
    → Built new loose (split_tree kind d t k at below l sep r) fs
split-built kind st new q loose t fs d k at c below l sep r h is isc o body pl pr sl sr deep met =
    exchange kind st new q loose t fs at c d k s h o
    (subst (λ u. 1 ≤ times at (met_by u)) (sym is) (self at (met_by_all below)))
    (subst (λ u. 1 ≤ times c (met_by u)) (sym is) in_c)
    (ap place (sym is))
    stand
    (λ n i. deeper n (subst (λ u. IsDeep n u) is i))
    (λ x. subst (λ u. times x (met_by s) ≡ times x (met_by u) + times x (q ∷ [])) (sym is) (counted x))
  where
    ss : Shapes
    ss = more_shapes l sep (last_shape r)

    s : Shape
    s = node_shape at (spliced kind below k (more_shapes l sep (last_shape r)))

    in_c : 1 ≤ times c (met_by (node_shape at below))
    in_c =
        let m : 1 ≤ times c (met_by (child_for kind below k)) = subst (λ w. 1 ≤ times w (met_by (child_for kind below k))) isc (place-met (child_for kind below k)) in
        omega (arith, m, times-child kind c below k, one c (met_by_all below))

    node_once : (x : ℕ) → times x (met_by (node_shape at below)) ≤ 1
    node_once x = subst (λ u. times x (met_by u) ≤ 1) is (omega (arith, times-under kind x d t k, met-once st (q ∷ loose) t fs h x))

    q_out : times q (met_by_all below) ≡ 0
    q_out =
        let m : times q (met_by (node_shape at below)) ≤ times q (met_by t) = subst (λ u. times q (met_by u) ≤ times q (met_by t)) is (times-under kind q d t k) in
        omega (arith, m, met-once st (q ∷ loose) t fs h q, self q loose, one q (met_by_all below))

    two : (children_of (spliced kind below k (more_shapes l sep (last_shape r))) ≡ keys_split kind (children_of below) (last_child below) k sep (place r)) × (last_child (spliced kind below k (more_shapes l sep (last_shape r))) ≡ last_split kind (children_of below) (last_child below) k (place r))
    two = keys-two kind below k l sep r (pl ∙ sym isc)

    stand : Stands new.bodies (node_shape at (spliced kind below k (more_shapes l sep (last_shape r))))
    stand = node-stands kind st.bodies new.bodies at c q k below (more_shapes l sep (last_shape r)) (subst (λ u. Stands st.bodies u) is (stands-under kind st.bodies d t k h.stands)) node_once q_out isc o.bodies
        (body ∙ ap₂ (λ a b. Some (inner_body a b)) (ap (λ p. keys_split kind (children_of below) (last_child below) k sep p) (sym pr) ∙ sym two.0) (ap (λ p. last_split kind (children_of below) (last_child below) k p) (sym pr) ∙ sym two.1)) (sl, sr)

    deeper : (n : ℕ) → IsDeep n (node_shape at below) → IsDeep n (node_shape at (spliced kind below k (more_shapes l sep (last_shape r))))
    deeper zero i = i
    deeper (suc n) i = deep-spliced kind n below k (more_shapes l sep (last_shape r)) i (deep n (child-deep kind n below k i))

    counted : (x : ℕ) → times x (met_by (node_shape at (spliced kind below k (more_shapes l sep (last_shape r))))) ≡ times x (met_by (node_shape at below)) + times x (q ∷ [])
    counted x = omega (arith, one x (met_by_all below), one x (met_by_all (spliced kind below k (more_shapes l sep (last_shape r)))), times-spliced kind x below k (more_shapes l sep (last_shape r)), times-append x (met_by l) (met_by r), met x)

-- entries of the tree where the child is split
pub split-entries : (kind : KeyKind) → (d : ℕ) (t : Shape) (k : Key) (at : ℕ) (below : Shapes) (l : Shape) (sep : Key) (r : Shape)
    → entries_of (split_tree kind d t k at below l sep r) ≡ before_way kind d t k ++ ((before kind below k ++ ((entries_of l ++ (a_bound sep ∷ entries_of r)) ++ behind kind below k)) ++ behind_way kind d t k)
split-entries kind d t k at below l sep r =
    entries-instead kind d t k (node_shape at (spliced kind below k (more_shapes l sep (last_shape r)))) ∙ ap (λ z. before_way kind d t k ++ (z ++ behind_way kind d t k)) (entries-spliced kind below k (more_shapes l sep (last_shape r)))

pub split-leaves : (kind : KeyKind) → (d : ℕ) (t : Shape) (k : Key) (at : ℕ) (below : Shapes) (l : Shape) (sep : Key) (r : Shape)
    → leaves_of (split_tree kind d t k at below l sep r) ≡ leaves_before_way kind d t k ++ ((leaves_before kind below k ++ ((leaves_of l ++ leaves_of r) ++ leaves_behind kind below k)) ++ leaves_behind_way kind d t k)
split-leaves kind d t k at below l sep r =
    leaves-instead kind d t k (node_shape at (spliced kind below k (more_shapes l sep (last_shape r)))) ∙ ap (λ z. leaves_before_way kind d t k ++ (z ++ leaves_behind_way kind d t k)) (leaves-spliced kind below k (more_shapes l sep (last_shape r)))

-- rows of a tree whose entries have one bound more
rows-more : (xs : List Entry) (key : Key) (v : ℤ) (b : Key) (ys : List Entry) → rows_in (xs ++ (a_row key v ∷ a_bound b ∷ ys)) ≡ rows_in (xs ++ (a_row key v ∷ ys))
rows-more xs key v b ys = rows-append xs (a_row key v ∷ a_bound b ∷ ys) ∙ sym (rows-append xs (a_row key v ∷ ys))

pub split-leaf : (kind : KeyKind) → (st new : State) (q : ℕ) (loose : List ℕ) (t : Shape) (fs : List ℕ) (d : ℕ) (k : Key) (at c : ℕ) (below : Shapes) (l : List Row) (sep : Key) (v : ℤ) (b : Key) (w : ℤ) (r : List Row)
    → Holds kind st (q ∷ loose) t fs → under kind d t k ≡ node_shape at below → child_for kind below k ≡ leaf_shape c (l ++ ((sep, v) ∷ (b, w) ∷ r)) → Others st new at c q
    → new.bodies at ≡ Some (inner_body (keys_split kind (children_of below) (last_child below) k sep q) (last_split kind (children_of below) (last_child below) k q))
    → new.bodies c ≡ Some (leaf_body (l ++ ((sep, v) ∷ []))) → new.bodies q ≡ Some (leaf_body ((b, w) ∷ r)) → SplitLinks st.links new.links c q → 1 ≤ st.size
    → Holds kind new loose (split_tree kind d t k at below (leaf_shape c (l ++ ((sep, v) ∷ []))) sep (leaf_shape q ((b, w) ∷ r))) fs
    × (tree_rows (split_tree kind d t k at below (leaf_shape c (l ++ ((sep, v) ∷ []))) sep (leaf_shape q ((b, w) ∷ r))) ≡ tree_rows t)
split-leaf kind st new q loose t fs d k at c below l sep v b w r h is isc o body bc bq links some = (
  record {
    built = split-built kind st new q loose t fs d k at c below (leaf_shape c (l ++ ((sep, v) ∷ []))) sep (leaf_shape q ((b, w) ∷ r)) h.built is (ap place isc) o body refl refl bc bq
        (λ n i. let z : n ≡ 0 = subst (λ u. IsDeep n u) isc i in (z, z))
        (λ x. subst (λ u. times x (c ∷ []) + times x (q ∷ []) ≡ times x (met_by u) + times x (q ∷ [])) (sym isc) refl);
    ascends = subst (λ z. AscendAll kind z) (sym is_new) (ascends-after kind xs (a_row sep v) (a_bound sep) ys (most_itself kind sep) (bound_after kind sep v) (all_above (ascends-right kind xs (a_row sep v ∷ ys) old_up).0 (ascends-right kind xs (a_row sep v ∷ ys) old_up).1.0) old_up);
    linked = subst (λ z. Linked new.links 0 z 0) (sym leaves_new)
        (linked-split st.links new.links 0 ps c q qs 0 old_linked leaf_once q_out (λ x i j n. links.others x i j (λ e. n (e ∙ next_is))) nil_out links.left links.right
        (λ y zs e. subst (λ z. new.links z ≡ (q, (st.links z).1)) (next_is ∙ ap (λ z. head_or 0 z) e) (links.next (λ n. y_some y zs e (sym (ap (λ z. head_or 0 z) e) ∙ sym next_is ∙ n)))));
  },
  rows-shape (split_tree kind d t k at below (leaf_shape c (l ++ ((sep, v) ∷ []))) sep (leaf_shape q ((b, w) ∷ r))) ∙ ap (λ z. rows_in z) is_new ∙ rows-more xs sep v sep ys ∙ sym (ap (λ z. rows_in z) is_old) ∙ sym (rows-shape t),
)
  where
    xs : List Entry
    xs = before_way kind d t k ++ (before kind below k ++ entries_in l)

    ys : List Entry
    ys = entries_in ((b, w) ∷ r) ++ (behind kind below k ++ behind_way kind d t k)

    is_old : entries_of t ≡ (before_way kind d t k ++ (before kind below k ++ entries_in l)) ++ (a_row sep v ∷ (entries_in ((b, w) ∷ r) ++ (behind kind below k ++ behind_way kind d t k)))
    is_old = node-entries kind d t k at below is ∙ ap (λ z. before_way kind d t k ++ ((before kind below k ++ (z ++ behind kind below k)) ++ behind_way kind d t k)) (ap entries_of isc ∙ entries-append l ((sep, v) ∷ (b, w) ∷ r))
        ∙ old-form (before_way kind d t k) (before kind below k) (entries_in l) (a_row sep v) (entries_in ((b, w) ∷ r)) (behind kind below k) (behind_way kind d t k)

    is_new : entries_of (split_tree kind d t k at below (leaf_shape c (l ++ ((sep, v) ∷ []))) sep (leaf_shape q ((b, w) ∷ r))) ≡ (before_way kind d t k ++ (before kind below k ++ entries_in l)) ++ (a_row sep v ∷ a_bound sep ∷ (entries_in ((b, w) ∷ r) ++ (behind kind below k ++ behind_way kind d t k)))
    is_new = split-entries kind d t k at below (leaf_shape c (l ++ ((sep, v) ∷ []))) sep (leaf_shape q ((b, w) ∷ r))
        ∙ ap (λ z. before_way kind d t k ++ ((before kind below k ++ ((z ++ (a_bound sep ∷ entries_in ((b, w) ∷ r))) ++ behind kind below k)) ++ behind_way kind d t k)) (entries-append l ((sep, v) ∷ []))
        ∙ new-form (before_way kind d t k) (before kind below k) (entries_in l) (a_row sep v) (a_bound sep) (entries_in ((b, w) ∷ r)) (behind kind below k) (behind_way kind d t k)

    old_up : AscendAll kind ((before_way kind d t k ++ (before kind below k ++ entries_in l)) ++ (a_row sep v ∷ (entries_in ((b, w) ∷ r) ++ (behind kind below k ++ behind_way kind d t k))))
    old_up = subst (λ z. AscendAll kind z) is_old h.ascends

    all_above : AllByRecursion (λ y. IsAbove kind sep y) (a_row b w ∷ (entries_in r ++ (behind kind below k ++ behind_way kind d t k))) → AllByRecursion (λ y. IsAbove kind b y) (entries_in r ++ (behind kind below k ++ behind_way kind d t k))
        → AllByRecursion (λ y. Precedes kind (a_bound sep) y) (a_row b w ∷ (entries_in r ++ (behind kind below k ++ behind_way kind d t k)))
    all_above p u = (p.0, all-more (λ y. IsAbove kind b y) (λ y. Precedes kind (a_bound sep) y) (beyond_row kind sep b p.0) (entries_in r ++ (behind kind below k ++ behind_way kind d t k)) u)

    ps : List ℕ
    ps = leaves_before_way kind d t k ++ leaves_before kind below k

    qs : List ℕ
    qs = leaves_behind kind below k ++ leaves_behind_way kind d t k

    leaves_old : leaves_of t ≡ (leaves_before_way kind d t k ++ leaves_before kind below k) ++ (c ∷ (leaves_behind kind below k ++ leaves_behind_way kind d t k))
    leaves_old = node-leaves kind d t k at below is ∙ ap (λ z. leaves_before_way kind d t k ++ ((leaves_before kind below k ++ (leaves_of z ++ leaves_behind kind below k)) ++ leaves_behind_way kind d t k)) isc
        ∙ leaf-form (leaves_before_way kind d t k) (leaves_before kind below k) c (leaves_behind kind below k) (leaves_behind_way kind d t k)

    leaves_new : leaves_of (split_tree kind d t k at below (leaf_shape c (l ++ ((sep, v) ∷ []))) sep (leaf_shape q ((b, w) ∷ r))) ≡ (leaves_before_way kind d t k ++ leaves_before kind below k) ++ (c ∷ q ∷ (leaves_behind kind below k ++ leaves_behind_way kind d t k))
    leaves_new = split-leaves kind d t k at below (leaf_shape c (l ++ ((sep, v) ∷ []))) sep (leaf_shape q ((b, w) ∷ r)) ∙ two-form (leaves_before_way kind d t k) (leaves_before kind below k) c q (leaves_behind kind below k) (leaves_behind_way kind d t k)

    old_linked : Linked st.links 0 ((leaves_before_way kind d t k ++ leaves_before kind below k) ++ (c ∷ (leaves_behind kind below k ++ leaves_behind_way kind d t k))) 0
    old_linked = subst (λ z. Linked st.links 0 z 0) leaves_old h.linked

    next_is : (st.links c).1 ≡ head_or 0 (leaves_behind kind below k ++ leaves_behind_way kind d t k)
    next_is = linked-at st.links 0 (leaves_before_way kind d t k ++ leaves_before kind below k) c (leaves_behind kind below k ++ leaves_behind_way kind d t k) 0 old_linked

    leaf_once : (x : ℕ) → times x ((leaves_before_way kind d t k ++ leaves_before kind below k) ++ (c ∷ (leaves_behind kind below k ++ leaves_behind_way kind d t k))) ≤ 1
    leaf_once x = subst (λ z. times x z ≤ 1) leaves_old (omega (arith, times-leaves x t, met-once st (q ∷ loose) t fs h.built x))

    q_out : times q ((leaves_before_way kind d t k ++ leaves_before kind below k) ++ (c ∷ (leaves_behind kind below k ++ leaves_behind_way kind d t k))) ≡ 0
    q_out = subst (λ z. times q z ≡ 0) leaves_old (omega (arith, times-leaves q t, met-once st (q ∷ loose) t fs h.built q, self q loose))

    nil_out : times 0 ((leaves_before_way kind d t k ++ leaves_before kind below k) ++ (c ∷ (leaves_behind kind below k ++ leaves_behind_way kind d t k))) ≡ 0
    nil_out = subst (λ z. times 0 z ≡ 0) leaves_old (omega (arith, times-leaves 0 t, h.built.once 0, held_first st.size some, self 0 []))

    y_some : (y : ℕ) (zs : List ℕ) → leaves_behind kind below k ++ leaves_behind_way kind d t k ≡ y ∷ zs → y ≢ 0
    y_some y zs e = λ n.
        let m : times 0 (leaves_behind kind below k ++ leaves_behind_way kind d t k) ≡ 0 = omega (arith, nil_out, times-append 0 (leaves_before_way kind d t k ++ leaves_before kind below k) (c ∷ (leaves_behind kind below k ++ leaves_behind_way kind d t k)), one 0 (leaves_behind kind below k ++ leaves_behind_way kind d t k)) in
        let m2 : times 0 (y ∷ zs) ≡ 0 = subst (λ z. times 0 z ≡ 0) e m in
        let m3 : 1 ≤ times 0 (0 ∷ zs) = self 0 zs in
        let m4 : times 0 (0 ∷ zs) ≡ 0 = subst (λ z. times 0 (z ∷ zs) ≡ 0) n m2 in
        omega (arith, m3, m4)
