-- An interior page is split, a row is put, a page is taken, the root grows.
use Rattle.std.proofs.Common.{◌≡◌, ◌≢◌, ◌≤◌, ◌+◌, ◌%◌, ℕ, ℤ, zero, suc, List, [], ◌∷◌, ◌++◌, Option, Some, None, refl, ap, ap₂, sym, ◌∙◌, subst, arith}
use Rattle.bfs_base.specs.Lists.{times}
use Rattle.bfs_base.specs.declared.kind.KeyKind.{KeyKind}
use Rattle.bfs_node.specs.Page.{Row}
use Rattle.bfs_pages.specs.Order.{Key}
use Rattle.bfs_pages.specs.Maps.{assoc, put}
use Rattle.bfs_pages.specs.Shapes.{Body, leaf_body, inner_body, Shape, Shapes, leaf_shape, node_shape, last_shape, more_shapes, place, tree_rows, met_by, met_by_all, leaves_of, children_of, last_child, IsDeep, AreDeep, Stands, StandAll, entries_in, entries_of, AscendAll}
use Rattle.bfs_pages.specs.Changes.{Others}
use Rattle.bfs_pages.proofs.Placed.{same_held, held_end, held_more}
use Rattle.bfs_pages.specs.Trees.{State, head_or, Linked, FreeFrom, Holds}
use Rattle.bfs_pages.specs.Ways.{child_for, joined, rows_in, before, behind, leaves_before, leaves_behind, under, instead, before_way, behind_way, leaves_before_way, leaves_behind_way, keys_split, last_split}
use Rattle.bfs_pages.proofs.Splice.{entries-joined, leaves-joined, times-append, times-joined, same_shape, same_shapes, self}
use Rattle.bfs_pages.proofs.Way.{entries-under, entries-instead, leaves-under, leaves-instead, times-under, times-child, child-stands, before-way-below, behind-way-above}
use Rattle.bfs_pages.proofs.Laws.{rows-shape, same-links, put-amid, ascends-amid}
use Rattle.bfs_pages.proofs.Exchange.{stands-under, met-once, same-free, Apart, exchange-any}
use Rattle.bfs_insert.proofs.Split.{split-built, split_tree, split-entries, split-leaves}
use Rattle.bfs_pages.proofs.Leaves.{node-entries, node-leaves, times-leaves}

pub keys-joined : (ls : Shapes) (sep : Key) (rs : Shapes) → children_of (joined ls sep rs) ≡ children_of ls ++ ((sep, last_child ls) ∷ children_of rs)
keys-joined (last_shape t) sep rs = refl
keys-joined (more_shapes t key ls) sep rs = ap (λ l. (key, place t) ∷ l) (keys-joined ls sep rs)

pub last-joined : (ls : Shapes) (sep : Key) (rs : Shapes) → last_child (joined ls sep rs) ≡ last_child rs
last-joined (last_shape t) sep rs = refl
last-joined (more_shapes t key ls) sep rs = last-joined ls sep rs

-- children whose keys fall apart fall apart
pub apart : (ts : Shapes) (kl : List (Key × ℕ)) (sep : Key) (m : ℕ) (kr : List (Key × ℕ)) → children_of ts ≡ kl ++ ((sep, m) ∷ kr)
    → (ls : Shapes) × (rs : Shapes) × (ts ≡ joined ls sep rs) × (children_of ls ≡ kl) × (last_child ls ≡ m) × (children_of rs ≡ kr) × (last_child rs ≡ last_child ts)
apart (last_shape t) [] sep m kr e = absurd (none e)
  where
    none : [] ≡ (sep, m) ∷ kr → ⊥
    none e = cc
apart (last_shape t) (x ∷ kl) sep m kr e = absurd (none e)
  where
    none : [] ≡ x ∷ (kl ++ ((sep, m) ∷ kr)) → ⊥
    none e = cc
apart (more_shapes t key ts) [] sep m kr e = (last_shape t, ts, ap (λ k. more_shapes t k ts) kk, refl, pp, tail, refl)
  where
    head : ◌≡◌ {A = Key × ℕ} (key, place t) (sep, m)
    head = cc

    kk : key ≡ sep
    kk = ap (λ x. x.0) head

    pp : place t ≡ m
    pp = ap (λ x. x.1) head

    tail : children_of ts ≡ kr
    tail = cc
apart (more_shapes t key ts) (x ∷ kl) sep m kr e =
    let i = apart ts kl sep m kr tail in
    (more_shapes t key i.0, i.1, ap (λ z. more_shapes t key z) i.2, ap₂ (λ a b. a ∷ b) head i.3, i.4, i.5, i.6)
  where
    head : ◌≡◌ {A = Key × ℕ} (key, place t) x
    head = cc

    tail : children_of ts ≡ kl ++ ((sep, m) ∷ kr)
    tail = cc

stand-left : (pages : ℕ → Option Body) (ls : Shapes) (sep : Key) (rs : Shapes) → StandAll pages (joined ls sep rs) → StandAll pages ls × StandAll pages rs
stand-left pages (last_shape t) sep rs s = s
stand-left pages (more_shapes t key ls) sep rs s = let i = stand-left pages ls sep rs s.1 in ((s.0, i.0), i.1)

deep-apart : (n : ℕ) (ls : Shapes) (sep : Key) (rs : Shapes) → AreDeep n (joined ls sep rs) → AreDeep n ls × AreDeep n rs
deep-apart n (last_shape t) sep rs s = s
deep-apart n (more_shapes t key ls) sep rs s = let i = deep-apart n ls sep rs s.1 in ((s.0, i.0), i.1)

pub split-inner : (kind : KeyKind) → (st new : State) (q : ℕ) (loose : List ℕ) (t : Shape) (fs : List ℕ) (d : ℕ) (k : Key) (at c : ℕ) (below : Shapes) (ls : Shapes) (sep : Key) (rs : Shapes)
    → Holds kind st (q ∷ loose) t fs → under kind d t k ≡ node_shape at below → child_for kind below k ≡ node_shape c (joined ls sep rs) → Others st new at c q
    → new.bodies at ≡ Some (inner_body (keys_split kind (children_of below) (last_child below) k sep q) (last_split kind (children_of below) (last_child below) k q))
    → new.bodies c ≡ Some (inner_body (children_of ls) (last_child ls)) → new.bodies q ≡ Some (inner_body (children_of rs) (last_child rs)) → ((x : ℕ) → x ≢ q → new.links x ≡ st.links x)
    → Holds kind new loose (split_tree kind d t k at below (node_shape c ls) sep (node_shape q rs)) fs × (tree_rows (split_tree kind d t k at below (node_shape c ls) sep (node_shape q rs)) ≡ tree_rows t)
split-inner kind st new q loose t fs d k at c below ls sep rs h is isc o body bc bq links = (
  record {
    built = split-built kind st new q loose t fs d k at c below (node_shape c ls) sep (node_shape q rs) h.built is (ap place isc) o body refl refl (bc, left_stands) (bq, right_stands)
        (λ n i. deeper n (subst (λ u. IsDeep n u) isc i))
        (λ x. subst (λ u. times x (c ∷ met_by_all ls) + times x (q ∷ met_by_all rs) ≡ times x (met_by u) + times x (q ∷ [])) (sym isc) (omega (arith, times-joined x ls sep rs)));
    ascends = subst (λ z. AscendAll kind z) (sym same_entries) h.ascends;
    linked = subst (λ z. Linked new.links 0 z 0) (sym same_leaves) (same-links st.links new.links 0 (leaves_of t) 0 (λ x i. links x (off x i)) h.linked);
  },
  rows-shape (split_tree kind d t k at below (node_shape c ls) sep (node_shape q rs)) ∙ ap (λ z. rows_in z) same_entries ∙ sym (rows-shape t),
)
  where
    same_entries : entries_of (split_tree kind d t k at below (node_shape c ls) sep (node_shape q rs)) ≡ entries_of t
    same_entries = split-entries kind d t k at below (node_shape c ls) sep (node_shape q rs)
        ∙ ap (λ z. before_way kind d t k ++ ((before kind below k ++ (z ++ behind kind below k)) ++ behind_way kind d t k)) (sym (entries-joined ls sep rs) ∙ ap entries_of (sym isc))
        ∙ sym (node-entries kind d t k at below is)

    same_leaves : leaves_of (split_tree kind d t k at below (node_shape c ls) sep (node_shape q rs)) ≡ leaves_of t
    same_leaves = split-leaves kind d t k at below (node_shape c ls) sep (node_shape q rs)
        ∙ ap (λ z. leaves_before_way kind d t k ++ ((leaves_before kind below k ++ (z ++ leaves_behind kind below k)) ++ leaves_behind_way kind d t k)) (sym (leaves-joined ls sep rs) ∙ ap leaves_of (sym isc))
        ∙ sym (node-leaves kind d t k at below is)

    off : (x : ℕ) → 1 ≤ times x (leaves_of t) → x ≢ q
    off x i = λ e. let m : 1 ≤ times q (leaves_of t) = subst (λ w. 1 ≤ times w (leaves_of t)) e i in omega (arith, m, times-leaves q t, met-once st (q ∷ loose) t fs h.built q, self q loose)

    deeper : (n : ℕ) → IsDeep n (node_shape c (joined ls sep rs)) → IsDeep n (node_shape c ls) × IsDeep n (node_shape q rs)
    deeper zero i = (i, i)
    deeper (suc n) i = deep-apart n ls sep rs i

    node_stands : Stands st.bodies (node_shape at below)
    node_stands = subst (λ u. Stands st.bodies u) is (stands-under kind st.bodies d t k h.built.stands)

    child_stands : Stands st.bodies (node_shape c (joined ls sep rs))
    child_stands = subst (λ u. Stands st.bodies u) isc (child-stands kind st.bodies below k node_stands.1)

    bound : (x : ℕ) → times x (at ∷ []) + times x (c ∷ []) + times x (met_by_all (joined ls sep rs)) + times x (q ∷ []) ≤ 1
    bound x =
        let m : times x (met_by (node_shape c (joined ls sep rs))) ≤ times x (met_by_all below) = subst (λ u. times x (met_by u) ≤ times x (met_by_all below)) isc (times-child kind x below k) in
        let n : times x (met_by (node_shape at below)) ≤ times x (met_by t) = subst (λ u. times x (met_by u) ≤ times x (met_by t)) is (times-under kind x d t k) in
        omega (arith, m, n, met-once st (q ∷ loose) t fs h.built x)

    not_in : (x y : ℕ) → 1 ≤ times x (met_by_all (joined ls sep rs)) → 1 ≤ times y (at ∷ []) + times y (c ∷ []) + times y (q ∷ []) → x ≢ y
    not_in x y i j = λ e. let m : 1 ≤ times y (met_by_all (joined ls sep rs)) = subst (λ w. 1 ≤ times w (met_by_all (joined ls sep rs))) e i in omega (arith, m, j, bound y)

    kept : (x : ℕ) → 1 ≤ times x (met_by_all (joined ls sep rs)) → new.bodies x ≡ st.bodies x
    kept x i = o.bodies x (not_in x at i (omega (arith, self at []))) (not_in x c i (omega (arith, self c []))) (not_in x q i (omega (arith, self q [])))

    left_stands : StandAll new.bodies ls
    left_stands = same_shapes st.bodies new.bodies ls (λ x i. kept x (omega (arith, i, times-joined x ls sep rs))) (stand-left st.bodies ls sep rs child_stands.1).0

    right_stands : StandAll new.bodies rs
    right_stands = same_shapes st.bodies new.bodies rs (λ x i. kept x (omega (arith, i, times-joined x ls sep rs))) (stand-left st.bodies ls sep rs child_stands.1).1

-- a row is put into the leaf on its way
pub put-row : (kind : KeyKind) → (st new : State) (loose : List ℕ) (t : Shape) (fs : List ℕ) (d : ℕ) (k : Key) (v : ℤ) (at : ℕ) (rows : List Row)
    → Holds kind st loose t fs → under kind d t k ≡ leaf_shape at rows → assoc kind rows k ≡ None → Apart st new (at ∷ []) → new.bodies at ≡ Some (leaf_body (put kind rows k v)) → ((x : ℕ) → new.links x ≡ st.links x)
    → Holds kind new loose (instead kind d t k (leaf_shape at (put kind rows k v))) fs × (tree_rows (instead kind d t k (leaf_shape at (put kind rows k v))) ≡ put kind (tree_rows t) k v)
put-row kind st new loose t fs d k v at rows h is none o body links = (
  record {
    built = exchange-any kind st new loose loose t fs d k (leaf_shape at (put kind rows k v)) h.built
        (record {
          bodies = λ x z. o.bodies x (inside x z);
          frees = λ x z. o.frees x (inside x z);
          root = o.root;
          levels = o.levels;
          free = o.free;
          size = o.size;
        })
        (ap place (sym is)) body (λ n i. subst (λ u. IsDeep n u) is i) (λ x. ap (λ u. times x (met_by u) + times x loose) (sym is));
    ascends = subst (λ z. AscendAll kind z) (sym is_new) (ascends-amid kind (before_way kind d t k) rows (behind_way kind d t k) k v (before-way-below kind d t k h.ascends) (behind-way-above kind d t k h.ascends) none (subst (λ z. AscendAll kind z) is_old h.ascends));
    linked = subst (λ z. Linked new.links 0 z 0) (leaves-under kind d t k ∙ ap (λ u. leaves_before_way kind d t k ++ (leaves_of u ++ leaves_behind_way kind d t k)) is ∙ sym (leaves-instead kind d t k (leaf_shape at (put kind rows k v)))) (same-links st.links new.links 0 (leaves_of t) 0 (λ x i. links x) h.linked);
  },
  rows-shape (instead kind d t k (leaf_shape at (put kind rows k v))) ∙ ap (λ z. rows_in z) is_new
      ∙ put-amid kind (before_way kind d t k) rows (behind_way kind d t k) k v (before-way-below kind d t k h.ascends) (behind-way-above kind d t k h.ascends)
      ∙ sym (ap (λ z. put kind z k v) (rows-shape t ∙ ap (λ z. rows_in z) is_old)),
)
  where
    is_old : entries_of t ≡ before_way kind d t k ++ (entries_in rows ++ behind_way kind d t k)
    is_old = entries-under kind d t k ∙ ap (λ u. before_way kind d t k ++ (entries_of u ++ behind_way kind d t k)) is

    is_new : entries_of (instead kind d t k (leaf_shape at (put kind rows k v))) ≡ before_way kind d t k ++ (entries_in (put kind rows k v) ++ behind_way kind d t k)
    is_new = entries-instead kind d t k (leaf_shape at (put kind rows k v))

    inside : (x : ℕ) → times x (met_by (under kind d t k) ++ loose) ≡ 0 → times x (at ∷ []) ≡ 0
    inside x z =
        let m : times x ((at ∷ []) ++ loose) ≡ 0 = subst (λ u. times x (met_by u ++ loose) ≡ 0) is z in
        omega (arith, m, times-append x (at ∷ []) loose)

-- the first free page is taken
pub take-free : (kind : KeyKind) → (st new : State) (loose : List ℕ) (t : Shape) (f : ℕ) (fs : List ℕ) → Holds kind st loose t (f ∷ fs)
    → ((x : ℕ) → new.bodies x ≡ st.bodies x) → ((x : ℕ) → new.frees x ≡ st.frees x) → ((x : ℕ) → new.links x ≡ st.links x) → new.root ≡ st.root → new.levels ≡ st.levels → new.size ≡ st.size
    → Some new.free ≡ st.frees f → Holds kind new (f ∷ loose) t fs
take-free kind st new loose t f fs h bodies frees links root levels size free = record {
  built = record {
    root = h.built.root ∙ sym root;
    stands = same_shape st.bodies new.bodies t (λ x i. bodies x) h.built.stands;
    deep = subst (λ m. IsDeep m t) (sym levels) h.built.deep;
    chain = subst (λ m. FreeFrom new.frees m fs) (sym head) (same-free st.frees new.frees (head_or 0 fs) fs (λ x i. frees x) h.built.chain.2);
    once = λ x. omega (arith, h.built.once x, same_held x new.size st.size size);
  };
  ascends = h.ascends;
  linked = same-links st.links new.links 0 (leaves_of t) 0 (λ x i. links x) h.linked;
}
  where
    both : Some new.free ≡ Some (head_or 0 fs)
    both = free ∙ h.built.chain.1

    head : new.free ≡ head_or 0 fs
    head = cc

-- a page is appended
pub take-new : (kind : KeyKind) → (st new : State) (loose : List ℕ) (t : Shape) (fs : List ℕ) → Holds kind st loose t fs
    → ((x : ℕ) → x ≢ st.size → new.bodies x ≡ st.bodies x) → ((x : ℕ) → x ≢ st.size → new.frees x ≡ st.frees x) → ((x : ℕ) → x ≢ st.size → new.links x ≡ st.links x) → new.root ≡ st.root → new.levels ≡ st.levels → new.free ≡ st.free → new.size ≡ st.size + 1024 → st.size % 1024 ≡ 0
    → Holds kind new (st.size ∷ loose) t fs
take-new kind st new loose t fs h bodies frees links root levels free size even = record {
  built = record {
    root = h.built.root ∙ sym root;
    stands = same_shape st.bodies new.bodies t (λ x i. bodies x (off x (omega (arith, i)))) h.built.stands;
    deep = subst (λ m. IsDeep m t) (sym levels) h.built.deep;
    chain = subst (λ m. FreeFrom new.frees m fs) (sym free) (same-free st.frees new.frees st.free fs (λ x i. frees x (off x (omega (arith, i)))) h.built.chain);
    once = λ x. omega (arith, h.built.once x, same_held x new.size (st.size + 1024) size, held_more st.size x even);
  };
  ascends = h.ascends;
  linked = same-links st.links new.links 0 (leaves_of t) 0 (λ x i. links x (off x (omega (arith, i, times-leaves x t)))) h.linked;
}
  where
    off : (x : ℕ) → 1 ≤ times x (met_by t) + times x fs → x ≢ st.size
    off x i = λ e. let m : 1 ≤ times st.size (met_by t) + times st.size fs = subst (λ w. 1 ≤ times w (met_by t) + times w fs) e i in omega (arith, m, h.built.once st.size, held_end st.size)

-- a page in hand becomes the root above the old one, with no keys
pub grow-root : (kind : KeyKind) → (st new : State) (q : ℕ) (loose : List ℕ) (t : Shape) (fs : List ℕ) → Holds kind st (q ∷ loose) t fs
    → ((x : ℕ) → x ≢ q → new.bodies x ≡ st.bodies x) → ((x : ℕ) → x ≢ q → new.frees x ≡ st.frees x) → ((x : ℕ) → x ≢ q → new.links x ≡ st.links x) → new.root ≡ q → new.levels ≡ suc st.levels → new.free ≡ st.free → new.size ≡ st.size
    → new.bodies q ≡ Some (inner_body [] st.root) → Holds kind new loose (node_shape q (last_shape t)) fs
grow-root kind st new q loose t fs h bodies frees links root levels free size body = record {
  built = record {
    root = sym root;
    stands = (body ∙ ap (λ p. Some (inner_body [] p)) (sym h.built.root), same_shape st.bodies new.bodies t (λ x i. bodies x (off x (omega (arith, i)))) h.built.stands);
    deep = subst (λ m. IsDeep m (node_shape q (last_shape t))) (sym levels) h.built.deep;
    chain = subst (λ m. FreeFrom new.frees m fs) (sym free) (same-free st.frees new.frees st.free fs (λ x i. frees x (off x (omega (arith, i)))) h.built.chain);
    once = λ x. omega (arith, h.built.once x, same_held x new.size st.size size);
  };
  ascends = h.ascends;
  linked = same-links st.links new.links 0 (leaves_of t) 0 (λ x i. links x (off x (omega (arith, i, times-leaves x t)))) h.linked;
}
  where
    off : (x : ℕ) → 1 ≤ times x (met_by t) + times x fs → x ≢ q
    off x i = λ e. let m : 1 ≤ times q (met_by t) + times q fs = subst (λ w. 1 ≤ times w (met_by t) + times w fs) e i in omega (arith, m, met-once st (q ∷ loose) t fs h.built q, self q loose)
