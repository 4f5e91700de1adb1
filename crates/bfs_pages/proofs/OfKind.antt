-- Pages of a tree are of their kinds.
use Rattle.std.proofs.Common.{◌≡◌, ◌≤◌, ◌<◌, ◌+◌, ℕ, ℤ, pos, negsuc, zero, suc, List, [], ◌∷◌, ◌++◌, length, Option, Some, None, IfSome, Bool, true, false, cond, ◌==◌, refl, ap, ap₂, sym, ◌∙◌, subst, arith, inl, inr, nat_le, ◌≢◌}
use Rattle.std.specs.List.{AllByRecursion}
use Rattle.bfs_node.specs.Lists.{times}
use Rattle.bfs_node.specs.BaseKeyKind.{KeyKind}
use Rattle.bfs_node.specs.Page.{Row, row_in, value_of, rows_of, links_of}
use Rattle.bfs_pages.specs.Order.{Key, comes_before, at_most}
use Rattle.bfs_pages.specs.Maps.{assoc}
use Rattle.bfs_pages.specs.Shapes.{Body, leaf_body, inner_body, Shape, Shapes, leaf_shape, node_shape, last_shape, more_shapes, place, tree_rows, met_by, met_by_all, leaves_of, children_of, last_child, IsDeep, Stands, a_row, a_bound, entries_in, entries_of, entries_all, Precedes, AscendAll, StandAll, leaves_all}
use Rattle.bfs_pages.specs.Trees.{State, head_or, Linked, held, Built, Holds, page_in, place_of, is_page, body_in, body_of, children_in, state_of}
use Rattle.bfs_pages.specs.Ways.{pick_of, under, before_way, behind_way, leaves_before_way, leaves_behind_way, KeysAscend, KeysRise}
use Rattle.bfs_pages.specs.Answers.{IsChild, IsLink, IsLeafPage, IsInteriorPage, IsLeafFor}
use Rattle.bfs_pages.proofs.Placed.{held_most, held_place}
use Rattle.bfs_pages.proofs.Splice.{all-right, ascends-left, ascends-right, times-append, self}
use Rattle.bfs_pages.proofs.Way.{entries-under, leaves-under, times-under, place-met}
use Rattle.bfs_pages.proofs.Exchange.{stands-under}
use Rattle.bfs_pages.proofs.Leaves.{times-leaves}
use Rattle.bfs_pages.proofs.Descent.{deep-under, leaf-of, node-at, pick-child}
use Rattle.bfs_pages.proofs.Looked.{leaf-value}

pub if_some : {A : Type 0} (P : A → Type 0) (o : Option A) (b : A) → IfSome o P → o ≡ Some b → P b
if_some P o b h e = subst (λ z. IfSome z P) e h

-- a page that is counted beside the header is a page other than the header
pub one-place : (size x : ℕ) → times x (0 ∷ []) + 1 ≤ held size x → IsChild size x
one-place size x h = (some, held_place size x (omega (arith, h, held_most size x)))
  where
    eq_no : (a : ℕ) → (a == 0) ≡ false → 1 ≤ a
    eq_no a e = grind (arith, e)

    eq_yes : (a b : ℕ) → (a == b) ≡ true → a ≡ b
    eq_yes a b e = grind (arith, e)

    by_test : (c : Bool) → (x == 0) ≡ c → 1 ≤ x
    by_test true e =
        let z : x ≡ 0 = eq_yes x 0 e in
        let m : 1 ≤ times x (0 ∷ []) = subst (λ w. 1 ≤ times w (0 ∷ [])) (sym z) (self 0 []) in
        absurd (omega (arith, h, held_most size x, m))
    by_test false e = eq_no x e

    some : 1 ≤ x
    some = by_test (x == 0) refl

-- the pages of a tree are pages other than the header
pub met-child : (st : State) (reached : List ℕ) (t : Shape) (fs : List ℕ) (x : ℕ) → Built st reached t fs → 1 ≤ times x (met_by t) → IsChild st.size x
met-child st reached t fs x h i = one-place st.size x (omega (arith, h.once x, i))

-- what a page says, by its fields
pub inner-fields : (kind : KeyKind) (page : List ℕ) (keys : List (Key × ℕ)) (last : ℕ) → body_in kind page ≡ Some (inner_body keys last)
    → (is_page kind page ≡ true) × (children_in (rows_of page) ≡ keys) × (place_of (links_of page).overflow ≡ last)
inner-fields kind page keys last e = by_test (is_page kind page) refl (links_of page).overflow refl e
  where
    none_some : (b : Body) → None ≡ Some b → ⊥
    none_some b e = cc

    leaf_inner : (rows : List Row) → Some (leaf_body rows) ≡ Some (inner_body keys last) → ⊥
    leaf_inner rows e = cc

    same_keys_is : (a : List (Key × ℕ)) (x : ℕ) → Some (inner_body a x) ≡ Some (inner_body keys last) → (a ≡ keys) × (x ≡ last)
    same_keys_is a x e = (cc, cc)

    by_test : (c : Bool) → is_page kind page ≡ c → (z : ℤ) → (links_of page).overflow ≡ z → cond c (Some (body_of z (rows_of page))) None ≡ Some (inner_body keys last)
        → (is_page kind page ≡ true) × (children_in (rows_of page) ≡ keys) × (place_of z ≡ last)
    by_test true i (negsuc zero) o e = absurd (leaf_inner (rows_of page) e)
    by_test true i (negsuc (suc n)) o e = let s = same_keys_is (children_in (rows_of page)) (place_of (negsuc (suc n))) e in (i, s.0, s.1)
    by_test true i (pos n) o e = let s = same_keys_is (children_in (rows_of page)) (place_of (pos n)) e in (i, s.0, s.1)
    by_test false i z o e = absurd (none_some (inner_body keys last) e)

pub leaf-fields : (kind : KeyKind) (page : List ℕ) (rows : List Row) → body_in kind page ≡ Some (leaf_body rows)
    → (is_page kind page ≡ true) × (rows_of page ≡ rows) × ((links_of page).overflow ≡ negsuc 0)
leaf-fields kind page rows e = by_test (is_page kind page) refl (links_of page).overflow refl e
  where
    none_some : (b : Body) → None ≡ Some b → ⊥
    none_some b e = cc

    inner_leaf : (a : List (Key × ℕ)) (x : ℕ) → Some (inner_body a x) ≡ Some (leaf_body rows) → ⊥
    inner_leaf a x e = cc

    same_rows : (a : List Row) → Some (leaf_body a) ≡ Some (leaf_body rows) → a ≡ rows
    same_rows a e = cc

    by_test : (c : Bool) → is_page kind page ≡ c → (z : ℤ) → (links_of page).overflow ≡ z → cond c (Some (body_of z (rows_of page))) None ≡ Some (leaf_body rows)
        → (is_page kind page ≡ true) × (rows_of page ≡ rows) × (z ≡ negsuc 0)
    by_test true i (negsuc zero) o e = (i, same_rows (rows_of page) e, refl)
    by_test true i (negsuc (suc n)) o e = absurd (inner_leaf (children_in (rows_of page)) (place_of (negsuc (suc n))) e)
    by_test true i (pos n) o e = absurd (inner_leaf (children_in (rows_of page)) (place_of (pos n)) e)
    by_test false i z o e = absurd (none_some (leaf_body rows) e)

-- the children of an interior page
children-met : (size : ℕ) (ts : Shapes) → ((x : ℕ) → 1 ≤ times x (met_by_all ts) → IsChild size x) → AllByRecursion (λ c. IsChild size c.1) (children_of ts) × IsChild size (last_child ts)
children-met size (last_shape t) h = (tt, h (place t) (place-met t))
children-met size (more_shapes t key ts) h =
    let i = children-met size ts (λ x m. h x (omega (arith, m, times-append x (met_by t) (met_by_all ts)))) in
    ((h (place t) (omega (arith, place-met t, times-append (place t) (met_by t) (met_by_all ts))), i.0), i.1)

children-at : (size : ℕ) (rows : List Row) → AllByRecursion (λ c. IsChild size c.1) (children_in rows) → (i : ℕ) → i < length rows → IsChild size (place_of (value_of (row_in rows i)))
children-at size [] a i h = absurd (omega (arith, h))
children-at size (r ∷ rs) a zero h = a.0
children-at size (r ∷ rs) a (suc i) h = children-at size rs a.1 i (omega (arith, h))

-- the keys of a page ascend
bounds-beyond : (kind : KeyKind) (b : Key) (ts : Shapes) → AllByRecursion (λ e. Precedes kind (a_bound b) e) (entries_all ts) → AllByRecursion (λ c. at_most kind b c.0 ≡ true) (children_of ts)
bounds-beyond kind b (last_shape t) a = tt
bounds-beyond kind b (more_shapes t key ts) a =
    let r = all-right (λ e. Precedes kind (a_bound b) e) (entries_of t) (a_bound key ∷ entries_all ts) a in
    (r.0, bounds-beyond kind b ts r.1)

pub bounds-rise : (kind : KeyKind) (ts : Shapes) → AscendAll kind (entries_all ts) → KeysRise kind (children_of ts)
bounds-rise kind (last_shape t) a = tt
bounds-rise kind (more_shapes t key ts) a =
    let r = ascends-right kind (entries_of t) (a_bound key ∷ entries_all ts) a in
    (bounds-beyond kind key ts r.0, bounds-rise kind ts r.1)

rows-beyond : (kind : KeyKind) (k : Key) (v : ℤ) (rows : List Row) → AllByRecursion (λ e. Precedes kind (a_row k v) e) (entries_in rows) → AllByRecursion (λ s. comes_before kind k s.0 ≡ true) rows
rows-beyond kind k v [] a = tt
rows-beyond kind k v (r ∷ rs) a = (a.0, rows-beyond kind k v rs a.1)

pub rows-ascend : (kind : KeyKind) (rows : List Row) → AscendAll kind (entries_in rows) → KeysAscend kind rows
rows-ascend kind [] a = tt
rows-ascend kind (r ∷ rs) a = (rows-beyond kind r.0 r.1 rs a.0, rows-ascend kind rs a.1)

children-beyond : (kind : KeyKind) (k : Key) (rows : List Row) → AllByRecursion (λ s. at_most kind k s.0 ≡ true) (children_in rows) → AllByRecursion (λ s. at_most kind k s.0 ≡ true) rows
children-beyond kind k [] a = tt
children-beyond kind k (r ∷ rs) a = (a.0, children-beyond kind k rs a.1)

pub children-rise : (kind : KeyKind) (rows : List Row) → KeysRise kind (children_in rows) → KeysRise kind rows
children-rise kind [] a = tt
children-rise kind (r ∷ rs) a = (children-beyond kind r.0 rs a.0, children-rise kind rs a.1)

pub under-ascends : (kind : KeyKind) (d : ℕ) (t : Shape) (k : Key) → AscendAll kind (entries_of t) → AscendAll kind (entries_of (under kind d t k))
under-ascends kind d t k a =
    ascends-left kind (entries_of (under kind d t k)) (behind_way kind d t k)
    (ascends-right kind (before_way kind d t k) (entries_of (under kind d t k) ++ behind_way kind d t k) (subst (λ l. AscendAll kind l) (entries-under kind d t k) a))

-- the neighbours of leaves
pub linked-kinds : (P : ℕ → Type 0) (links : ℕ → ℕ × ℕ) (prev : ℕ) (xs : List ℕ) (next : ℕ) → P prev → P next → ((x : ℕ) → 1 ≤ times x xs → P x) → Linked links prev xs next
    → (x : ℕ) → 1 ≤ times x xs → P (links x).0 × P (links x).1
linked-kinds P links prev [] next p q h l x i = absurd (omega (arith, i))
linked-kinds P links prev (y ∷ ys) next p q h l x i = by_test (x == y) refl (λ m. linked-kinds P links y ys next (h y (self y ys)) q (λ z n. h z (omega (arith, n))) l.1 x m)
  where
    eq_yes : (a b : ℕ) → (a == b) ≡ true → a ≡ b
    eq_yes a b e = grind (arith, e)

    off : (x == y) ≡ false → 1 ≤ times x ys
    off e = grind (arith, e, i)

    head : (zs : List ℕ) → ((z : ℕ) → 1 ≤ times z zs → P z) → P (head_or next zs)
    head [] f = q
    head (z ∷ zs) f = f z (self z zs)

    by_test : (c : Bool) → (x == y) ≡ c → (1 ≤ times x ys → P (links x).0 × P (links x).1) → P (links x).0 × P (links x).1
    by_test true e ih =
        let s : links x ≡ (y0, n0) = ap links (eq_yes x y e) ∙ l.0 in
        (subst (λ w. P w.0) (sym s) p, subst (λ w. P w.1) (sym s) (head ys (λ z n. h z (omega (arith, n)))))
      where
        y0 : ℕ
        y0 = prev

        n0 : ℕ
        n0 = head_or next ys
    by_test false e ih = ih (off e)

pub under-met : (kind : KeyKind) (d : ℕ) (t : Shape) (k : Key) (x : ℕ) → place (under kind d t k) ≡ x → 1 ≤ times x (met_by t)
under-met kind d t k x e =
    let m : 1 ≤ times x (met_by (under kind d t k)) = subst (λ z. 1 ≤ times z (met_by (under kind d t k))) e (place-met (under kind d t k)) in
    omega (arith, m, times-under kind x d t k)

-- the page on a key's way is an interior page, whose keys ascend, and from which the way goes on
pub inner-page : (kind : KeyKind) (b reached : List ℕ) (t : Shape) (fs : List ℕ) (d : ℕ) (k : Key) (at : ℕ) → Holds kind (state_of kind b) reached t fs → suc d ≤ (state_of kind b).levels → place (under kind d t k) ≡ at
    → IsInteriorPage kind (length b) (page_in b at) × KeysRise kind (rows_of (page_in b at))
    × ((c : ℕ) → pick_of kind (children_in (rows_of (page_in b at))) (place_of (links_of (page_in b at)).overflow) k ≡ c → place (under kind (suc d) t k) ≡ c)
inner-page kind b reached t fs d k at h l e =
    let n = node-at kind (state_of kind b) reached t fs d k at h l e in
    let f = inner-fields kind (page_in b at) (children_of n.0) (last_child n.0) n.2.0 in
    let m = children-met (length b) n.0 (λ x i. met-child (state_of kind b) reached t fs x h.built (below n.0 n.1 x i)) in (
      record {
        good = f.0;
        last = subst (λ z. IsChild (length b) z) (sym f.2) m.1;
        children = children-at (length b) (rows_of (page_in b at)) (subst (λ z. AllByRecursion (λ c. IsChild (length b) c.1) z) (sym f.1) m.0);
      },
      children-rise kind (rows_of (page_in b at)) (subst (λ z. KeysRise kind z) (sym f.1) (bounds-rise kind n.0 (subst (λ u. AscendAll kind (entries_of u)) n.1 (under-ascends kind d t k h.ascends)))),
      λ c p. ap place n.3 ∙ pick-child kind n.0 k ∙ ap₂ (λ x y. pick_of kind x y k) (sym f.1) (sym f.2) ∙ p,
    )
  where
    below : (ts : Shapes) → under kind d t k ≡ node_shape at ts → (x : ℕ) → 1 ≤ times x (met_by_all ts) → 1 ≤ times x (met_by t)
    below ts is x i =
        let m : times x (met_by (node_shape at ts)) ≤ times x (met_by t) = subst (λ u. times x (met_by u) ≤ times x (met_by t)) is (times-under kind x d t k) in
        omega (arith, m, i)

pub leaf-met : (kind : KeyKind) (d : ℕ) (t : Shape) (k : Key) (at : ℕ) (rows : List Row) → under kind d t k ≡ leaf_shape at rows → 1 ≤ times at (leaves_of t)
leaf-met kind d t k at rows is =
    let e = leaves-under kind d t k ∙ ap (λ u. leaves_before_way kind d t k ++ (leaves_of u ++ leaves_behind_way kind d t k)) is in
    subst (λ l. 1 ≤ times at l) (sym e) (omega (arith, times-append at (leaves_before_way kind d t k) (at ∷ leaves_behind_way kind d t k), self at (leaves_behind_way kind d t k)))

pub leaf-at : (kind : KeyKind) (st : State) (reached : List ℕ) (t : Shape) (fs : List ℕ) (d : ℕ) (k : Key) (at : ℕ) → Holds kind st reached t fs → d ≡ st.levels → place (under kind d t k) ≡ at
    → (rows : List Row) × (under kind d t k ≡ leaf_shape at rows) × (st.bodies at ≡ Some (leaf_body rows))
leaf-at kind st reached t fs d k at h l e =
    let u = deep-under kind st.levels d t k h.built.deep (omega (arith, l)) in
    let f = leaf-of (under kind d t k) at (subst (λ n. IsDeep n (under kind d t k)) (omega (arith, u.1, l)) u.2) e in
    (f.0, f.1, subst (λ z. Stands st.bodies z) f.1 (stands-under kind st.bodies d t k h.built.stands))

-- the last page on a key's way is a leaf, whose keys ascend, and which has the key's value
pub leaf-page : (kind : KeyKind) (b reached : List ℕ) (t : Shape) (fs : List ℕ) (d : ℕ) (k : Key) (at : ℕ) → Holds kind (state_of kind b) reached t fs → d ≡ (state_of kind b).levels → place (under kind d t k) ≡ at
    → IsLeafPage kind (length b) (page_in b at) × KeysAscend kind (rows_of (page_in b at))
    × (under kind d t k ≡ leaf_shape at (rows_of (page_in b at))) × (assoc kind (tree_rows t) k ≡ assoc kind (rows_of (page_in b at)) k) × (1 ≤ times at (leaves_of t))
leaf-page kind b reached t fs d k at h l e =
    let n = leaf-at kind (state_of kind b) reached t fs d k at h l e in
    let f = leaf-fields kind (page_in b at) n.0 n.2 in
    let is : under kind d t k ≡ leaf_shape at (rows_of (page_in b at)) = n.1 ∙ ap (λ z. leaf_shape at z) (sym f.1) in
    let met : 1 ≤ times at (leaves_of t) = leaf-met kind d t k at n.0 n.1 in
    let links = linked-kinds (λ x. IsLink (length b) x) (state_of kind b).links 0 (leaves_of t) 0 (inl refl) (inl refl)
    (λ x i. inr (met-child (state_of kind b) reached t fs x h.built (omega (arith, i, times-leaves x t)))) h.linked at met in (
      record { good = f.0; overflow = f.2; left = links.0; right = links.1 },
      rows-ascend kind (rows_of (page_in b at)) (subst (λ u. AscendAll kind (entries_of u)) is (under-ascends kind d t k h.ascends)),
      is,
      leaf-value kind (state_of kind b) reached t fs d k at (rows_of (page_in b at)) h is,
      met,
    )

-- the leaf that was read has the key's value
pub found-in-leaf : (kind : KeyKind) (b reached : List ℕ) (t : Shape) (fs : List ℕ) (k : Key) (at : ℕ) (page : List ℕ) → Holds kind (state_of kind b) reached t fs → IsLeafFor kind b t k at page
    → KeysAscend kind (rows_of page) × (assoc kind (tree_rows t) k ≡ assoc kind (rows_of page) k) × (1 ≤ times at (leaves_of t))
found-in-leaf kind b reached t fs k at page h l = (
  rows-ascend kind (rows_of page) (subst (λ u. AscendAll kind (entries_of u)) l.1 (under-ascends kind (state_of kind b).levels t k h.ascends)),
  leaf-value kind (state_of kind b) reached t fs (state_of kind b).levels k at (rows_of page) h l.1,
  leaf-met kind (state_of kind b).levels t k at (rows_of page) l.1,
)

le_yes : (a b : ℕ) → nat_le a b ≡ true → a ≤ b
le_yes a b e = grind (arith, e)

le_no : (a b : ℕ) → nat_le a b ≡ false → b < a
le_no a b e = grind (arith, e)

only : (x at : ℕ) → 1 ≤ times x (at ∷ []) → x ≡ at
only x at i = grind (arith, i)

-- a leaf's right neighbour is a leaf
pub next-in : (links : ℕ → ℕ × ℕ) (prev : ℕ) (xs : List ℕ) (x : ℕ) → Linked links prev xs 0 → 1 ≤ times x xs → (links x).1 ≢ 0 → 1 ≤ times (links x).1 xs
next-in links prev [] x l i n = absurd (omega (arith, i))
next-in links prev (y ∷ ys) x l i n = by_test (x == y) refl (λ m. next-in links y ys x l.1 m n)
  where
    eq_yes : (a b : ℕ) → (a == b) ≡ true → a ≡ b
    eq_yes a b e = grind (arith, e)

    off : (x == y) ≡ false → 1 ≤ times x ys
    off e = grind (arith, e, i)

    by_head : (zs : List ℕ) → (links x).1 ≡ head_or 0 zs → 1 ≤ times (links x).1 zs
    by_head [] e = absurd (n e)
    by_head (z ∷ zs) e = subst (λ w. 1 ≤ times w (z ∷ zs)) (sym e) (self z zs)

    by_test : (c : Bool) → (x == y) ≡ c → (1 ≤ times x ys → 1 ≤ times (links x).1 ys) → 1 ≤ times (links x).1 (y ∷ ys)
    by_test true e ih = let m = by_head ys (ap (λ z. (links z).1) (eq_yes x y e) ∙ ap (λ w. w.1) l.0) in omega (arith, m)
    by_test false e ih = let m = ih (off e) in omega (arith, m)

-- every leaf of a tree is a leaf page
mutual
  leaf-body : (bodies : ℕ → Option Body) (t : Shape) (x : ℕ) → Stands bodies t → 1 ≤ times x (leaves_of t) → (rows : List Row) × (bodies x ≡ Some (leaf_body rows))
  leaf-body bodies (leaf_shape at rows) x s i = (rows, ap bodies (only x at i) ∙ s)
  leaf-body bodies (node_shape at below) x s i = leaf-body_all bodies below x s.1 i

  leaf-body_all : (bodies : ℕ → Option Body) (ts : Shapes) (x : ℕ) → StandAll bodies ts → 1 ≤ times x (leaves_all ts) → (rows : List Row) × (bodies x ≡ Some (leaf_body rows))
  leaf-body_all bodies (last_shape t) x s i = leaf-body bodies t x s i
  leaf-body_all bodies (more_shapes t key ts) x s i = by_test (nat_le 1 (times x (leaves_of t))) refl (leaf-body bodies t x s.0) (leaf-body_all bodies ts x s.1)
    where
      by_test : (c : Bool) → nat_le 1 (times x (leaves_of t)) ≡ c → (1 ≤ times x (leaves_of t) → (rows : List Row) × (bodies x ≡ Some (leaf_body rows)))
          → (1 ≤ times x (leaves_all ts) → (rows : List Row) × (bodies x ≡ Some (leaf_body rows))) → (rows : List Row) × (bodies x ≡ Some (leaf_body rows))
      by_test true e f g = f (le_yes 1 (times x (leaves_of t)) e)
      by_test false e f g = g (let m = le_no 1 (times x (leaves_of t)) e in omega (arith, i, m, times-append x (leaves_of t) (leaves_all ts)))

pub leaf-any : (kind : KeyKind) (b reached : List ℕ) (t : Shape) (fs : List ℕ) (x : ℕ) → Holds kind (state_of kind b) reached t fs → 1 ≤ times x (leaves_of t) → IsLeafPage kind (length b) (page_in b x)
leaf-any kind b reached t fs x h i =
    let n = leaf-body (state_of kind b).bodies t x h.built.stands i in
    let f = leaf-fields kind (page_in b x) n.0 n.1 in
    let links = linked-kinds (λ x. IsLink (length b) x) (state_of kind b).links 0 (leaves_of t) 0 (inl refl) (inl refl)
    (λ x i. inr (met-child (state_of kind b) reached t fs x h.built (omega (arith, i, times-leaves x t)))) h.linked x i in
    record { good = f.0; overflow = f.2; left = links.0; right = links.1 }
