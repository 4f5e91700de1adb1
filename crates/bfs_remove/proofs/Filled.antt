-- Leaves without rows.
use Rattle.std.proofs.Common.{◌≡◌, ◌≤◌, ◌⊎◌, inl, inr, ℕ, zero, suc, List, ◌++◌, length, Bool, true, false, cond, refl, ap, sym, ◌∙◌, subst, arith, length-append}
use Rattle.bfs_base.specs.declared.kind.KeyKind.{KeyKind}
use Rattle.bfs_node.specs.Page.{Row}
use Rattle.bfs_pages.specs.Order.{Key, at_most}
use Rattle.bfs_pages.specs.Shapes.{Shape, Shapes, leaf_shape, node_shape, last_shape, more_shapes, leaves_of, leaves_all, IsDeep}
use Rattle.bfs_pages.specs.Ways.{child_for, joined, spliced, under, instead, leaves_before_way, leaves_behind_way}
use Rattle.bfs_pages.proofs.Way.{leaves-under, leaves-instead}
use Rattle.bfs_remove.specs.Cuts.{dropped, HasMore, IsLine, HasNoEmpty, HaveNoEmpty, IsFilled}

joined-filled : (ss : Shapes) (key : Key) (ts : Shapes) → HaveNoEmpty ss → HaveNoEmpty ts → HaveNoEmpty (joined ss key ts)
joined-filled (last_shape t) key ts a b = (a, b)
joined-filled (more_shapes t k us) key ts a b = (a.0, joined-filled us key ts a.1 b)

spliced-filled : (kind : KeyKind) (ts : Shapes) (k : Key) (s : Shape) → HaveNoEmpty ts → HasNoEmpty s → HaveNoEmpty (spliced kind ts k (last_shape s))
spliced-filled kind (last_shape t) k s a b = b
spliced-filled kind (more_shapes t key ts) k s a b = by_test (at_most kind k key) (spliced-filled kind ts k s a.1 b)
  where
    by_test : (c : Bool) → HaveNoEmpty (spliced kind ts k (last_shape s)) → HaveNoEmpty (cond c (more_shapes s key ts) (more_shapes t key (spliced kind ts k (last_shape s))))
    by_test true ih = (b, a.1)
    by_test false ih = (a.0, ih)

child-filled : (kind : KeyKind) (ts : Shapes) (k : Key) → HaveNoEmpty ts → HasNoEmpty (child_for kind ts k)
child-filled kind (last_shape t) k a = a
child-filled kind (more_shapes t key ts) k a = by_test (at_most kind k key) (child-filled kind ts k a.1)
  where
    by_test : (c : Bool) → HasNoEmpty (child_for kind ts k) → HasNoEmpty (cond c t (child_for kind ts k))
    by_test true ih = a.0
    by_test false ih = ih

under-filled : (kind : KeyKind) (d : ℕ) (t : Shape) (k : Key) → HasNoEmpty t → HasNoEmpty (under kind d t k)
under-filled kind zero t k a = a
under-filled kind (suc d) (leaf_shape at rows) k a = a
under-filled kind (suc d) (node_shape at below) k a = under-filled kind d (child_for kind below k) k (child-filled kind below k a)

instead-filled : (kind : KeyKind) (d : ℕ) (t : Shape) (k : Key) (s : Shape) → HasNoEmpty t → HasNoEmpty s → HasNoEmpty (instead kind d t k s)
instead-filled kind zero t k s a b = b
instead-filled kind (suc d) (leaf_shape at rows) k s a b = b
instead-filled kind (suc d) (node_shape at below) k s a b =
    spliced-filled kind below k (instead kind d (child_for kind below k) k s) a (instead-filled kind d (child_for kind below k) k s (child-filled kind below k a) b)

dropped-filled : (kind : KeyKind) (ts : Shapes) (k : Key) → HaveNoEmpty ts → HaveNoEmpty (dropped kind ts k)
dropped-filled kind (last_shape t) k a = a
dropped-filled kind (more_shapes t key (last_shape u)) k a = by_test (at_most kind k key)
  where
    by_test : (c : Bool) → HaveNoEmpty (cond c (last_shape u) (last_shape t))
    by_test true = a.1
    by_test false = a.0
dropped-filled kind (more_shapes t key (more_shapes u b us)) k a = by_test (at_most kind k key) (dropped-filled kind (more_shapes u b us) k a.1)
  where
    by_test : (c : Bool) → HaveNoEmpty (dropped kind (more_shapes u b us) k) → HaveNoEmpty (cond c (more_shapes u b us) (more_shapes t key (dropped kind (more_shapes u b us) k)))
    by_test true ih = a.1
    by_test false ih = (a.0, ih)

mutual
  some-leaf : (t : Shape) → 1 ≤ length (leaves_of t)
  some-leaf (leaf_shape at rows) = omega arith
  some-leaf (node_shape at below) = some-leaves below

  some-leaves : (ts : Shapes) → 1 ≤ length (leaves_all ts)
  some-leaves (last_shape t) = some-leaf t
  some-leaves (more_shapes t key ts) = omega (arith, some-leaf t, length-append (leaves_of t) (leaves_all ts))

two-leaves : (ts : Shapes) → HasMore ts → 2 ≤ length (leaves_all ts)
two-leaves (last_shape t) h = absurd h
two-leaves (more_shapes t key ts) h = omega (arith, some-leaf t, some-leaves ts, length-append (leaves_of t) (leaves_all ts))

under-leaves : (kind : KeyKind) (d : ℕ) (t : Shape) (k : Key) → length (leaves_of (under kind d t k)) ≤ length (leaves_of t)
under-leaves kind d t k =
    let e : length (leaves_of t) ≡ length (leaves_before_way kind d t k ++ (leaves_of (under kind d t k) ++ leaves_behind_way kind d t k)) = ap length (leaves-under kind d t k) in
    omega (arith, e, length-append (leaves_before_way kind d t k) (leaves_of (under kind d t k) ++ leaves_behind_way kind d t k), length-append (leaves_of (under kind d t k)) (leaves_behind_way kind d t k))

-- a child less
pub drop-filled : (kind : KeyKind) (d : ℕ) (t : Shape) (k : Key) (at : ℕ) (below : Shapes) → under kind d t k ≡ node_shape at below → HasMore below → IsFilled t → IsFilled (instead kind d t k (node_shape at (dropped kind below k)))
drop-filled kind d t k at below is more (inl f) = inl (instead-filled kind d t k (node_shape at (dropped kind below k)) f (dropped-filled kind below k (subst (λ u. HasNoEmpty u) is (under-filled kind d t k f))))
drop-filled kind d t k at below is more (inr one) =
    let m : length (leaves_of (node_shape at below)) ≤ length (leaves_of t) = subst (λ u. length (leaves_of u) ≤ length (leaves_of t)) is (under-leaves kind d t k) in
    absurd (no (omega (arith, m, one, two-leaves below more)))
  where
    no : 2 ≤ 1 → ⊥
    no e = omega (arith, e)

-- one leaf for another
same-leaves : (kind : KeyKind) (d : ℕ) (t : Shape) (k : Key) (at : ℕ) (rows less : List Row) → under kind d t k ≡ leaf_shape at rows → leaves_of (instead kind d t k (leaf_shape at less)) ≡ leaves_of t
same-leaves kind d t k at rows less is =
    leaves-instead kind d t k (leaf_shape at less) ∙ sym (leaves-under kind d t k ∙ ap (λ u. leaves_before_way kind d t k ++ (leaves_of u ++ leaves_behind_way kind d t k)) is)

pub line-leaf : (n : ℕ) (t : Shape) → IsLine n t → IsDeep n t → length (leaves_of t) ≡ 1
line-leaf zero (leaf_shape at rows) l d = refl
line-leaf zero (node_shape at below) l d = absurd d
line-leaf (suc n) (leaf_shape at rows) l d = absurd l
line-leaf (suc n) (node_shape at (last_shape t)) l d = line-leaf n t l d
line-leaf (suc n) (node_shape at (more_shapes t key ts)) l d = absurd l

pub cut-filled : (kind : KeyKind) (d : ℕ) (t : Shape) (k : Key) (at : ℕ) (rows less : List Row) → under kind d t k ≡ leaf_shape at rows → (length (leaves_of t) ≡ 1) ⊎ (1 ≤ length less) → IsFilled t → IsFilled (instead kind d t k (leaf_shape at less))
cut-filled kind d t k at rows less is (inl one) f = inr (ap length (same-leaves kind d t k at rows less is) ∙ one)
cut-filled kind d t k at rows less is (inr some) (inl f) = inl (instead-filled kind d t k (leaf_shape at less) f some)
cut-filled kind d t k at rows less is (inr some) (inr one) = inr (ap length (same-leaves kind d t k at rows less is) ∙ one)
