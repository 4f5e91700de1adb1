-- The page on the way of a key, and the next one.
use Rattle.std.proofs.Common.{◌≡◌, ◌≤◌, ◌+◌, ℕ, zero, suc, List, Some, Bool, true, false, cond, refl, ap, sym, ◌∙◌, subst, arith}
use Rattle.bfs_node.specs.BaseKeyKind.{KeyKind}
use Rattle.bfs_node.specs.Page.{Row}
use Rattle.bfs_pages.specs.Order.{Key, at_most}
use Rattle.bfs_pages.specs.Shapes.{Shape, Shapes, leaf_shape, node_shape, last_shape, more_shapes, place, children_of, last_child, IsDeep, Stands}
use Rattle.bfs_pages.specs.Changes.{child_in}
use Rattle.bfs_pages.specs.Trees.{State, Holds}
use Rattle.bfs_pages.specs.Ways.{child_for, pick_of, under}
use Rattle.bfs_pages.proofs.Way.{child-deep}
use Rattle.bfs_pages.proofs.Exchange.{stands-under}

pub deep-under : (kind : KeyKind) → (m d : ℕ) (t : Shape) (k : Key) → IsDeep m t → d ≤ m → (n : ℕ) × (n + d ≡ m) × IsDeep n (under kind d t k)
deep-under kind m zero t k deep h = (m, omega arith, deep)
deep-under kind m (suc d) (leaf_shape at rows) k deep h = let z : m ≡ 0 = deep in absurd (omega (arith, z, h))
deep-under kind zero (suc d) (node_shape at below) k deep h = absurd deep
deep-under kind (suc m) (suc d) (node_shape at below) k deep h =
    let i = deep-under kind m d (child_for kind below k) k (child-deep kind m below k deep) (omega (arith, h)) in
    (i.0, omega (arith, i.1), i.2)

node-of : (n : ℕ) (u : Shape) (at : ℕ) → 1 ≤ n → IsDeep n u → place u ≡ at → (below : Shapes) × (u ≡ node_shape at below)
node-of n (leaf_shape p rows) at h deep e = let z : n ≡ 0 = deep in absurd (omega (arith, z, h))
node-of n (node_shape p below) at h deep e = (below, ap (λ z. node_shape z below) e)

pub leaf-of : (u : Shape) (at : ℕ) → IsDeep 0 u → place u ≡ at → (rows : List Row) × (u ≡ leaf_shape at rows)
leaf-of (leaf_shape p rows) at deep e = (rows, ap (λ z. leaf_shape z rows) e)
leaf-of (node_shape p below) at deep e = absurd deep

pub under-suc : (kind : KeyKind) → (d : ℕ) (t : Shape) (k : Key) (at : ℕ) (below : Shapes) → under kind d t k ≡ node_shape at below → under kind (suc d) t k ≡ child_for kind below k
under-suc kind zero (leaf_shape p rows) k at below e = absurd (differ e)
  where
    differ : leaf_shape p rows ≡ node_shape at below → ⊥
    differ e = cc
under-suc kind zero (node_shape p own) k at below e = ap (λ z. child_for kind z k) same
  where
    same : own ≡ below
    same = cc
under-suc kind (suc d) (leaf_shape p rows) k at below e = absurd (differ e)
  where
    differ : leaf_shape p rows ≡ node_shape at below → ⊥
    differ e = cc
under-suc kind (suc d) (node_shape p own) k at below e = under-suc kind d (child_for kind own k) k at below e

pub pick-child : (kind : KeyKind) → (ts : Shapes) (k : Key) → place (child_for kind ts k) ≡ pick_of kind (children_of ts) (last_child ts) k
pick-child kind (last_shape t) k = refl
pick-child kind (more_shapes t key ts) k = by_test (at_most kind k key) (pick-child kind ts k)
  where
    by_test : (c : Bool) → place (child_for kind ts k) ≡ pick_of kind (children_of ts) (last_child ts) k → place (cond c t (child_for kind ts k)) ≡ cond c (place t) (pick_of kind (children_of ts) (last_child ts) k)
    by_test true ih = refl
    by_test false ih = ih

-- the page on the way is an interior page, and its child is next
pub node-at : (kind : KeyKind) → (st : State) (loose : List ℕ) (t : Shape) (fs : List ℕ) (d : ℕ) (k : Key) (at : ℕ) → Holds kind st loose t fs → suc d ≤ st.levels → place (under kind d t k) ≡ at
    → (below : Shapes) × (under kind d t k ≡ node_shape at below) × Stands st.bodies (node_shape at below) × (under kind (suc d) t k ≡ child_for kind below k)
node-at kind st loose t fs d k at h l e =
    let u = deep-under kind st.levels d t k h.built.deep (omega (arith, l)) in
    let n = node-of u.0 (under kind d t k) at (omega (arith, l, u.1)) u.2 e in
    (n.0, n.1, subst (λ z. Stands st.bodies z) n.1 (stands-under kind st.bodies d t k h.built.stands), under-suc kind d t k at n.0 n.1)

pub child-at : (kind : KeyKind) → (st : State) (loose : List ℕ) (t : Shape) (fs : List ℕ) (d : ℕ) (k : Key) (at c : ℕ) → Holds kind st loose t fs → suc d ≤ st.levels → place (under kind d t k) ≡ at → child_in kind (st.bodies at) k ≡ Some c → place (under kind (suc d) t k) ≡ c
child-at kind st loose t fs d k at c h l e is =
    let n = node-at kind st loose t fs d k at h l e in
    ap place n.3 ∙ pick-child kind n.0 k ∙ some_same (pick_of kind (children_of n.0) (last_child n.0) k) (sym (ap (λ p. child_in kind p k) n.2.0) ∙ is)
  where
    some_same : (x : ℕ) → Some x ≡ Some c → x ≡ c
    some_same x e = cc
