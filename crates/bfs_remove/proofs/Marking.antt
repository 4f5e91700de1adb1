-- The last page with a key on a key's way.
use Rattle.std.proofs.Common.{◌≡◌, ◌≤◌, ◌<◌, ◌+◌, ◌-◌, ℕ, zero, suc, List, [], ◌∷◌, length, Option, Some, None, refl, ap, sym, ◌∙◌, subst, arith}
use Rattle.bfs_base.specs.declared.kind.KeyKind.{KeyKind}
use Rattle.bfs_node.specs.Page.{Row, rows_of}
use Rattle.bfs_pages.specs.Order.{Key}
use Rattle.bfs_pages.specs.Shapes.{inner_body, Shape, Shapes, leaf_shape, node_shape, last_shape, more_shapes, place, children_of, last_child, IsDeep, tree_rows}
use Rattle.bfs_pages.specs.Trees.{state_of, page_in, children_in, Holds}
use Rattle.bfs_pages.specs.Ways.{child_for, under}
use Rattle.bfs_pages.proofs.Descent.{node-at}
use Rattle.bfs_pages.proofs.OfKind.{inner-fields}
use Rattle.bfs_remove.specs.Cuts.{IsLine, IsChain, HasMore, Marked}
use Rattle.bfs_remove.specs.declared.way.Branch.{Branch}

pub line-chain : (kind : KeyKind) (n : ℕ) (u : Shape) (leaf : ℕ) (k : Key) → IsLine n u → IsDeep n u → place (under kind n u k) ≡ leaf → IsChain u leaf
line-chain kind zero (leaf_shape p rows) leaf k l d e = e
line-chain kind zero (node_shape p below) leaf k l d e = absurd d
line-chain kind (suc n) (leaf_shape p rows) leaf k l d e = absurd l
line-chain kind (suc n) (node_shape p (last_shape t)) leaf k l d e = line-chain kind n t leaf k l d e
line-chain kind (suc n) (node_shape p (more_shapes t key ts)) leaf k l d e = absurd l

-- the rows of a line are those of its leaf
pub line-rows : (kind : KeyKind) (n : ℕ) (u : Shape) (k : Key) → IsLine n u → tree_rows (under kind n u k) ≡ tree_rows u
line-rows kind zero u k l = refl
line-rows kind (suc n) (leaf_shape p rows) k l = absurd l
line-rows kind (suc n) (node_shape p (last_shape t)) k l = line-rows kind n t k l
line-rows kind (suc n) (node_shape p (more_shapes t key ts)) k l = absurd l

line-more : (kind : KeyKind) (n : ℕ) (u : Shape) (k : Key) (at : ℕ) (w : Shape) → IsLine n u → under kind n u k ≡ node_shape at (last_shape w) → IsLine (suc n) u
line-more kind zero (leaf_shape p rows) k at w l e = absurd (differ e)
  where
    differ : leaf_shape p rows ≡ node_shape at (last_shape w) → ⊥
    differ e = cc
line-more kind zero (node_shape p (last_shape t)) k at w l e = tt
line-more kind zero (node_shape p (more_shapes t key ts)) k at w l e = absurd (differ e)
  where
    differ : node_shape p (more_shapes t key ts) ≡ node_shape at (last_shape w) → ⊥
    differ e = cc
line-more kind (suc n) (leaf_shape p rows) k at w l e = absurd l
line-more kind (suc n) (node_shape p (last_shape t)) k at w l e = line-more kind n t k at w l e
line-more kind (suc n) (node_shape p (more_shapes t key ts)) k at w l e = absurd l

pub under-both : (kind : KeyKind) (a n : ℕ) (t : Shape) (k : Key) (at : ℕ) (below : Shapes) → under kind a t k ≡ node_shape at below → under kind (suc (a + n)) t k ≡ under kind n (child_for kind below k) k
under-both kind zero n (leaf_shape p rows) k at below e = absurd (differ e)
  where
    differ : leaf_shape p rows ≡ node_shape at below → ⊥
    differ e = cc
under-both kind zero n (node_shape p own) k at below e = ap (λ m. under kind m (child_for kind own k) k) zero_left ∙ ap (λ z. under kind n (child_for kind z k) k) same
  where
    same : own ≡ below
    same = cc

    zero_left : 0 + n ≡ n
    zero_left = omega arith
under-both kind (suc a) n (leaf_shape p rows) k at below e = absurd (differ e)
  where
    differ : leaf_shape p rows ≡ node_shape at below → ⊥
    differ e = cc
under-both kind (suc a) n (node_shape p own) k at below e = ap (λ m. under kind m (child_for kind own k) k) step ∙ under-both kind a n (child_for kind own k) k at below e
  where
    step : suc a + n ≡ suc (a + n)
    step = omega arith

-- the same where the way isn't done: so many pages are left, the leaf among them
abbrev pub MarkedSo : KeyKind → ℕ → ℕ → Shape → Key → Option Branch → Type 0
MarkedSo kind d left t k None = IsLine d t
MarkedSo kind d left t k (Some branch) =
    (a : ℕ) × (n : ℕ) × (below : Shapes) × (d ≡ suc (a + n)) × (under kind a t k ≡ node_shape branch.page below) × HasMore below
    × (place (child_for kind below k) ≡ branch.child) × IsLine n (child_for kind below k) × (branch.below + 1 ≡ n + left)

length-children : (rows : List Row) → length (children_in rows) ≡ length rows
length-children [] = refl
length-children (r ∷ rs) = omega (arith, length-children rs)

has-more : (below : Shapes) → 1 ≤ length (children_of below) → HasMore below
has-more (last_shape t) h = absurd (omega (arith, h))
has-more (more_shapes t key ts) h = tt

-- the page on the way has as many keys as its shape
pub keys-there : (kind : KeyKind) (b : List ℕ) (at : ℕ) (below : Shapes) → (state_of kind b).bodies at ≡ Some (inner_body (children_of below) (last_child below)) → length (children_of below) ≡ length (rows_of (page_in b at))
keys-there kind b at below s =
    sym (ap length (inner-fields kind (page_in b at) (children_of below) (last_child below) s).1) ∙ length-children (rows_of (page_in b at))

pub mark-some : (kind : KeyKind) (b reached : List ℕ) (t : Shape) (fs : List ℕ) (d : ℕ) (k : Key) (at left child : ℕ) → Holds kind (state_of kind b) reached t fs → suc d ≤ (state_of kind b).levels → place (under kind d t k) ≡ at
    → 1 ≤ length (rows_of (page_in b at)) → place (under kind (suc d) t k) ≡ child → 1 < left → MarkedSo kind (suc d) (left - 1) t k (Some (record { page = at; child = child; below = left - 2 }))
mark-some kind b reached t fs d k at left child h l e some next more =
    let n = node-at kind (state_of kind b) reached t fs d k at h l e in
    (d, 0, n.0, omega arith, n.1, has-more n.0 (omega (arith, some, keys-there kind b at n.0 n.2.0)), sym (ap place n.3) ∙ next, tt, omega (arith, more))

pub mark-on : (kind : KeyKind) (b reached : List ℕ) (t : Shape) (fs : List ℕ) (d : ℕ) (k : Key) (at left : ℕ) (branch : Option Branch) → Holds kind (state_of kind b) reached t fs → suc d ≤ (state_of kind b).levels → place (under kind d t k) ≡ at
    → length (rows_of (page_in b at)) ≡ 0 → 1 < left → MarkedSo kind d left t k branch → MarkedSo kind (suc d) (left - 1) t k branch
mark-on kind b reached t fs d k at left None h l e none more m =
    let n = node-at kind (state_of kind b) reached t fs d k at h l e in
    go n.0 n.1 (omega (arith, none, keys-there kind b at n.0 n.2.0))
  where
    go : (below : Shapes) → under kind d t k ≡ node_shape at below → length (children_of below) ≡ 0 → IsLine (suc d) t
    go (more_shapes w key ws) eq z = absurd (omega (arith, z))
    go (last_shape w) eq z = line-more kind d t k at w m eq
mark-on kind b reached t fs d k at left (Some branch) h l e none more m =
    let n = node-at kind (state_of kind b) reached t fs d k at h l e in
    go n.0 n.1 (omega (arith, none, keys-there kind b at n.0 n.2.0)) m
  where
    go : (below : Shapes) → under kind d t k ≡ node_shape at below → length (children_of below) ≡ 0 → MarkedSo kind d left t k (Some branch) → MarkedSo kind (suc d) (left - 1) t k (Some branch)
    go (more_shapes w key ws) eq z m = absurd (omega (arith, z))
    go (last_shape w) eq z (a, n, below, ed, eu, hk, ep, line, el) = (
      a,
      suc n,
      below,
      omega (arith, ed),
      eu,
      hk,
      ep,
      line-more kind n (child_for kind below k) k at w line (sym (under-both kind a n t k branch.page below eu) ∙ ap (λ m. under kind m t k) (sym ed) ∙ eq),
      omega (arith, el, more),
    )

-- at the leaf
pub mark-done : (kind : KeyKind) (d left : ℕ) (t : Shape) (k : Key) (branch : Option Branch) → left ≡ 1 → MarkedSo kind d left t k branch → Marked kind d t k branch
mark-done kind d left t k None one m = m
mark-done kind d left t k (Some branch) one (a, n, below, ed, eu, hk, ep, line, el) =
    let n_is : n ≡ branch.below = omega (arith, el, one) in
    (a, below, ed ∙ ap (λ m. suc (a + m)) n_is, eu, hk, ep, subst (λ m. IsLine m (child_for kind below k)) n_is line)

-- what holds of this branch and of the one before holds of the one that is kept
pub branch-step : (n : ℕ) (this : Branch) (before after : Option Branch) (Q : Option Branch → Type 0) → (1 ≤ n → after ≡ Some this) → (n ≡ 0 → after ≡ before) → (1 ≤ n → Q (Some this)) → (n ≡ 0 → Q before) → Q after
branch-step zero this before after Q a b q r = subst Q (sym (b refl)) (r refl)
branch-step (suc n) this before after Q a b q r = subst Q (sym (a (omega arith))) (q (omega arith))
