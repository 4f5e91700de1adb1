-- The leaves of a tree, and lists that fall apart.
use Rattle.std.proofs.Common.{◌≡◌, ◌≢◌, ◌≤◌, ℕ, List, [], ◌∷◌, ◌++◌, refl, ap, sym, ◌∙◌, subst, arith, append_assoc}
use Rattle.bfs_node.specs.Lists.{times}
use Rattle.bfs_node.specs.BaseKeyKind.{KeyKind}
use Rattle.bfs_node.specs.Page.{Row}
use Rattle.bfs_pages.specs.Order.{Key}
use Rattle.bfs_pages.specs.Shapes.{Shape, Shapes, leaf_shape, node_shape, last_shape, more_shapes, met_by, met_by_all, leaves_of, leaves_all, a_row, entries_in, entries_of}
use Rattle.bfs_pages.specs.Trees.{head_or, Linked}
use Rattle.bfs_pages.specs.Ways.{child_for, before, behind, leaves_before, leaves_behind, under, before_way, behind_way, leaves_before_way, leaves_behind_way}
use Rattle.bfs_pages.proofs.Splice.{entries-child, times-append, leaves-child, self}
use Rattle.bfs_pages.proofs.Way.{entries-under, leaves-under}
use Rattle.bfs_pages.proofs.Laws.{one}

pub entries-append : (xs ys : List Row) → entries_in (xs ++ ys) ≡ entries_in xs ++ entries_in ys
entries-append [] ys = refl
entries-append (x ∷ xs) ys = ap (λ l. a_row x.0 x.1 ∷ l) (entries-append xs ys)

mutual
  pub times-leaves : (x : ℕ) (t : Shape) → times x (leaves_of t) ≤ times x (met_by t)
  times-leaves x (leaf_shape at rows) = omega arith
  times-leaves x (node_shape at below) = omega (arith, times-leaves-all x below, one x (met_by_all below))

  pub times-leaves-all : (x : ℕ) (ts : Shapes) → times x (leaves_all ts) ≤ times x (met_by_all ts)
  times-leaves-all x (last_shape t) = times-leaves x t
  times-leaves-all x (more_shapes t key ts) = omega (arith, times-leaves x t, times-leaves-all x ts, times-append x (met_by t) (met_by_all ts), times-append x (leaves_of t) (leaves_all ts))

pub linked-at : (links : ℕ → ℕ × ℕ) (prev : ℕ) (xs : List ℕ) (p : ℕ) (ys : List ℕ) (next : ℕ) → Linked links prev (xs ++ (p ∷ ys)) next → (links p).1 ≡ head_or next ys
linked-at links prev [] p ys next l = ap (λ w. w.1) l.0
linked-at links prev (x ∷ xs) p ys next l = linked-at links x xs p ys next l.1

pub leaf-form : {A : Type 0} (a b : List A) (e : A) (c d : List A) → a ++ ((b ++ (e ∷ c)) ++ d) ≡ (a ++ b) ++ (e ∷ (c ++ d))
leaf-form a b e c d = simp append_assoc

pub node-entries : (kind : KeyKind) → (d : ℕ) (t : Shape) (k : Key) (at : ℕ) (below : Shapes) → under kind d t k ≡ node_shape at below
    → entries_of t ≡ before_way kind d t k ++ ((before kind below k ++ (entries_of (child_for kind below k) ++ behind kind below k)) ++ behind_way kind d t k)
node-entries kind d t k at below is = entries-under kind d t k ∙ ap (λ z. before_way kind d t k ++ (entries_of z ++ behind_way kind d t k)) is ∙ ap (λ z. before_way kind d t k ++ (z ++ behind_way kind d t k)) (entries-child kind below k)

pub node-leaves : (kind : KeyKind) → (d : ℕ) (t : Shape) (k : Key) (at : ℕ) (below : Shapes) → under kind d t k ≡ node_shape at below
    → leaves_of t ≡ leaves_before_way kind d t k ++ ((leaves_before kind below k ++ (leaves_of (child_for kind below k) ++ leaves_behind kind below k)) ++ leaves_behind_way kind d t k)
node-leaves kind d t k at below is = leaves-under kind d t k ∙ ap (λ z. leaves_before_way kind d t k ++ (leaves_of z ++ leaves_behind_way kind d t k)) is ∙ ap (λ z. leaves_before_way kind d t k ++ (z ++ leaves_behind_way kind d t k)) (leaves-child kind below k)

-- the right neighbour of a leaf is none, or another leaf
pub next-leaf : (links : ℕ → ℕ × ℕ) (xs : List ℕ) (c : ℕ) (ys : List ℕ) → Linked links 0 (xs ++ (c ∷ ys)) 0 → (links c).1 ≢ 0 → 1 ≤ times (links c).1 ys
next-leaf links xs c ys l n = by_list ys (linked-at links 0 xs c ys 0 l)
  where
    by_list : (ys : List ℕ) → (links c).1 ≡ head_or 0 ys → 1 ≤ times (links c).1 ys
    by_list [] e = absurd (n e)
    by_list (y ∷ ys) e = subst (λ z. 1 ≤ times z (y ∷ ys)) (sym e) (self y ys)
