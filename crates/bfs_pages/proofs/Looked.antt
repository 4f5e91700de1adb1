-- The value at a key of a tree.
use Rattle.std.proofs.Common.{◌≡◌, ℕ, List, [], ◌∷◌, ◌++◌, Some, None, cond, refl, ap, ◌∙◌}
use Rattle.std.specs.List.{AllByRecursion}
use Rattle.bfs_node.specs.BaseKeyKind.{KeyKind}
use Rattle.bfs_node.specs.Page.{Row}
use Rattle.bfs_pages.specs.Order.{Key, same_keys}
use Rattle.bfs_pages.specs.Maps.{assoc}
use Rattle.bfs_pages.specs.Shapes.{Shape, leaf_shape, tree_rows, Entry, a_row, a_bound, entries_in, entries_of, IsAbove}
use Rattle.bfs_pages.specs.Trees.{State, Holds}
use Rattle.bfs_pages.specs.Ways.{rows_in, under, before_way, behind_way}
use Rattle.bfs_pages.proofs.KeyOrder.{IsBelow, less_not_same, greater_not_same}
use Rattle.bfs_pages.proofs.Laws.{rows-shape, rows-append, rows-back}
use Rattle.bfs_pages.proofs.Way.{entries-under, before-way-below, behind-way-above}

-- the value at a key is that in the leaf on its way
assoc-behind : (kind : KeyKind) → (fs : List Entry) (xs : List Row) (k : Key) → AllByRecursion (λ e. IsBelow kind k e) fs → assoc kind (rows_in fs ++ xs) k ≡ assoc kind xs k
assoc-behind kind [] xs k a = refl
assoc-behind kind (a_bound b ∷ fs) xs k a = assoc-behind kind fs xs k a.1
assoc-behind kind (a_row b w ∷ fs) xs k a = ap (λ c. cond c (Some w) (assoc kind (rows_in fs ++ xs) k)) (greater_not_same kind k b a.0) ∙ assoc-behind kind fs xs k a.1

assoc-none : (kind : KeyKind) → (bs : List Entry) (k : Key) → AllByRecursion (λ e. IsAbove kind k e) bs → assoc kind (rows_in bs) k ≡ None
assoc-none kind [] k a = refl
assoc-none kind (a_bound b ∷ bs) k a = assoc-none kind bs k a.1
assoc-none kind (a_row b w ∷ bs) k a = ap (λ c. cond c (Some w) (assoc kind (rows_in bs) k)) (less_not_same kind k b a.0) ∙ assoc-none kind bs k a.1

assoc-before : (kind : KeyKind) → (xs : List Row) (bs : List Entry) (k : Key) → AllByRecursion (λ e. IsAbove kind k e) bs → assoc kind (xs ++ rows_in bs) k ≡ assoc kind xs k
assoc-before kind [] bs k a = assoc-none kind bs k a
assoc-before kind (x ∷ xs) bs k a = ap (λ r. cond (same_keys kind k x.0) (Some x.1) r) (assoc-before kind xs bs k a)

pub leaf-value : (kind : KeyKind) → (st : State) (loose : List ℕ) (t : Shape) (fs : List ℕ) (d : ℕ) (k : Key) (at : ℕ) (rows : List Row) → Holds kind st loose t fs → under kind d t k ≡ leaf_shape at rows
    → assoc kind (tree_rows t) k ≡ assoc kind rows k
leaf-value kind st loose t fs d k at rows h is =
    ap (λ z. assoc kind z k) (rows-shape t ∙ ap (λ z. rows_in z) (entries-under kind d t k ∙ ap (λ u. before_way kind d t k ++ (entries_of u ++ behind_way kind d t k)) is)
    ∙ rows-append (before_way kind d t k) (entries_in rows ++ behind_way kind d t k) ∙ ap (λ l. rows_in (before_way kind d t k) ++ l) (rows-append (entries_in rows) (behind_way kind d t k) ∙ ap (λ l. l ++ rows_in (behind_way kind d t k)) (rows-back rows)))
    ∙ assoc-behind kind (before_way kind d t k) (rows ++ rows_in (behind_way kind d t k)) k (before-way-below kind d t k h.ascends)
    ∙ assoc-before kind rows (behind_way kind d t k) k (behind-way-above kind d t k h.ascends)
