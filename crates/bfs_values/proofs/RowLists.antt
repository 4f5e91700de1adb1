-- The rows of a tree ascend; a row put among them, or taken.
use Rattle.std.proofs.Common.{◌≡◌, ℤ, List, [], ◌∷◌, ◌++◌, Some, None, Bool, true, false, cond, refl, ap, sym, ◌∙◌, subst, ℕ}
use Rattle.std.specs.List.{AllByRecursion}
use Rattle.bfs_base.specs.declared.kind.KeyKind.{KeyKind}
use Rattle.bfs_node.specs.Page.{Row}
use Rattle.bfs_pages.specs.Maps.{assoc, put, without}
use Rattle.bfs_pages.specs.Order.{Key, comes_before, at_most, same_keys}
use Rattle.bfs_pages.specs.Shapes.{Shape, tree_rows, Entry, a_row, a_bound, entries_of, IsAbove, AscendAll}
use Rattle.bfs_pages.specs.Trees.{IsTree}
use Rattle.bfs_pages.specs.Ways.{rows_in, KeysAscend}
use Rattle.bfs_pages.proofs.KeyOrder.{less_not_same, same_before}
use Rattle.bfs_pages.proofs.Laws.{rows-shape}

rows-above : (kind : KeyKind) (k : Key) (es : List Entry) → AllByRecursion (λ e. IsAbove kind k e) es → AllByRecursion (λ s. comes_before kind k s.0 ≡ true) (rows_in es)
rows-above kind k [] a = tt
rows-above kind k (a_row l v ∷ es) a = (a.0, rows-above kind k es a.1)
rows-above kind k (a_bound l ∷ es) a = rows-above kind k es a.1

pub entries-ascend : (kind : KeyKind) (es : List Entry) → AscendAll kind es → KeysAscend kind (rows_in es)
entries-ascend kind [] a = tt
entries-ascend kind (a_row k v ∷ es) a = (rows-above kind k es a.0, entries-ascend kind es a.1)
entries-ascend kind (a_bound k ∷ es) a = entries-ascend kind es a.1

pub rows-up : (kind : KeyKind) (bytes reached : List ℕ) (t : Shape) (fs : List ℕ) → IsTree kind bytes reached t fs → KeysAscend kind (tree_rows t)
rows-up kind bytes reached t fs tree = subst (λ l. KeysAscend kind l) (sym (rows-shape t)) (entries-ascend kind (entries_of t) tree.holds.ascends)

-- where a row is put
pub put-split : (kind : KeyKind) (rows : List Row) (k : Key) (v : ℤ) → (front : List Row) × (back : List Row) × (rows ≡ front ++ back) × (put kind rows k v ≡ front ++ ((k, v) ∷ back))
put-split kind [] k v = ([], [], refl, refl)
put-split kind (r ∷ rs) k v = by_test (at_most kind k r.0) (put-split kind rs k v)
  where
    by_test : (c : Bool) → ((front : List Row) × (back : List Row) × (rs ≡ front ++ back) × (put kind rs k v ≡ front ++ ((k, v) ∷ back)))
        → (front : List Row) × (back : List Row) × (r ∷ rs ≡ front ++ back) × (cond c ((k, v) ∷ r ∷ rs) (r ∷ put kind rs k v) ≡ front ++ ((k, v) ∷ back))
    by_test true i = ([], r ∷ rs, refl, refl)
    by_test false i = (r ∷ i.0, i.1, ap (λ l. r ∷ l) i.2, ap (λ l. r ∷ l) i.3)

-- no row has a key below all of them
without-none : (kind : KeyKind) (k : Key) (rows : List Row) → AllByRecursion (λ s. comes_before kind k s.0 ≡ true) rows → without kind rows k ≡ rows
without-none kind k [] a = refl
without-none kind k (r ∷ rs) a = ap (λ c. cond c (without kind rs k) (r ∷ without kind rs k)) (less_not_same kind k r.0 a.0) ∙ ap (λ l. r ∷ l) (without-none kind k rs a.1)

-- where one is taken
pub without-split : (kind : KeyKind) (rows : List Row) (k : Key) (v : ℤ) → KeysAscend kind rows → assoc kind rows k ≡ Some v
    → (front : List Row) × (row : Row) × (back : List Row) × (rows ≡ front ++ (row ∷ back)) × (row.1 ≡ v) × (without kind rows k ≡ front ++ back)
without-split kind [] k v up e = absurd (no e)
  where
    no : None ≡ Some v → ⊥
    no e = cc
without-split kind (r ∷ rs) k v up e = by_test (same_keys kind k r.0) refl e (λ h. without-split kind rs k v up.1 h)
  where
    some : Some r.1 ≡ Some v → r.1 ≡ v
    some e = cc

    all_above : same_keys kind k r.0 ≡ true → (xs : List Row) → AllByRecursion (λ s. comes_before kind r.0 s.0 ≡ true) xs → AllByRecursion (λ s. comes_before kind k s.0 ≡ true) xs
    all_above h [] a = tt
    all_above h (x ∷ xs) a = (same_before kind k r.0 x.0 h ∙ a.0, all_above h xs a.1)

    by_test : (c : Bool) → same_keys kind k r.0 ≡ c → cond c (Some r.1) (assoc kind rs k) ≡ Some v
        → (assoc kind rs k ≡ Some v → (front : List Row) × (row : Row) × (back : List Row) × (rs ≡ front ++ (row ∷ back)) × (row.1 ≡ v) × (without kind rs k ≡ front ++ back))
        → (front : List Row) × (row : Row) × (back : List Row) × (r ∷ rs ≡ front ++ (row ∷ back)) × (row.1 ≡ v) × (cond c (without kind rs k) (r ∷ without kind rs k) ≡ front ++ back)
    by_test true h e ih = ([], r, rs, refl, some e, without-none kind k rs (all_above h rs up.0))
    by_test false h e ih = let i = ih e in (r ∷ i.0, i.1, i.2, ap (λ l. r ∷ l) i.3, i.4, ap (λ l. r ∷ l) i.5)
