-- The rows of a range, as pairs.
use Rattle.std.proofs.Common.{◌≡◌, ◌∙◌, ℕ, List, [], ◌∷◌, ◌++◌, Bool, true, false, cond, Some, refl, sym, ap, ap₂, map}
use Rattle.std.specs.Prelude.{◌&&◌}
use Rattle.std.specs.List.{flat_map, filter}
use Rattle.std.specs.Ordering.{is_le, is_lt, ordering_reverse}
use Rattle.std.specs.declared.cmp.Ordering.{Ordering}
use Rattle.std.specs.declared.cmp.Ordering.TheVariants.{Less, Equal, Greater}
use Rattle.bfs_base.specs.Keys.{key_cmp}
use Rattle.bfs_base.specs.declared.kind.KeyKind.{KeyKind}
use Rattle.bfs_node.proofs.Order.{key_cmp_total}
use Rattle.bfs_node.specs.Page.{Row}
use Rattle.bfs_pages.specs.Order.{Key, at_most}
use Rattle.bfs_range.specs.Answers.{answer_of}
use Rattle.bfs_range.specs.Ranges.{rows_between}
use Rattle.bfs_tree.specs.Listings.{is_between}
use Rattle.bfs_values.specs.Reached.{pairs_of}
use Rattle.bfs_values.specs.Values.{values_in}
use Rattle.bfs_index.specs.Indices.{found_between, found_pair, row_pairs}
use Rattle.bfs_index.specs.declared.found.Pair.{Pair}
use Rattle.bfs_index.proofs.PairLists.{pairs_by}

reverse_most : (o : Ordering) → cond (is_lt (ordering_reverse o)) false true ≡ is_le o
reverse_most Less = refl
reverse_most Equal = refl
reverse_most Greater = refl

most_is : (kind : KeyKind) (a b : Key) → at_most kind a b ≡ is_le (key_cmp kind a b)
most_is kind a b = ap (λ o. cond (is_lt o) false true) ((key_cmp_total kind).antisymm b a) ∙ reverse_most (key_cmp kind a b)

-- the pairs of one row, where its key is in the range, and where it isn't
row_all : (p : Key × ℕ → Bool) (l : Key) (ns : List ℕ) → ((n : ℕ) → p (l, n) ≡ true) → map found_pair (filter p (map (λ n. (l, n)) ns)) ≡ map (λ n. record { key = l; id = n }) ns
row_all p l [] h = refl
row_all p l (n ∷ ns) h =
    ap (λ t. map found_pair (cond t ((l, n) ∷ filter p (map (λ m. (l, m)) ns)) (filter p (map (λ m. (l, m)) ns)))) (h n) ∙ ap (λ (xs : List Pair). record { key = l; id = n } ∷ xs) (row_all p l ns h)

row_none : (p : Key × ℕ → Bool) (l : Key) (ns : List ℕ) → ((n : ℕ) → p (l, n) ≡ false) → filter p (map (λ n. (l, n)) ns) ≡ []
row_none p l [] h = refl
row_none p l (n ∷ ns) h = ap (λ t. cond t ((l, n) ∷ filter p (map (λ m. (l, m)) ns)) (filter p (map (λ m. (l, m)) ns))) (h n) ∙ row_none p l ns h

filter_joined : (p : Key × ℕ → Bool) (xs ys : List (Key × ℕ)) → filter p (xs ++ ys) ≡ filter p xs ++ filter p ys
filter_joined p [] ys = refl
filter_joined p (x ∷ xs) ys = by_test (p x) (filter_joined p xs ys)
  where
    by_test : (t : Bool) → filter p (xs ++ ys) ≡ filter p xs ++ filter p ys → cond t (x ∷ filter p (xs ++ ys)) (filter p (xs ++ ys)) ≡ cond t (x ∷ filter p xs) (filter p xs) ++ filter p ys
    by_test true e = ap (λ (l : List (Key × ℕ)). x ∷ l) e
    by_test false e = e

map_joined : (xs ys : List (Key × ℕ)) → map found_pair (xs ++ ys) ≡ map found_pair xs ++ map found_pair ys
map_joined [] ys = refl
map_joined (x ∷ xs) ys = ap (λ (l : List Pair). found_pair x ∷ l) (map_joined xs ys)

pub between_rows : (kind : KeyKind) (b : List ℕ) (low high : Key) (rows : List Row) → flat_map row_pairs (answer_of b (rows_between kind (Some low) (Some high) rows)) ≡ found_between kind low high (pairs_by b rows)
between_rows kind b low high [] = refl
between_rows kind b low high (r ∷ rs) =
    by_test (at_most kind low r.0 && at_most kind r.0 high) refl (between_rows kind b low high rs)
    ∙ sym (ap (map found_pair) (filter_joined (is_between kind low high) (pairs_of b r) (pairs_by b rs)) ∙ map_joined (filter (is_between kind low high) (pairs_of b r)) (filter (is_between kind low high) (pairs_by b rs)))
  where
    tests : (n : ℕ) → is_between kind low high (r.0, n) ≡ (at_most kind low r.0 && at_most kind r.0 high)
    tests n = ap₂ (λ x y. x && y) (sym (most_is kind low r.0)) (sym (most_is kind r.0 high))

    by_test : (t : Bool) → (at_most kind low r.0 && at_most kind r.0 high) ≡ t → flat_map row_pairs (answer_of b (rows_between kind (Some low) (Some high) rs)) ≡ found_between kind low high (pairs_by b rs)
        → flat_map row_pairs (answer_of b (cond t (r ∷ rows_between kind (Some low) (Some high) rs) (rows_between kind (Some low) (Some high) rs))) ≡ map found_pair (filter (is_between kind low high) (pairs_of b r)) ++ found_between kind low high (pairs_by b rs)
    by_test true e rest = ap₂ (λ (xs ys : List Pair). xs ++ ys) (sym (row_all (is_between kind low high) r.0 (values_in b r.1) (λ n. tests n ∙ e))) rest
    by_test false e rest = rest ∙ ap (λ (l : List (Key × ℕ)). map found_pair l ++ found_between kind low high (pairs_by b rs)) (sym (row_none (is_between kind low high) r.0 (values_in b r.1) (λ n. tests n ∙ e)))
