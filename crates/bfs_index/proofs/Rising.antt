-- The pairs of a whole tree strictly ascend, and so they are the one list of these pairs that does.
use Rattle.std.proofs.Common.{◌≡◌, ◌<◌, ◌⊎◌, inl, inr, ◌+◌, ◌∙◌, ℕ, List, [], ◌∷◌, ◌++◌, true, false, refl, sym, ap, subst, arith, map}
use Rattle.std.specs.Prelude.{◌↔◌}
use Rattle.std.specs.List.{Contains, AllByRecursion}
use Rattle.std.specs.List.Sorted.{IsStrictlySortedBy}
use Rattle.std.specs.Ordering.{nat_cmp, ordering_then, is_eq, is_lt}
use Rattle.std.specs.Cmp.{IsTotalOrder, nat_cmp_total, on_total, then_total}
use Rattle.std.specs.declared.cmp.Ordering.{Ordering}
use Rattle.std.specs.declared.cmp.Ordering.TheVariants.{Less, Equal, Greater}
use Rattle.bfs_base.specs.Keys.{key_cmp}
use Rattle.bfs_base.specs.Lists.{times, IsOnce}
use Rattle.bfs_base.specs.declared.kind.KeyKind.{KeyKind}
use Rattle.bfs_node.proofs.Order.{key_cmp_total}
use Rattle.bfs_node.specs.Page.{Row}
use Rattle.bfs_pages.specs.Order.{Key, comes_before}
use Rattle.bfs_pages.specs.Ways.{KeysAscend}
use Rattle.bfs_pages.proofs.KeyOrder.{same_itself}
use Rattle.bfs_pages.proofs.Splice.{self}
use Rattle.bfs_tree.specs.Listings.{pair_cmp}
use Rattle.bfs_tree.proofs.Members.{In}
use Rattle.bfs_tree.proofs.ListMoves.{same-list}
use Rattle.bfs_values.specs.declared.link.Link.{Link}
use Rattle.bfs_values.specs.declared.link.Link.TheVariants.{Number, Fragment, Chain, Nothing}
use Rattle.bfs_values.specs.Links.{link_in}
use Rattle.bfs_values.specs.Reached.{IsWholeTree, AllMean, AreWritten, pairs_of}
use Rattle.bfs_values.specs.Rows.{rows_in}
use Rattle.bfs_values.specs.Values.{in_order, HasNumbers, numbers_in, values_in}
use Rattle.bfs_values.proofs.RowLists.{rows-up}
use Rattle.bfs_values.proofs.Rows.{rows_those}
use Rattle.bfs_dups.proofs.Ordered.{Up, up-of, placed-up, order-times}
use Rattle.bfs_index.specs.Indices.{pairs_in, HasWith, HasWithout}
use Rattle.bfs_index.proofs.PairLists.{contains_in, in_contains, in_cases, in_row, pairs_by}

-- ---- the numbers of a value ascend

once_first : (x : ℕ) (xs : List ℕ) → IsOnce (x ∷ xs) → times x xs ≡ 0
once_first x xs once = let one : times x (x ∷ xs) ≡ times x (x ∷ []) + times x xs = omega arith in omega (arith, once x, one, self x [])

once_rest : (x : ℕ) (xs : List ℕ) → IsOnce (x ∷ xs) → IsOnce xs
once_rest x xs once k = omega (arith, once k)

order_up : (xs : List ℕ) → IsOnce xs → Up (in_order xs)
order_up [] once = tt
order_up (x ∷ xs) once = placed-up x (in_order xs) (order_up xs (once_rest x xs once)) (order-times x xs ∙ once_first x xs once)

link_up : (b : List ℕ) (l : Link) → HasNumbers b l → Up (numbers_in b l)
link_up b (Number n) h = (tt, tt)
link_up b (Fragment page i) h = up-of (numbers_in b (Fragment page i)) h.1.ascend
link_up b (Chain page) h = order_up _ h.3
link_up b Nothing h = tt

-- ---- lists that ascend

abbrev Pair : Type 0
Pair = Key × ℕ

less_is : (o : Ordering) → is_lt o ≡ true → o ≡ Less
less_is Less e = refl
less_is Equal e = let bad : false ≡ true = e in cc
less_is Greater e = let bad : false ≡ true = e in cc

equal_is : (o : Ordering) → is_eq o ≡ true → o ≡ Equal
equal_is Less e = let bad : false ≡ true = e in cc
equal_is Equal e = refl
equal_is Greater e = let bad : false ≡ true = e in cc

number_less : (m n : ℕ) → m < n → nat_cmp m n ≡ Less
number_less m n h = less_is (nat_cmp m n) (test m n h)
  where
    test : (m n : ℕ) → m < n → is_lt (nat_cmp m n) ≡ true
    test m n h = grind (arith, h)

all_joined : (P : Pair → Type 0) (xs ys : List Pair) → AllByRecursion P xs → AllByRecursion P ys → AllByRecursion P (xs ++ ys)
all_joined P [] ys a b = b
all_joined P (x ∷ xs) ys a b = (a.0, all_joined P xs ys a.1 b)

all_in : (P : Pair → Type 0) (xs : List Pair) → ((y : Pair) → In y xs → P y) → AllByRecursion P xs
all_in P [] h = tt
all_in P (x ∷ xs) h = (h x (inl refl), all_in P xs (λ y i. h y (inr i)))

module _ (kind : KeyKind) where
  joined_sorted : (xs ys : List Pair) → IsStrictlySortedBy (pair_cmp kind) xs → IsStrictlySortedBy (pair_cmp kind) ys → ((x y : Pair) → In x xs → In y ys → pair_cmp kind x y ≡ Less) → IsStrictlySortedBy (pair_cmp kind) (xs ++ ys)
  unfolding IsStrictlySortedBy
  joined_sorted [] ys sx sy across = sy
  joined_sorted (x ∷ xs) ys sx sy across = (
    all_joined (λ y. pair_cmp kind x y ≡ Less) xs ys sx.0 (all_in (λ y. pair_cmp kind x y ≡ Less) ys (λ y i. across x y (inl refl) i)),
    joined_sorted xs ys sx.1 sy (λ a b i j. across a b (inr i) j),
  )

  ids_less : (l : Key) (m n : ℕ) → m < n → pair_cmp kind (l, m) (l, n) ≡ Less
  ids_less l m n h = ap (λ o. ordering_then o (nat_cmp m n)) (equal_is (key_cmp kind l l) (same_itself kind l)) ∙ number_less m n h

  keys_less : (k l : Key) (m n : ℕ) → comes_before kind k l ≡ true → pair_cmp kind (k, m) (l, n) ≡ Less
  keys_less k l m n h = ap (λ o. ordering_then o (nat_cmp m n)) (less_is (key_cmp kind k l) h)

  row_all : (l : Key) (m : ℕ) (ns : List ℕ) → AllByRecursion (λ n. m < n) ns → AllByRecursion (λ y. pair_cmp kind (l, m) y ≡ Less) (map (λ n. (l, n)) ns)
  row_all l m [] a = tt
  row_all l m (n ∷ ns) a = (ids_less l m n a.0, row_all l m ns a.1)

  row_sorted : (l : Key) (ns : List ℕ) → Up ns → IsStrictlySortedBy (pair_cmp kind) (map (λ n. (l, n)) ns)
  unfolding IsStrictlySortedBy
  row_sorted l [] up = tt
  row_sorted l (n ∷ ns) up = (row_all l n ns up.0, row_sorted l ns up.1)

  -- a key below those of rows is below those of their pairs
  below_pairs : (b : List ℕ) (k : Key) (m : ℕ) (rows : List Row) (y : Pair) → AllByRecursion (λ s. comes_before kind k s.0 ≡ true) rows → In y (pairs_by b rows) → pair_cmp kind (k, m) y ≡ Less
  below_pairs b k m [] y a h = absurd h
  below_pairs b k m (r ∷ rs) y a h = by_cases (in_cases (pairs_of b r) (pairs_by b rs) y h) (λ i. below_pairs b k m rs y a.1 i)
    where
      by_cases : In y (pairs_of b r) ⊎ In y (pairs_by b rs) → (In y (pairs_by b rs) → pair_cmp kind (k, m) y ≡ Less) → pair_cmp kind (k, m) y ≡ Less
      by_cases (inl i) more = let same : y.0 ≡ r.0 = (in_row r.0 y.0 y.1 (values_in b r.1) i).0 in keys_less k y.0 m y.1 (subst (λ (z : Key). comes_before kind k z ≡ true) (sym same) a.0)
      by_cases (inr i) more = more i

  rows_sorted : (b : List ℕ) (rows : List Row) → KeysAscend kind rows → AllMean b rows → IsStrictlySortedBy (pair_cmp kind) (pairs_by b rows)
  unfolding IsStrictlySortedBy
  rows_sorted b [] up mean = tt
  rows_sorted b (r ∷ rs) up mean =
      joined_sorted (pairs_of b r) (pairs_by b rs) (row_sorted r.0 (values_in b r.1) (link_up b (link_in r.1) mean.0)) (rows_sorted b rs up.1 mean.1)
      (λ x y i j.
      let same : x.0 ≡ r.0 = (in_row r.0 x.0 x.1 (values_in b r.1) i).0 in
      subst (λ (z : Key). pair_cmp kind (z, x.1) y ≡ Less) (sym same) (below_pairs b r.0 x.1 rs y up.0 j))

pair_total : (kind : KeyKind) → IsTotalOrder (pair_cmp kind)
pair_total kind = then_total (on_total (λ (p : Pair). p.0) (key_cmp_total kind)) (on_total (λ (p : Pair). p.1) nat_cmp_total)

pub tree_up : (kind : KeyKind) (b : List ℕ) → IsWholeTree kind b → KeysAscend kind (rows_in kind b)
tree_up kind b d = subst (λ (l : List Row). KeysAscend kind l) (rows_those kind b d.reached d.shape d.free d.tree) (rows-up kind b d.reached d.shape d.free d.tree)

pub pairs_up : (kind : KeyKind) (b : List ℕ) → IsWholeTree kind b → IsStrictlySortedBy (pair_cmp kind) (pairs_in kind b)
pairs_up kind b d = rows_sorted kind b (rows_in kind b) (tree_up kind b d) d.mean

pub written_unique : (kind : KeyKind) (b : List ℕ) (pairs : List Pair) → IsWholeTree kind b → IsStrictlySortedBy (pair_cmp kind) pairs → ((k : Key) (n : ℕ) → Contains (pairs_in kind b) (k, n) ↔ Contains pairs (k, n)) → AreWritten b (rows_in kind b) pairs
written_unique kind b pairs d s said = record {
  are = same-list (pair_cmp kind) (pair_total kind) pairs (pairs_in kind b) s (pairs_up kind b d)
      (λ z i. contains_in (pairs_in kind b) z ((said z.0 z.1).1 (in_contains pairs z i)))
      (λ z i. contains_in pairs z ((said z.0 z.1).0 (in_contains (pairs_in kind b) z i)));
}

pub added_written : (kind : KeyKind) (old b : List ℕ) (key : Key) (id : ℕ) (was pairs : List Pair) → AreWritten old (rows_in kind old) was → HasWith kind old key id b → IsStrictlySortedBy (pair_cmp kind) pairs
    → ((k : Key) (n : ℕ) → Contains pairs (k, n) ↔ (Contains was (k, n) ⊎ ((k ≡ key) × (n ≡ id)))) → AreWritten b (rows_in kind b) pairs
added_written kind old b key id was pairs w h s said =
    written_unique kind b pairs h.tree s
    (λ k n.
    let here = subst (λ (l : List Pair). Contains pairs (k, n) ↔ (Contains l (k, n) ⊎ ((k ≡ key) × (n ≡ id)))) w.are (said k n) in
    let there = h.pairs k n in
    (λ i. here.1 (there.0 i), λ i. there.1 (here.0 i)))

pub taken_written : (kind : KeyKind) (old b : List ℕ) (key : Key) (id : ℕ) (was pairs : List Pair) → AreWritten old (rows_in kind old) was → HasWithout kind old key id b → IsStrictlySortedBy (pair_cmp kind) pairs
    → ((k : Key) (n : ℕ) → Contains pairs (k, n) ↔ (Contains was (k, n) × ((k ≡ key) × (n ≡ id) → ⊥))) → AreWritten b (rows_in kind b) pairs
taken_written kind old b key id was pairs w h s said =
    written_unique kind b pairs h.tree s
    (λ k n.
    let here = subst (λ (l : List Pair). Contains pairs (k, n) ↔ (Contains l (k, n) × ((k ≡ key) × (n ≡ id) → ⊥))) w.are (said k n) in
    let there = h.pairs k n in
    (λ i. here.1 (there.0 i), λ i. there.1 (here.0 i)))
