-- A tree, where one row of a leaf has another value.
use Rattle.std.proofs.Common.{◌≡◌, ◌≢◌, ◌≤◌, ◌<◌, ◌+◌, ◌-◌, ◌%◌, ℕ, ℤ, zero, suc, List, [], ◌∷◌, ◌++◌, length, Option, Some, Bool, true, false, cond, ◌==◌, nat_le, refl, ap, ap₂, sym, ◌∙◌, subst, arith}
use Rattle.std.specs.List.{AllByRecursion}
use Rattle.bfs_base.specs.Lists.{times}
use Rattle.bfs_base.specs.declared.kind.KeyKind.{KeyKind}
use Rattle.bfs_node.specs.Page.{Row, rows_of}
use Rattle.bfs_node.specs.declared.header.Header.{Header}
use Rattle.bfs_pages.specs.Answers.{IsLeafPage}
use Rattle.bfs_pages.specs.Maps.{assoc}
use Rattle.bfs_pages.specs.Order.{Key, same_keys}
use Rattle.bfs_pages.specs.Shapes.{Body, leaf_body, inner_body, Shape, Shapes, leaf_shape, node_shape, last_shape, more_shapes, place, tree_rows, trees_rows, met_by, met_by_all, leaves_of, leaves_all, children_of, last_child, IsDeep, AreDeep, Stands, StandAll, Entry, a_row, a_bound, key_in, entries_in, entries_of, entries_all, IsAbove, AscendAll}
use Rattle.bfs_pages.specs.Trees.{state_of, page_in, header_in, place_of, body_in, free_in, neighbours_in, FreeFrom, Linked, IsTreeHeader, IsTree}
use Rattle.bfs_pages.specs.Ways.{KeysAscend}
use Rattle.bfs_pages.specs.Writes.{SamePages}
use Rattle.bfs_pages.proofs.Exchange.{met-once, same-free}
use Rattle.bfs_pages.proofs.Good.{page-true}
use Rattle.bfs_pages.proofs.Laws.{same-links}
use Rattle.bfs_pages.proofs.Leaves.{times-leaves, times-leaves-all}
use Rattle.bfs_pages.proofs.OfKind.{leaf-any, rows-ascend}
use Rattle.bfs_pages.proofs.Placed.{same_held}
use Rattle.bfs_pages.proofs.Says.{says-leaf}
use Rattle.bfs_pages.proofs.Splice.{ascends-left, ascends-right, times-append}
use Rattle.bfs_values.specs.Reached.{IsWholeTree, AreReached, AllMean}
use Rattle.bfs_values.specs.Rows.{rows_in}
use Rattle.bfs_values.specs.Sets.{with_value, IsValued}
use Rattle.bfs_values.specs.Stored.{Stored, SameNumbers}
use Rattle.bfs_values.specs.Laws.{Reaches}
use Rattle.bfs_values.proofs.Reaching.{reaches-same}
use Rattle.bfs_values.proofs.RowLists.{rows-up}
use Rattle.bfs_values.proofs.Rows.{rows_those}
use Rattle.bfs_values.proofs.ValuedRows.{keyed, keyed-append, keyed-most, keyed-some, value-none, value-append, value-row}

-- the leaf at a place has other rows
abbrev mutual
  pub valued : ℕ → KeyKind → Key → ℤ → Shape → Shape
  valued leaf kind k v (leaf_shape at rows) = leaf_shape at (cond (at == leaf) (with_value kind rows k v) rows)
  valued leaf kind k v (node_shape at below) = node_shape at (valued_all leaf kind k v below)

  pub valued_all : ℕ → KeyKind → Key → ℤ → Shapes → Shapes
  valued_all leaf kind k v (last_shape t) = last_shape (valued leaf kind k v t)
  valued_all leaf kind k v (more_shapes t key ts) = more_shapes (valued leaf kind k v t) key (valued_all leaf kind k v ts)

eq_is : (a d : ℕ) → (a == d) ≡ true → a ≡ d
eq_is a d e = grind (arith, e)

eq_off : (a d : ℕ) → (a == d) ≡ false → a ≢ d
eq_off a d e q = grind (arith, e, q)

some_rows : (a d : List Row) → Some (leaf_body a) ≡ Some (leaf_body d) → a ≡ d
some_rows a d e = cc

v-place : (leaf : ℕ) (kind : KeyKind) (k : Key) (v : ℤ) (t : Shape) → place (valued leaf kind k v t) ≡ place t
v-place leaf kind k v (leaf_shape at rows) = refl
v-place leaf kind k v (node_shape at below) = refl

v-children : (leaf : ℕ) (kind : KeyKind) (k : Key) (v : ℤ) (ts : Shapes) → (children_of (valued_all leaf kind k v ts) ≡ children_of ts) × (last_child (valued_all leaf kind k v ts) ≡ last_child ts)
v-children leaf kind k v (last_shape t) = (refl, v-place leaf kind k v t)
v-children leaf kind k v (more_shapes t key ts) = let i = v-children leaf kind k v ts in (ap₂ (λ p l. (key, p) ∷ l) (v-place leaf kind k v t) i.0, i.1)

mutual
  v-met : (leaf : ℕ) (kind : KeyKind) (k : Key) (v : ℤ) (t : Shape) → met_by (valued leaf kind k v t) ≡ met_by t
  v-met leaf kind k v (leaf_shape at rows) = refl
  v-met leaf kind k v (node_shape at below) = ap (λ l. at ∷ l) (v-met-all leaf kind k v below)

  v-met-all : (leaf : ℕ) (kind : KeyKind) (k : Key) (v : ℤ) (ts : Shapes) → met_by_all (valued_all leaf kind k v ts) ≡ met_by_all ts
  v-met-all leaf kind k v (last_shape t) = v-met leaf kind k v t
  v-met-all leaf kind k v (more_shapes t key ts) = ap₂ (λ a b. a ++ b) (v-met leaf kind k v t) (v-met-all leaf kind k v ts)

mutual
  v-leaves : (leaf : ℕ) (kind : KeyKind) (k : Key) (v : ℤ) (t : Shape) → leaves_of (valued leaf kind k v t) ≡ leaves_of t
  v-leaves leaf kind k v (leaf_shape at rows) = refl
  v-leaves leaf kind k v (node_shape at below) = v-leaves-all leaf kind k v below

  v-leaves-all : (leaf : ℕ) (kind : KeyKind) (k : Key) (v : ℤ) (ts : Shapes) → leaves_all (valued_all leaf kind k v ts) ≡ leaves_all ts
  v-leaves-all leaf kind k v (last_shape t) = v-leaves leaf kind k v t
  v-leaves-all leaf kind k v (more_shapes t key ts) = ap₂ (λ a b. a ++ b) (v-leaves leaf kind k v t) (v-leaves-all leaf kind k v ts)

mutual
  v-deep : (leaf : ℕ) (kind : KeyKind) (k : Key) (v : ℤ) (n : ℕ) (t : Shape) → IsDeep n t → IsDeep n (valued leaf kind k v t)
  v-deep leaf kind k v n (leaf_shape at rows) d = d
  v-deep leaf kind k v zero (node_shape at below) d = absurd d
  v-deep leaf kind k v (suc n) (node_shape at below) d = v-deep-all leaf kind k v n below d

  v-deep-all : (leaf : ℕ) (kind : KeyKind) (k : Key) (v : ℤ) (n : ℕ) (ts : Shapes) → AreDeep n ts → AreDeep n (valued_all leaf kind k v ts)
  v-deep-all leaf kind k v n (last_shape t) d = v-deep leaf kind k v n t d
  v-deep-all leaf kind k v n (more_shapes t key ts) d = (v-deep leaf kind k v n t d.0, v-deep-all leaf kind k v n ts d.1)

-- each time that the leaf is met, a row has the key
mutual
  v-keyed : (bodies : ℕ → Option Body) (leaf : ℕ) (kind : KeyKind) (k : Key) (own : List Row) (t : Shape) → bodies leaf ≡ Some (leaf_body own) → 1 ≤ keyed kind k own → Stands bodies t → times leaf (leaves_of t) ≤ keyed kind k (tree_rows t)
  v-keyed bodies leaf kind k own (leaf_shape at rows) h some s = by_test (at == leaf) refl
    where
      by_test : (c : Bool) → (at == leaf) ≡ c → cond c 1 0 + 0 ≤ keyed kind k rows
      by_test true e = let r : own ≡ rows = some_rows own rows (sym h ∙ ap bodies (sym (eq_is at leaf e)) ∙ s) in let m : 1 ≤ keyed kind k rows = subst (λ z. 1 ≤ keyed kind k z) r some in omega (arith, m)
      by_test false e = omega arith
  v-keyed bodies leaf kind k own (node_shape at below) h some s = v-keyed-all bodies leaf kind k own below h some s.1

  v-keyed-all : (bodies : ℕ → Option Body) (leaf : ℕ) (kind : KeyKind) (k : Key) (own : List Row) (ts : Shapes) → bodies leaf ≡ Some (leaf_body own) → 1 ≤ keyed kind k own → StandAll bodies ts → times leaf (leaves_all ts) ≤ keyed kind k (trees_rows ts)
  v-keyed-all bodies leaf kind k own (last_shape t) h some s = v-keyed bodies leaf kind k own t h some s
  v-keyed-all bodies leaf kind k own (more_shapes t key ts) h some s =
      omega (arith, v-keyed bodies leaf kind k own t h some s.0, v-keyed-all bodies leaf kind k own ts h some s.1, times-append leaf (leaves_of t) (leaves_all ts), keyed-append kind k (tree_rows t) (trees_rows ts))

-- so the rows are those with another value for the key
mutual
  v-rows : (bodies : ℕ → Option Body) (leaf : ℕ) (kind : KeyKind) (k : Key) (v : ℤ) (own : List Row) (t : Shape) → bodies leaf ≡ Some (leaf_body own) → 1 ≤ keyed kind k own → Stands bodies t → keyed kind k (tree_rows t) ≡ times leaf (leaves_of t)
      → tree_rows (valued leaf kind k v t) ≡ with_value kind (tree_rows t) k v
  v-rows bodies leaf kind k v own (leaf_shape at rows) h some s e = by_test (at == leaf) e
    where
      by_test : (c : Bool) → keyed kind k rows ≡ cond c 1 0 + 0 → cond c (with_value kind rows k v) rows ≡ with_value kind rows k v
      by_test true e = refl
      by_test false e = sym (value-none kind k v rows (omega (arith, e)))
  v-rows bodies leaf kind k v own (node_shape at below) h some s e = v-rows-all bodies leaf kind k v own below h some s.1 e

  v-rows-all : (bodies : ℕ → Option Body) (leaf : ℕ) (kind : KeyKind) (k : Key) (v : ℤ) (own : List Row) (ts : Shapes) → bodies leaf ≡ Some (leaf_body own) → 1 ≤ keyed kind k own → StandAll bodies ts → keyed kind k (trees_rows ts) ≡ times leaf (leaves_all ts)
      → trees_rows (valued_all leaf kind k v ts) ≡ with_value kind (trees_rows ts) k v
  v-rows-all bodies leaf kind k v own (last_shape t) h some s e = v-rows bodies leaf kind k v own t h some s e
  v-rows-all bodies leaf kind k v own (more_shapes t key ts) h some s e =
      let a = v-keyed bodies leaf kind k own t h some s.0 in
      let b = v-keyed-all bodies leaf kind k own ts h some s.1 in
      ap₂ (λ x y. x ++ y)
      (v-rows bodies leaf kind k v own t h some s.0 (omega (arith, e, a, b, times-append leaf (leaves_of t) (leaves_all ts), keyed-append kind k (tree_rows t) (trees_rows ts))))
      (v-rows-all bodies leaf kind k v own ts h some s.1 (omega (arith, e, a, b, times-append leaf (leaves_of t) (leaves_all ts), keyed-append kind k (tree_rows t) (trees_rows ts))))
      ∙ sym (value-append kind k v (tree_rows t) (trees_rows ts))

-- entries with the same keys
abbrev SameEntry : Entry → Entry → Type 0
SameEntry (a_row k v) (a_row l w) = k ≡ l
SameEntry (a_row k v) (a_bound l) = ⊥
SameEntry (a_bound k) (a_row l w) = ⊥
SameEntry (a_bound k) (a_bound l) = k ≡ l

abbrev Alike : List Entry → List Entry → Type 0
Alike [] [] = Unit {0}
Alike [] (y ∷ ys) = ⊥
Alike (x ∷ xs) [] = ⊥
Alike (x ∷ xs) (y ∷ ys) = SameEntry x y × Alike xs ys

same-entry : (x : Entry) → SameEntry x x
same-entry (a_row k v) = refl
same-entry (a_bound k) = refl

alike-self : (xs : List Entry) → Alike xs xs
alike-self [] = tt
alike-self (x ∷ xs) = (same-entry x, alike-self xs)

alike-append : (xs ys us vs : List Entry) → Alike xs us → Alike ys vs → Alike (xs ++ ys) (us ++ vs)
alike-append [] ys [] vs a b = b
alike-append [] ys (u ∷ us) vs a b = absurd a
alike-append (x ∷ xs) ys [] vs a b = absurd a
alike-append (x ∷ xs) ys (u ∷ us) vs a b = (a.0, alike-append xs ys us vs a.1 b)

alike-key : (x y : Entry) → SameEntry x y → key_in x ≡ key_in y
alike-key (a_row k v) (a_row l w) s = s
alike-key (a_row k v) (a_bound l) s = absurd s
alike-key (a_bound k) (a_row l w) s = absurd s
alike-key (a_bound k) (a_bound l) s = s

alike-above : (kind : KeyKind) (k : Key) (x y : Entry) → SameEntry x y → IsAbove kind k x → IsAbove kind k y
alike-above kind k (a_row l v) (a_row m w) s a = subst (λ z. IsAbove kind k (a_row z w)) s a
alike-above kind k (a_row l v) (a_bound m) s a = absurd s
alike-above kind k (a_bound l) (a_row m w) s a = absurd s
alike-above kind k (a_bound l) (a_bound m) s a = subst (λ z. IsAbove kind k (a_bound z)) s a

alike-all : (kind : KeyKind) (k : Key) (xs ys : List Entry) → Alike xs ys → AllByRecursion (λ f. IsAbove kind k f) xs → AllByRecursion (λ f. IsAbove kind k f) ys
alike-all kind k [] [] s a = tt
alike-all kind k [] (y ∷ ys) s a = absurd s
alike-all kind k (x ∷ xs) [] s a = absurd s
alike-all kind k (x ∷ xs) (y ∷ ys) s a = (alike-above kind k x y s.0 a.0, alike-all kind k xs ys s.1 a.1)

alike-ascend : (kind : KeyKind) (xs ys : List Entry) → Alike xs ys → AscendAll kind xs → AscendAll kind ys
alike-ascend kind [] [] s a = tt
alike-ascend kind [] (y ∷ ys) s a = absurd s
alike-ascend kind (x ∷ xs) [] s a = absurd s
alike-ascend kind (x ∷ xs) (y ∷ ys) s a =
    (subst (λ z. AllByRecursion (λ f. IsAbove kind z f) ys) (alike-key x y s.0) (alike-all kind (key_in x) xs ys s.1 a.0), alike-ascend kind xs ys s.1 a.1)

alike-value : (kind : KeyKind) (k : Key) (v : ℤ) (rows : List Row) → Alike (entries_in rows) (entries_in (with_value kind rows k v))
alike-value kind k v [] = tt
alike-value kind k v (r ∷ rs) = (by_test (same_keys kind k r.0), alike-value kind k v rs)
  where
    by_test : (c : Bool) → r.0 ≡ (cond c (r.0, v) r).0
    by_test true = refl
    by_test false = refl

mutual
  v-alike : (leaf : ℕ) (kind : KeyKind) (k : Key) (v : ℤ) (t : Shape) → Alike (entries_of t) (entries_of (valued leaf kind k v t))
  v-alike leaf kind k v (leaf_shape at rows) = by_test (at == leaf)
    where
      by_test : (c : Bool) → Alike (entries_in rows) (entries_in (cond c (with_value kind rows k v) rows))
      by_test true = alike-value kind k v rows
      by_test false = alike-self (entries_in rows)
  v-alike leaf kind k v (node_shape at below) = v-alike-all leaf kind k v below

  v-alike-all : (leaf : ℕ) (kind : KeyKind) (k : Key) (v : ℤ) (ts : Shapes) → Alike (entries_all ts) (entries_all (valued_all leaf kind k v ts))
  v-alike-all leaf kind k v (last_shape t) = v-alike leaf kind k v t
  v-alike-all leaf kind k v (more_shapes t key ts) =
      alike-append (entries_of t) (a_bound key ∷ entries_all ts) (entries_of (valued leaf kind k v t)) (a_bound key ∷ entries_all (valued_all leaf kind k v ts)) (v-alike leaf kind k v t) (refl, v-alike-all leaf kind k v ts)

-- each page says what the tree has there
mutual
  v-stands : (old new : ℕ → Option Body) (leaf : ℕ) (kind : KeyKind) (k : Key) (v : ℤ) (own : List Row) (t : Shape) → old leaf ≡ Some (leaf_body own) → new leaf ≡ Some (leaf_body (with_value kind own k v)) → ((x : ℕ) → x ≢ leaf → new x ≡ old x)
      → times leaf (met_by t) ≡ times leaf (leaves_of t) → Stands old t → Stands new (valued leaf kind k v t)
  v-stands old new leaf kind k v own (leaf_shape at rows) h n same m s = by_test (at == leaf) refl
    where
      by_test : (c : Bool) → (at == leaf) ≡ c → new at ≡ Some (leaf_body (cond c (with_value kind rows k v) rows))
      by_test true e =
          let r : own ≡ rows = some_rows own rows (sym h ∙ ap old (sym (eq_is at leaf e)) ∙ s) in
          ap new (eq_is at leaf e) ∙ n ∙ ap (λ z. Some (leaf_body (with_value kind z k v))) r
      by_test false e = same at (eq_off at leaf e) ∙ s
  v-stands old new leaf kind k v own (node_shape at below) h n same m s =
      let c = v-children leaf kind k v below in (
        same at (off (at == leaf) refl m) ∙ s.0 ∙ ap₂ (λ a b. Some (inner_body a b)) (sym c.0) (sym c.1),
        v-stands-all old new leaf kind k v own below h n same (omega (arith, m, times-leaves-all leaf below)) s.1,
      )
    where
      off : (c : Bool) → (at == leaf) ≡ c → cond c 1 0 + times leaf (met_by_all below) ≡ times leaf (leaves_all below) → at ≢ leaf
      off true e m = absurd (omega (arith, m, times-leaves-all leaf below))
      off false e m = eq_off at leaf e

  v-stands-all : (old new : ℕ → Option Body) (leaf : ℕ) (kind : KeyKind) (k : Key) (v : ℤ) (own : List Row) (ts : Shapes) → old leaf ≡ Some (leaf_body own) → new leaf ≡ Some (leaf_body (with_value kind own k v)) → ((x : ℕ) → x ≢ leaf → new x ≡ old x)
      → times leaf (met_by_all ts) ≡ times leaf (leaves_all ts) → StandAll old ts → StandAll new (valued_all leaf kind k v ts)
  v-stands-all old new leaf kind k v own (last_shape t) h n same m s = v-stands old new leaf kind k v own t h n same m s
  v-stands-all old new leaf kind k v own (more_shapes t key ts) h n same m s = (
    v-stands old new leaf kind k v own t h n same (omega (arith, m, times-leaves leaf t, times-leaves-all leaf ts, times-append leaf (met_by t) (met_by_all ts), times-append leaf (leaves_of t) (leaves_all ts))) s.0,
    v-stands-all old new leaf kind k v own ts h n same (omega (arith, m, times-leaves leaf t, times-leaves-all leaf ts, times-append leaf (met_by t) (met_by_all ts), times-append leaf (leaves_of t) (leaves_all ts))) s.1,
  )

le_yes : (a b : ℕ) → nat_le a b ≡ true → a ≤ b
le_yes a b e = grind (arith, e)

le_no : (a b : ℕ) → nat_le a b ≡ false → b < a
le_no a b e = grind (arith, e)

only_one : (x at : ℕ) → 1 ≤ times x (at ∷ []) → x ≡ at
only_one x at i = grind (arith, i)

-- the rows of any leaf ascend
mutual
  leaf-up : (bodies : ℕ → Option Body) (leaf : ℕ) (kind : KeyKind) (own : List Row) (t : Shape) → bodies leaf ≡ Some (leaf_body own) → Stands bodies t → 1 ≤ times leaf (leaves_of t) → AscendAll kind (entries_of t) → KeysAscend kind own
  leaf-up bodies leaf kind own (leaf_shape at rows) h s i a =
      let r : own ≡ rows = some_rows own rows (sym h ∙ ap bodies (only_one leaf at i) ∙ s) in
      subst (λ z. KeysAscend kind z) (sym r) (rows-ascend kind rows a)
  leaf-up bodies leaf kind own (node_shape at below) h s i a = leaf-up-all bodies leaf kind own below h s.1 i a

  leaf-up-all : (bodies : ℕ → Option Body) (leaf : ℕ) (kind : KeyKind) (own : List Row) (ts : Shapes) → bodies leaf ≡ Some (leaf_body own) → StandAll bodies ts → 1 ≤ times leaf (leaves_all ts) → AscendAll kind (entries_all ts) → KeysAscend kind own
  leaf-up-all bodies leaf kind own (last_shape t) h s i a = leaf-up bodies leaf kind own t h s i a
  leaf-up-all bodies leaf kind own (more_shapes t key ts) h s i a =
      by_test (nat_le 1 (times leaf (leaves_of t))) refl (λ m. leaf-up bodies leaf kind own t h s.0 m (ascends-left kind (entries_of t) (a_bound key ∷ entries_all ts) a))
      (λ m. leaf-up-all bodies leaf kind own ts h s.1 m (ascends-right kind (entries_of t) (a_bound key ∷ entries_all ts) a).1)
    where
      by_test : (c : Bool) → nat_le 1 (times leaf (leaves_of t)) ≡ c → (1 ≤ times leaf (leaves_of t) → KeysAscend kind own) → (1 ≤ times leaf (leaves_all ts) → KeysAscend kind own) → KeysAscend kind own
      by_test true e f g = f (le_yes 1 (times leaf (leaves_of t)) e)
      by_test false e f g = g (let m = le_no 1 (times leaf (leaves_of t)) e in omega (arith, i, m, times-append leaf (leaves_of t) (leaves_all ts)))

pub leaf-rows : (kind : KeyKind) (b reached : List ℕ) (t : Shape) (fs : List ℕ) (leaf : ℕ) → IsTree kind b reached t fs → 1 ≤ times leaf (leaves_of t)
    → (body_in kind (page_in b leaf) ≡ Some (leaf_body (rows_of (page_in b leaf)))) × KeysAscend kind (rows_of (page_in b leaf))
leaf-rows kind b reached t fs leaf tree i =
    let p : IsLeafPage kind (length b) (page_in b leaf) = leaf-any kind b reached t fs leaf tree.holds i in
    let says = says-leaf kind (page_in b leaf) (page-true kind (page_in b leaf) p.good) p.overflow in
    (says, leaf-up (state_of kind b).bodies leaf kind (rows_of (page_in b leaf)) t says tree.holds.built.stands i tree.holds.ascends)

-- where two streams have a tree of one shape, a leaf says the same in both
mutual
  leaf-same : (old new : ℕ → Option Body) (leaf : ℕ) (t : Shape) → Stands old t → Stands new t → 1 ≤ times leaf (leaves_of t) → new leaf ≡ old leaf
  leaf-same old new leaf (leaf_shape at rows) s n i = let e : leaf ≡ at = only_one leaf at i in ap new e ∙ n ∙ sym s ∙ ap old (sym e)
  leaf-same old new leaf (node_shape at below) s n i = leaf-same-all old new leaf below s.1 n.1 i

  leaf-same-all : (old new : ℕ → Option Body) (leaf : ℕ) (ts : Shapes) → StandAll old ts → StandAll new ts → 1 ≤ times leaf (leaves_all ts) → new leaf ≡ old leaf
  leaf-same-all old new leaf (last_shape t) s n i = leaf-same old new leaf t s n i
  leaf-same-all old new leaf (more_shapes t key ts) s n i = by_test (nat_le 1 (times leaf (leaves_of t))) refl (λ m. leaf-same old new leaf t s.0 n.0 m) (λ m. leaf-same-all old new leaf ts s.1 n.1 m)
    where
      by_test : (c : Bool) → nat_le 1 (times leaf (leaves_of t)) ≡ c → (1 ≤ times leaf (leaves_of t) → new leaf ≡ old leaf) → (1 ≤ times leaf (leaves_all ts) → new leaf ≡ old leaf) → new leaf ≡ old leaf
      by_test true e f g = f (le_yes 1 (times leaf (leaves_of t)) e)
      by_test false e f g = g (let m = le_no 1 (times leaf (leaves_of t)) e in omega (arith, i, m, times-append leaf (leaves_of t) (leaves_all ts)))

pub leaf-stays : (kind : KeyKind) (b c r s : List ℕ) (t : Shape) (fs gs : List ℕ) (leaf : ℕ) → IsTree kind b r t fs → IsTree kind c s t gs → 1 ≤ times leaf (leaves_of t) → rows_of (page_in c leaf) ≡ rows_of (page_in b leaf)
leaf-stays kind b c r s t fs gs leaf old new i =
    some_rows (rows_of (page_in c leaf)) (rows_of (page_in b leaf))
    (sym (leaf-rows kind c s t gs leaf new i).0 ∙ leaf-same (state_of kind b).bodies (state_of kind c).bodies leaf t old.holds.built.stands new.holds.built.stands i ∙ (leaf-rows kind b r t fs leaf old i).0)

module _ (kind : KeyKind) (b c : List ℕ) (reached : List ℕ) (t : Shape) (fs : List ℕ) (leaf : ℕ) (k : Key) (v : ℤ) (tree : IsTree kind b reached t fs) (i : 1 ≤ times leaf (leaves_of t)) (old : ℤ) (has : assoc kind (rows_of (page_in b leaf)) k ≡ Some old) (set : IsValued kind b c leaf k v) where
  here : (body_in kind (page_in b leaf) ≡ Some (leaf_body (rows_of (page_in b leaf)))) × KeysAscend kind (rows_of (page_in b leaf))
  here = leaf-rows kind b reached t fs leaf tree i

  once : times leaf (met_by t) + times leaf reached + times leaf fs ≤ 1
  once = met-once (state_of kind b) reached t fs tree.holds.built leaf

  off : (x : ℕ) (xs : List ℕ) → 1 ≤ times x xs → times leaf xs ≡ 0 → x ≢ leaf
  off x xs m z = λ e. let n : 1 ≤ times leaf xs = subst (λ w. 1 ≤ times w xs) e m in omega (arith, n, z)

  links : (x : ℕ) → neighbours_in (page_in c x) ≡ neighbours_in (page_in b x)
  links x = by_test (x == leaf) refl
    where
      by_test : (z : Bool) → (x == leaf) ≡ z → neighbours_in (page_in c x) ≡ neighbours_in (page_in b x)
      by_test true e = subst (λ w. neighbours_in (page_in c w) ≡ neighbours_in (page_in b w)) (sym (eq_is x leaf e)) set.links
      by_test false e = ap neighbours_in (set.others x (eq_off x leaf e))

  counted : keyed kind k (tree_rows t) ≡ times leaf (leaves_of t)
  counted = omega (arith, i, keyed-most kind k (tree_rows t) (rows-up kind b reached t fs tree), v-keyed (state_of kind b).bodies leaf kind k (rows_of (page_in b leaf)) t here.0 (keyed-some kind k old (rows_of (page_in b leaf)) has) tree.holds.built.stands)

  pub rows-now : tree_rows (valued leaf kind k v t) ≡ with_value kind (tree_rows t) k v
  rows-now = v-rows (state_of kind b).bodies leaf kind k v (rows_of (page_in b leaf)) t here.0 (keyed-some kind k old (rows_of (page_in b leaf)) has) tree.holds.built.stands counted

  pub tree-now : IsTree kind c reached (valued leaf kind k v t) fs
  tree-now = record {
    header = subst (λ h. IsTreeHeader kind (length c) h) (sym set.header) (subst (λ n. IsTreeHeader kind n (header_in b)) (sym set.size) tree.header);
    holds = record {
      built = record {
        root = v-place leaf kind k v t ∙ tree.holds.built.root ∙ sym (ap (λ (h : Header). place_of h.root_pointer) set.header);
        stands = v-stands (state_of kind b).bodies (state_of kind c).bodies leaf kind k v (rows_of (page_in b leaf)) t here.0 (set.body here.1) (λ x n. ap (body_in kind) (set.others x n)) (omega (arith, once, i, times-leaves leaf t)) tree.holds.built.stands;
        deep = v-deep leaf kind k v (state_of kind c).levels t (subst (λ m. IsDeep m t) (sym (ap (λ (h : Header). h.levels - 1) set.header)) tree.holds.built.deep);
        chain = subst (λ z. FreeFrom (state_of kind c).frees z fs) (sym (ap (λ (h : Header). place_of h.free_pointer) set.header))
            (same-free (state_of kind b).frees (state_of kind c).frees (state_of kind b).free fs (λ x m. ap free_in (set.others x (off x fs m (omega (arith, once, i, times-leaves leaf t))))) tree.holds.built.chain);
        once = λ x. let m : times x (met_by (valued leaf kind k v t)) ≡ times x (met_by t) = ap (times x) (v-met leaf kind k v t) in omega (arith, tree.holds.built.once x, m, same_held x (length c) (length b) set.size);
      };
      ascends = alike-ascend kind (entries_of t) (entries_of (valued leaf kind k v t)) (v-alike leaf kind k v t) tree.holds.ascends;
      linked = subst (λ l. Linked (state_of kind c).links 0 l 0) (sym (v-leaves leaf kind k v t)) (same-links (state_of kind b).links (state_of kind c).links 0 (leaves_of t) 0 (λ x m. links x) tree.holds.linked);
    };
  }

  pub same-now : SamePages reached b c
  same-now x m = set.others x (off x reached m (omega (arith, once, i, times-leaves leaf t)))

-- the row of the key has its new value in a whole tree
pub whole-now : (kind : KeyKind) (b c : List ℕ) (t : Shape) (front back : List Row) (k l : Key) (old v : ℤ) (leaf : ℕ) → length b % 1024 ≡ 0 → Stored kind b t (front ++ ((l, v) ∷ back)) → tree_rows t ≡ front ++ ((l, old) ∷ back) → same_keys kind k l ≡ true → 1 ≤ times leaf (leaves_of t)
    → assoc kind (rows_of (page_in b leaf)) k ≡ Some old → IsValued kind b c leaf k v
    → IsWholeTree kind c × (rows_in kind c ≡ front ++ ((l, v) ∷ back)) × SameNumbers b c (front ++ ((l, v) ∷ back))
whole-now kind b c t front back k l old v leaf wb s e same i has set = (
  record {
    whole = wc;
    reached = s.reached;
    shape = valued leaf kind k v t;
    free = s.free;
    tree = tree;
    values = subst (λ z. AreReached c z s.reached) (sym rows) kept.0.values;
    mean = subst (λ z. AllMean c z) (sym rows) kept.0.mean;
  },
  rows,
  kept.1,
)
  where
    wc : length c % 1024 ≡ 0
    wc = ap (λ n. n % 1024) set.size ∙ wb

    tree : IsTree kind c s.reached (valued leaf kind k v t) s.free
    tree = tree-now kind b c s.reached t s.free leaf k v s.tree i old has set

    most : keyed kind k (front ++ ((l, old) ∷ back)) ≤ 1
    most = subst (λ z. keyed kind k z ≤ 1) e (keyed-most kind k (tree_rows t) (rows-up kind b s.reached t s.free s.tree))

    rows : rows_in kind c ≡ front ++ ((l, v) ∷ back)
    rows =
        sym (rows_those kind c s.reached (valued leaf kind k v t) s.free tree) ∙ rows-now kind b c s.reached t s.free leaf k v s.tree i old has set
        ∙ ap (λ z. with_value kind z k v) e ∙ value-row kind k l old v front back same most

    kept : Reaches c (front ++ ((l, v) ∷ back)) s.reached × SameNumbers b c (front ++ ((l, v) ∷ back))
    kept = reaches-same b c (front ++ ((l, v) ∷ back)) s.reached (record { whole = wb; values = s.values; mean = s.mean }) wc (same-now kind b c s.reached t s.free leaf k v s.tree i old has set)
