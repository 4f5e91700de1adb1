-- A row that is taken out of the rows of an attribute directory.
use Rattle.std.proofs.Common.{◌≡◌, inl, inr, ◌≤◌, ◌^◌, ◌∙◌, ℕ, ℤ, List, [], ◌∷◌, ◌++◌, Bool, true, false, cond, Some, None, refl, sym, ap, subst, arith, map}
use Rattle.std.specs.Prelude.{IsSome}
use Rattle.std.specs.FinMap.{find}
use Rattle.std.specs.List.{filter, AllByRecursion}
use Rattle.std.specs.Ordering.{eq_by_cmp}
use Rattle.std.proofs.lemmas.Slice.Eq.{bytes_eq-Decides}
use Rattle.bfs_base.specs.Keys.{text_cmp}
use Rattle.bfs_base.specs.declared.kind.KeyKind.TheVariants.{Text}
use Rattle.bfs_node.specs.Page.{Row}
use Rattle.bfs_pages.specs.Maps.{assoc, without}
use Rattle.bfs_pages.specs.Order.{Key, comes_before, same_keys}
use Rattle.bfs_pages.specs.Ways.{KeysAscend}
use Rattle.bfs_pages.proofs.KeyOrder.{less_not_same, same_before}
use Rattle.bfs_tree.specs.Trees.{Attribute}
use Rattle.bfs_values.specs.Reached.{IsWholeTree}
use Rattle.bfs_values.specs.Rows.{rows_in}
use Rattle.bfs_values.proofs.RowLists.{rows-up}
use Rattle.bfs_values.proofs.Rows.{rows_those}
use Rattle.bfs_maps.specs.NumberTrees.{IsNumber}
use Rattle.bfs_sound.specs.Attributes.{Named}
use Rattle.bfs_sound.specs.Inodes.{is_proper, id_of}
use Rattle.bfs_sound.specs.Owners.{In}
use Rattle.bfs_attr.specs.Directories.{AreInodes, IsInodeRow}
use Rattle.bfs_attr.specs.Laws.{HasNone}
use Rattle.bfs_attr.proofs.Finds.{same_test}

pub rows_ascend : (bytes : List ℕ) → IsWholeTree Text bytes → KeysAscend Text (rows_in Text bytes)
rows_ascend bytes t = subst (λ (l : List Row). KeysAscend Text l) (rows_those Text bytes t.reached t.shape t.free t.tree) (rows-up Text bytes t.reached t.shape t.free t.tree)

-- no row has a key below all of them
none_below : (k : Key) (rows : List Row) → AllByRecursion (λ s. comes_before Text k s.0 ≡ true) rows → without Text rows k ≡ rows
none_below k [] a = refl
none_below k (r ∷ rs) a = ap (λ c. cond c (without Text rs k) (r ∷ without Text rs k)) (less_not_same Text k r.0 a.0) ∙ ap (λ l. r ∷ l) (none_below k rs a.1)

-- where the row of a name stands, and what is left without it
pub row_split : (rows : List Row) (k : Key) (v : ℤ) → KeysAscend Text rows → assoc Text rows k ≡ Some v
    → (front : List Row) × (back : List Row) × (rows ≡ front ++ ((k, v) ∷ back)) × (without Text rows k ≡ front ++ back)
row_split [] k v up e = let bad : None ≡ Some v = e in cc
row_split (r ∷ rs) k v up e = by_test (same_keys Text k r.0) refl e (λ h. row_split rs k v up.1 h)
  where
    all_above : same_keys Text k r.0 ≡ true → (xs : List Row) → AllByRecursion (λ s. comes_before Text r.0 s.0 ≡ true) xs → AllByRecursion (λ s. comes_before Text k s.0 ≡ true) xs
    all_above h [] a = tt
    all_above h (x ∷ xs) a = (same_before Text k r.0 x.0 h ∙ a.0, all_above h xs a.1)

    this : same_keys Text k r.0 ≡ true → Some r.1 ≡ Some v → r ≡ (k, v)
    this h e =
        let name : r.0 ≡ k = (bytes_eq-Decides r.0 k).0 (sym (same_test k r.0) ∙ h) in
        let value : r.1 ≡ v = cc in
        λ i. (name i, value i)

    by_test : (c : Bool) → same_keys Text k r.0 ≡ c → cond c (Some r.1) (assoc Text rs k) ≡ Some v
        → (assoc Text rs k ≡ Some v → (front : List Row) × (back : List Row) × (rs ≡ front ++ ((k, v) ∷ back)) × (without Text rs k ≡ front ++ back))
        → (front : List Row) × (back : List Row) × (r ∷ rs ≡ front ++ ((k, v) ∷ back)) × (cond c (without Text rs k) (r ∷ without Text rs k) ≡ front ++ back)
    by_test true h e rest = ([], rs, ap (λ (x : Row). x ∷ rs) (this h e), none_below k rs (all_above h rs up.0))
    by_test false h e rest = let i = rest e in (r ∷ i.0, i.1, ap (λ l. r ∷ l) i.2, ap (λ l. r ∷ l) i.3)

-- members of a list with one more
pub in_wider : (f : Row → ℕ) (xs ys : List Row) (x : Row) (k : ℕ) → In k (map f (xs ++ ys)) → In k (map f (xs ++ (x ∷ ys)))
in_wider f [] ys x k is = inr is
in_wider f (y ∷ xs) ys x k (inl e) = inl e
in_wider f (y ∷ xs) ys x k (inr is) = inr (in_wider f xs ys x k is)

pub in_middle : (f : Row → ℕ) (xs ys : List Row) (x : Row) → In (f x) (map f (xs ++ (x ∷ ys)))
in_middle f [] ys x = inl refl
in_middle f (y ∷ xs) ys x = inr (in_middle f xs ys x)

-- what stands among others is found
pub found_among : (x : Named) (xs ys : List Named) → IsSome (find text_cmp x.0 (xs ++ (x ∷ ys)))
found_among x [] ys = subst (λ (b : Bool). IsSome (cond b (Some x.1) (find text_cmp x.0 ys))) (sym (same_test x.0 x.0 ∙ (bytes_eq-Decides x.0 x.0).1 refl)) refl
found_among x (y ∷ xs) ys = by_test (eq_by_cmp text_cmp x.0 y.0) (found_among x xs ys)
  where
    by_test : (b : Bool) → IsSome (find text_cmp x.0 (xs ++ (x ∷ ys))) → IsSome (cond b (Some y.1) (find text_cmp x.0 (xs ++ (x ∷ ys))))
    by_test true rest = refl
    by_test false rest = rest

module _ (name : List ℕ) (proper : is_proper name ≡ true) where
  abbrev is_row : Row → Bool
  is_row r = is_proper r.0

  same_name : (r : Row) → eq_by_cmp text_cmp name r.0 ≡ true → r.0 ≡ name
  same_name r e = (bytes_eq-Decides r.0 name).0 (sym (same_test name r.0) ∙ e)

  -- a row of the name has a number
  pub number_named : (blocks : ℕ) → blocks ≤ 2 ^ 62 → (rows : List Row) → AreInodes blocks rows → (value : ℤ) → assoc Text rows name ≡ Some value → IsNumber value
  number_named blocks few [] all value e = absurd (let bad : None ≡ Some value = e in cc)
  number_named blocks few (r ∷ rs) all value e = by_test (eq_by_cmp text_cmp name r.0) refl (is_proper r.0) refl all e (λ more h. number_named blocks few rs more value h)
    where
      by_test : (b : Bool) → eq_by_cmp text_cmp name r.0 ≡ b → (p : Bool) → is_proper r.0 ≡ p → AllByRecursion (IsInodeRow blocks) (cond p (r ∷ filter is_row rs) (filter is_row rs))
          → cond b (Some r.1) (assoc Text rs name) ≡ Some value → (AreInodes blocks rs → assoc Text rs name ≡ Some value → IsNumber value) → IsNumber value
      by_test true same true is all e rest =
          let low = all.0.1 in
          let at : r.1 ≡ value = cc in subst IsNumber at (id_of r, all.0.0, omega (arith, low, few))
      by_test true same false is all e rest = let bad : false ≡ true = sym is ∙ ap is_proper (same_name r same) ∙ proper in cc
      by_test false same true is all e rest = rest all.1 e
      by_test false same false is all e rest = rest all e

  -- no attribute has a name that no row has
  pub none_behind : (entry : Row → Attribute) (rows : List Row) → assoc Text rows name ≡ None → HasNone (map {B = Named} (λ r. (r.0, entry r)) (filter is_row rows)) name
  none_behind entry [] e = tt
  none_behind entry (r ∷ rs) e = by_test (eq_by_cmp text_cmp name r.0) refl e (is_proper r.0) (none_behind entry rs)
    where
      by_test : (b : Bool) → eq_by_cmp text_cmp name r.0 ≡ b → cond b (Some r.1) (assoc Text rs name) ≡ None → (p : Bool) → (assoc Text rs name ≡ None → HasNone (map {B = Named} (λ r. (r.0, entry r)) (filter is_row rs)) name)
          → HasNone (map {B = Named} (λ r. (r.0, entry r)) (cond p (r ∷ filter is_row rs) (filter is_row rs))) name
      by_test true same e p rest = let bad : Some r.1 ≡ None = e in cc
      by_test false same e true rest = (sym (same_test name r.0) ∙ same, rest e)
      by_test false same e false rest = rest e
