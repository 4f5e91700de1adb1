-- The attribute of a name, among the items of small data and among the rows of the attribute directory.
use Rattle.std.proofs.Common.{◌≡◌, ◌⊎◌, inl, inr, ◌≤◌, ◌+◌, ℕ, List, [], ◌∷◌, ◌++◌, Bool, true, false, cond, length, get_or, ◌<◌, Option, Some, None, refl, sym, ◌∙◌, ap, subst, arith, map}
use Rattle.std.specs.Prelude.{not, ◌&&◌, count_by}
use Rattle.std.specs.FinMap.{find}
use Rattle.std.specs.List.{filter}
use Rattle.std.specs.Option.{option_map}
use Rattle.std.specs.Ordering.{eq_by_cmp, is_lt, is_eq, ordering_reverse}
use Rattle.std.specs.declared.cmp.Ordering.{Ordering}
use Rattle.std.specs.declared.cmp.Ordering.TheVariants.{Less, Equal, Greater}
use Rattle.std.specs.Cmp.{eq_by_cmp_equiv}
use Rattle.std.specs.Cmp.Lexicographic.{nat_list_cmp_total}
use Rattle.std.specs.Str.{bytes_eq}
use Rattle.std.proofs.lemmas.Bool.{cases_Bool, cond-true, cond-false}
use Rattle.std.proofs.lemmas.List.Sums.{sum_by-cons}
use Rattle.std.proofs.lemmas.Map.Text.{is_eq-slice_cmp}
use Rattle.bfs_base.specs.Keys.{text_cmp}
use Rattle.bfs_base.specs.declared.kind.KeyKind.TheVariants.{Text}
use Rattle.bfs_node.specs.Page.{Row}
use Rattle.bfs_pages.specs.Order.{at_most}
use Rattle.bfs_range.specs.Ranges.{is_from, is_upto, rows_between}
use Rattle.bfs_smalldata.specs.Items.{Item}
use Rattle.bfs_smalldata.specs.Edits.{named}
use Rattle.bfs_smalldata.proofs.Naming.{not_named, named_first, named_later}
use Rattle.bfs_tree.specs.Trees.{Attribute}
use Rattle.bfs_sound.specs.Volumes.{Volume}
use Rattle.bfs_sound.specs.Attributes.{Named, is_name_item, attributes_in, attribute_at}
use Rattle.bfs_sound.specs.Inodes.{is_proper, id_of}
use Rattle.bfs_sound.specs.Owners.{In}
use Rattle.bfs_attr.specs.Directories.{inode_rows, AreBelow}
use Rattle.bfs_attr.specs.SmallData.{attribute_in}
use Rattle.bfs_attr.specs.declared.directory.InodeRow.{InodeRow}

-- the order's test of two names is that of their bytes
pub same_test : (name other : List ℕ) → eq_by_cmp text_cmp name other ≡ bytes_eq other name
same_test name other = (eq_by_cmp_equiv nat_list_cmp_total).symm name other ∙ is_eq-slice_cmp other name

-- an item as an attribute with its name
abbrev pub entry : Item → Named
entry item = (item.name, record { code = item.kind; bytes = item.bytes })

pub no_more : (name : List ℕ) (items : List Item) → count_by (λ item. bytes_eq item.name name) items ≤ 0 → named name items ≡ None
no_more name [] few = refl
no_more name (x ∷ xs) few = by_test (bytes_eq x.name name) (subst (λ (k : ℕ). k ≤ 0) (sum_by-cons (λ (i : Item). cond (bytes_eq i.name name) 1 0) x xs) few) (no_more name xs)
  where
    by_test : (b : Bool) → cond b 1 0 + count_by (λ item. bytes_eq item.name name) xs ≤ 0 → (count_by (λ item. bytes_eq item.name name) xs ≤ 0 → named name xs ≡ None) → cond b (Some x) (named name xs) ≡ None
    by_test true few rest = absurd (omega (arith, few))
    by_test false few rest = rest (omega (arith, few))

module _ (name : List ℕ) (more : List Named) where
  -- what isn't the attribute of the name is passed over
  pass : (b : Bool) (x : Item) (xs : List Item) → bytes_eq x.name name ≡ false
      → find text_cmp name (map entry (cond b (x ∷ filter (λ item. not (is_name_item item)) xs) (filter (λ item. not (is_name_item item)) xs)) ++ more)
      ≡ find text_cmp name (attributes_in xs ++ more)
  pass true x xs other =
      cond-false (eq_by_cmp text_cmp name x.name) (Some (attribute_in x)) (find text_cmp name (attributes_in xs ++ more)) (same_test name x.name ∙ other)
  pass false x xs other = refl

  pub small_none : (items : List Item) → named name items ≡ None → find text_cmp name (attributes_in items ++ more) ≡ find text_cmp name more
  small_none [] e = refl
  small_none (x ∷ xs) e =
      let parts = not_named name x xs e in
      pass (not (is_name_item x)) x xs parts.0 ∙ small_none xs parts.1

  pub small_there : (items : List Item) (item : Item) → named name items ≡ Some item → is_name_item item ≡ false → find text_cmp name (attributes_in items ++ more) ≡ Some (attribute_in item)
  small_there [] item e own = let bad : None ≡ Some item = e in cc
  small_there (x ∷ xs) item e own = by_name (cases_Bool (bytes_eq x.name name)) (small_there xs item)
    where
      here : (b : Bool) → b ≡ false → bytes_eq x.name name ≡ true → find text_cmp name (map entry (cond (not b) (x ∷ filter (λ item. not (is_name_item item)) xs) (filter (λ item. not (is_name_item item)) xs)) ++ more) ≡ Some (attribute_in x)
      here true h same = let bad : true ≡ false = h in cc
      here false h same = cond-true (eq_by_cmp text_cmp name x.name) (Some (attribute_in x)) (find text_cmp name (attributes_in xs ++ more)) (same_test name x.name ∙ same)

      by_name : (bytes_eq x.name name ≡ true) ⊎ (bytes_eq x.name name ≡ false) → (named name xs ≡ Some item → is_name_item item ≡ false → find text_cmp name (attributes_in xs ++ more) ≡ Some (attribute_in item)) → find text_cmp name (attributes_in (x ∷ xs) ++ more) ≡ Some (attribute_in item)
      by_name (inl same) rest =
          let is : x ≡ item = let h : Some x ≡ Some item = sym (named_first name x xs same) ∙ e in cc in
          here (is_name_item x) (ap is_name_item is ∙ own) same ∙ ap (λ (i : Item). Some (attribute_in i)) is
      by_name (inr other) rest = pass (not (is_name_item x)) x xs other ∙ rest (sym (named_later name x xs other) ∙ e) own

  pub small_own : (items : List Item) (item : Item) → count_by (λ item. bytes_eq item.name name) items ≤ 1 → named name items ≡ Some item → is_name_item item ≡ true → find text_cmp name (attributes_in items ++ more) ≡ find text_cmp name more
  small_own [] item few e own = refl
  small_own (x ∷ xs) item few e own = by_name (cases_Bool (bytes_eq x.name name)) (subst (λ (k : ℕ). k ≤ 1) (sum_by-cons (λ (i : Item). cond (bytes_eq i.name name) 1 0) x xs) few) (small_own xs item)
    where
      here : (b : Bool) → b ≡ true → find text_cmp name (map entry (cond (not b) (x ∷ filter (λ item. not (is_name_item item)) xs) (filter (λ item. not (is_name_item item)) xs)) ++ more) ≡ find text_cmp name (attributes_in xs ++ more)
      here true h = refl
      here false h = let bad : false ≡ true = h in cc

      less : (b : Bool) (n : ℕ) → b ≡ true → cond b 1 0 + n ≤ 1 → n ≤ 0
      less true n h k = omega (arith, k)
      less false n h k = let bad : false ≡ true = h in cc

      rest_few : (b : Bool) (n : ℕ) → cond b 1 0 + n ≤ 1 → n ≤ 1
      rest_few true n k = omega (arith, k)
      rest_few false n k = omega (arith, k)

      by_name : (bytes_eq x.name name ≡ true) ⊎ (bytes_eq x.name name ≡ false) → cond (bytes_eq x.name name) 1 0 + count_by (λ item. bytes_eq item.name name) xs ≤ 1 → (count_by (λ item. bytes_eq item.name name) xs ≤ 1 → named name xs ≡ Some item → is_name_item item ≡ true → find text_cmp name (attributes_in xs ++ more) ≡ find text_cmp name more) → find text_cmp name (attributes_in (x ∷ xs) ++ more) ≡ find text_cmp name more
      by_name (inl same) few rest =
          let is : x ≡ item = let h : Some x ≡ Some item = sym (named_first name x xs same) ∙ e in cc in
          here (is_name_item x) (ap is_name_item is ∙ own)
          ∙ small_none xs (no_more name xs (less (bytes_eq x.name name) (count_by (λ item. bytes_eq item.name name) xs) same few))
      by_name (inr other) few rest = pass (not (is_name_item x)) x xs other
          ∙ rest (rest_few (bytes_eq x.name name) (count_by (λ item. bytes_eq item.name name) xs) few) (sym (named_later name x xs other) ∙ e) own

-- two names of which neither is above the other are the same
both_most : (a b : List ℕ) → (at_most Text a b && at_most Text b a) ≡ eq_by_cmp text_cmp a b
both_most a b = ap (λ o. cond (is_lt o) false true && cond (is_lt (text_cmp a b)) false true) (nat_list_cmp_total.antisymm b a) ∙ by_order (text_cmp a b)
  where
    by_order : (o : Ordering) → (cond (is_lt (ordering_reverse o)) false true && cond (is_lt o) false true) ≡ is_eq o
    by_order Less = refl
    by_order Equal = refl
    by_order Greater = refl

-- the first of these
abbrev pub first_of : List InodeRow → Option InodeRow
first_of [] = None
first_of (r ∷ rs) = Some r

pub first_none : (rows : List InodeRow) → length rows ≡ 0 → first_of rows ≡ None
first_none [] e = refl
first_none (r ∷ rs) e = absurd (omega (arith, e))

pub first_is : (rows : List InodeRow) (x : InodeRow) → (length rows ≡ 0 → ⊥) → x ≡ get_or rows 0 x → first_of rows ≡ Some x
first_is [] x some e = absurd (some refl)
first_is (r ∷ rs) x some e = ap (λ (y : InodeRow). Some y) (sym e)

pub first_below : (blocks : ℕ) (rows : List InodeRow) (x : InodeRow) → AreBelow blocks rows → (length rows ≡ 0 → ⊥) → x ≡ get_or rows 0 x → x.id < blocks
first_below blocks [] x all some e = absurd (some refl)
first_below blocks (r ∷ rs) x all some e = subst (λ (y : InodeRow). y.id < blocks) (sym e) all.0

-- the first of some rows is one of all
pub first_in : (p q : Row → Bool) (rows : List Row) (x : InodeRow) → first_of (map (λ row. record { name = row.0; id = id_of row }) (filter p (filter q rows))) ≡ Some x → In x.id (map id_of (filter p rows))
first_in p q [] x e = let bad : None ≡ Some x = e in cc
first_in p q (r ∷ rs) x e = by_test (q r) (p r) refl e (first_in p q rs x)
  where
    skip : (b : Bool) → In x.id (map id_of (filter p rs)) → In x.id (map id_of (cond b (r ∷ filter p rs) (filter p rs)))
    skip true h = inr h
    skip false h = h

    here : (b : Bool) → first_of (map (λ row. record { name = row.0; id = id_of row }) (cond b (r ∷ filter p (filter q rs)) (filter p (filter q rs)))) ≡ Some x → (first_of (map (λ row. record { name = row.0; id = id_of row }) (filter p (filter q rs))) ≡ Some x → In x.id (map id_of (filter p rs))) → In x.id (map id_of (cond b (r ∷ filter p rs) (filter p rs)))
    here true e rest = inl (ap (λ (y : InodeRow). y.id) (let h : Some (record { name = r.0; id = id_of r }) ≡ Some x = e in let f : InodeRow = record { name = r.0; id = id_of r } in let k : x ≡ f = cc in k))
    here false e rest = rest e

    by_test : (t b : Bool) → p r ≡ b → first_of (map (λ row. record { name = row.0; id = id_of row }) (filter p (cond t (r ∷ filter q rs) (filter q rs)))) ≡ Some x → (first_of (map (λ row. record { name = row.0; id = id_of row }) (filter p (filter q rs))) ≡ Some x → In x.id (map id_of (filter p rs))) → In x.id (map id_of (filter p (r ∷ rs)))
    by_test true b same e rest = here (p r) e rest
    by_test false b same e rest = skip (p r) (rest e)

module _ (v : Volume) (name : List ℕ) where
  abbrev row_entry : Row → Named
  row_entry row = (row.0, attribute_at v (id_of row))

  abbrev of_first : List InodeRow → Option Attribute
  of_first rows = option_map (λ row. attribute_at v row.id) (first_of rows)

  -- among the rows of a directory the attribute of a name is that of the first row in the range of this one name
  pub behind_is : (rows : List Row) → of_first (inode_rows (rows_between Text (Some name) (Some name) rows)) ≡ find text_cmp name (map row_entry (filter (λ row. is_proper row.0) rows))
  behind_is [] = refl
  behind_is (r ∷ rs) = left (is_from Text (Some name) r.0 && is_upto Text (Some name) r.0) (is_proper r.0) ∙ both (is_from Text (Some name) r.0 && is_upto Text (Some name) r.0) (eq_by_cmp text_cmp name r.0) (is_proper r.0) (both_most name r.0) (behind_is rs) ∙ sym (right (is_proper r.0))
    where
      left : (b p : Bool) → of_first (inode_rows (cond b (r ∷ rows_between Text (Some name) (Some name) rs) (rows_between Text (Some name) (Some name) rs))) ≡ cond b (of_first (map (λ row. record { name = row.0; id = id_of row }) (cond (is_proper r.0) (r ∷ filter (λ row. is_proper row.0) (rows_between Text (Some name) (Some name) rs)) (filter (λ row. is_proper row.0) (rows_between Text (Some name) (Some name) rs))))) (of_first (inode_rows (rows_between Text (Some name) (Some name) rs)))
      left true p = refl
      left false p = refl

      right : (p : Bool) → find text_cmp name (map row_entry (cond p (r ∷ filter (λ row. is_proper row.0) rs) (filter (λ row. is_proper row.0) rs))) ≡ cond p (cond (eq_by_cmp text_cmp name r.0) (Some (attribute_at v (id_of r))) (find text_cmp name (map row_entry (filter (λ row. is_proper row.0) rs)))) (find text_cmp name (map row_entry (filter (λ row. is_proper row.0) rs)))
      right true = refl
      right false = refl

      both : (b t p : Bool) → b ≡ t → of_first (inode_rows (rows_between Text (Some name) (Some name) rs)) ≡ find text_cmp name (map row_entry (filter (λ row. is_proper row.0) rs))
          → cond b (of_first (map (λ row. record { name = row.0; id = id_of row }) (cond p (r ∷ filter (λ row. is_proper row.0) (rows_between Text (Some name) (Some name) rs)) (filter (λ row. is_proper row.0) (rows_between Text (Some name) (Some name) rs))))) (of_first (inode_rows (rows_between Text (Some name) (Some name) rs)))
          ≡ cond p (cond t (Some (attribute_at v (id_of r))) (find text_cmp name (map row_entry (filter (λ row. is_proper row.0) rs)))) (find text_cmp name (map row_entry (filter (λ row. is_proper row.0) rs)))
      both true true true e rest = refl
      both true true false e rest = rest
      both false false true e rest = rest
      both false false false e rest = rest
      both true false p e rest = let bad : true ≡ false = e in cc
      both false true p e rest = let bad : false ≡ true = e in cc
