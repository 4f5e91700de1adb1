-- Names among the attributes of a node: items, and rows.
use Rattle.std.proofs.Common.{◌≡◌, ◌∙◌, ◌≤◌, ◌+◌, ◌⊎◌, inl, inr, ℕ, ℤ, zero, suc, List, [], ◌∷◌, ◌++◌, map, filter, Bool, true, false, cond, Option, Some, None, refl, sym, ap, subst, arith}
use Rattle.std.specs.Prelude.{count_by, not}
use Rattle.std.specs.List.{AllByRecursion}
use Rattle.std.specs.Str.{bytes_eq}
use Rattle.std.proofs.lemmas.List.Sums.{sum_by-cons, sum_by-append}
use Rattle.std.proofs.lemmas.Slice.Eq.{bytes_eq-Decides}
use Rattle.bfs_base.specs.declared.kind.KeyKind.TheVariants.{Text}
use Rattle.bfs_node.specs.Page.{Row}
use Rattle.bfs_pages.specs.Order.{comes_before, same_keys}
use Rattle.bfs_pages.specs.Ways.{KeysAscend}
use Rattle.bfs_pages.proofs.KeyOrder.{same_itself, greater_not_same}
use Rattle.bfs_smalldata.specs.Items.{Item, items_of}
use Rattle.bfs_smalldata.specs.Edits.{AreDistinct}
use Rattle.bfs_smalldata.proofs.Naming.{named_first, named_later}
use Rattle.bfs_sound.specs.Volumes.{Volume}
use Rattle.bfs_sound.specs.Attributes.{Named, is_name_item, attributes_in, attribute_at, attribute_directory, HasDirectory}
use Rattle.bfs_sound.specs.Inodes.{id_of, content, is_proper, rows_of}
use Rattle.bfs_sound.specs.Nodes.{AreApart}
use Rattle.bfs_sound.specs.Owners.{In}
use Rattle.bfs_values.specs.Rows.{rows_in}
use Rattle.bfs_finding.proofs.Rows.{tree_ascends, ascend_kept}
use Rattle.bfs_finding.specs.NodeFaults.{area_of, IsAttributeFault}
use Rattle.bfs_finding.specs.Ways.{IsReached}
use Rattle.bfs_nodes_walk.specs.Walks.{HasAttributes}
use Rattle.bfs_nodes_walk.specs.Attributes.{HasItem}
use Rattle.bfs_nodes_walk.proofs.Repeats.{one, times_in, cons_in}

abbrev pub times_of : List ℕ → List Named → ℕ
times_of name entries = count_by (λ (e : Named). bytes_eq e.0 name) entries

abbrev entry : Item → Named
entry item = (item.name, record { code = item.kind; bytes = item.bytes })

abbrev kept : List Item → List Item
kept xs = filter (λ item. not (is_name_item item)) xs

abbrev entries_by : Bool → Item → List Item → List Named
entries_by c x xs = map entry (cond (not c) (x ∷ kept xs) (kept xs))

module _ (name : List ℕ) where
  more_entries : (c : Bool) (x : Item) (xs : List Item) → times_of name (entries_by c x xs) ≡ cond (not c) (one (bytes_eq x.name name)) 0 + times_of name (attributes_in xs)
  more_entries true x xs = omega arith
  more_entries false x xs = sum_by-cons (λ (e : Named). one (bytes_eq e.0 name)) (entry x) (attributes_in xs)

  part_low : (c d : Bool) → cond (not c) (one d) 0 ≤ one d
  part_low true d = omega arith
  part_low false d = omega arith

  -- attributes are no more than items
  low : (xs : List Item) → times_of name (attributes_in xs) ≤ times_in name xs
  low [] = omega arith
  low (x ∷ xs) =
      let a = more_entries (is_name_item x) x xs in
      let b = cons_in name x xs in
      let c = part_low (is_name_item x) (bytes_eq x.name name) in
      let h = low xs in
      omega (arith, a, b, c, h)

  -- an attribute of the name is an item of it
  item_of : (xs : List Item) → times_in name xs ≤ 1 → 1 ≤ times_of name (attributes_in xs) → HasItem xs name
  item_of [] few some = absurd (omega (arith, some))
  item_of (x ∷ xs) few some = by_test (bytes_eq x.name name) (is_name_item x) refl refl (more_entries (is_name_item x) x xs) (cons_in name x xs) (low xs) (item_of xs)
    where
      by_test : (c d : Bool) → bytes_eq x.name name ≡ c → is_name_item x ≡ d → times_of name (attributes_in (x ∷ xs)) ≡ cond (not (is_name_item x)) (one (bytes_eq x.name name)) 0 + times_of name (attributes_in xs)
          → times_in name (x ∷ xs) ≡ one (bytes_eq x.name name) + times_in name xs → times_of name (attributes_in xs) ≤ times_in name xs → (times_in name xs ≤ 1 → 1 ≤ times_of name (attributes_in xs) → HasItem xs name) → HasItem (x ∷ xs) name
      by_test true false e own a b l ih = (x, named_first name x xs e, own)
      by_test true true e own a b l ih =
          let p : cond (not (is_name_item x)) (one (bytes_eq x.name name)) 0 ≡ 0 = ap (λ (t : Bool). cond (not t) (one (bytes_eq x.name name)) 0) own in
          let q : one (bytes_eq x.name name) ≡ 1 = ap one e in
          absurd (omega (arith, few, some, a, b, l, p, q))
      by_test false d e own a b l ih =
          let q : one (bytes_eq x.name name) ≡ 0 = ap one e in
          let p = part_low (is_name_item x) (bytes_eq x.name name) in
          let h = ih (omega (arith, few, b)) (omega (arith, some, a, p, q)) in
          (h.0, named_later name x xs e ∙ h.1, h.2)

  -- and an item of the name but the node's own is an attribute
  pub counts_item : (xs : List Item) → HasItem xs name → 1 ≤ times_of name (attributes_in xs)
  counts_item [] h = let bad : None ≡ Some h.0 = h.1 in cc
  counts_item (x ∷ xs) h = by_test (bytes_eq x.name name) refl (more_entries (is_name_item x) x xs) (counts_item xs)
    where
      by_test : (c : Bool) → bytes_eq x.name name ≡ c → times_of name (attributes_in (x ∷ xs)) ≡ cond (not (is_name_item x)) (one (bytes_eq x.name name)) 0 + times_of name (attributes_in xs) → (HasItem xs name → 1 ≤ times_of name (attributes_in xs)) → 1 ≤ times_of name (attributes_in (x ∷ xs))
      by_test true e a ih =
          let first : Some x ≡ Some h.0 = sym (named_first name x xs e) ∙ h.1 in
          let same : x ≡ h.0 = cc in
          let own : is_name_item x ≡ false = ap is_name_item same ∙ h.2 in
          let p : cond (not (is_name_item x)) (one (bytes_eq x.name name)) 0 ≡ 1 = ap (λ (t : Bool). cond (not t) (one (bytes_eq x.name name)) 0) own ∙ ap one e in
          omega (arith, a, p)
      by_test false e a ih = let g = ih (h.0, sym (named_later name x xs e) ∙ h.1, h.2) in omega (arith, a, g)

module _ (v : Volume) (name : List ℕ) where
  abbrev entries_of : List Row → List Named
  entries_of rows = map (λ (row : Row). (row.0, attribute_at v (id_of row))) rows

  more_rows : (r : Row) (rs : List Row) → times_of name (entries_of (r ∷ rs)) ≡ one (bytes_eq r.0 name) + times_of name (entries_of rs)
  more_rows r rs = sum_by-cons (λ (e : Named). one (bytes_eq e.0 name)) (r.0, attribute_at v (id_of r)) (entries_of rs)

  -- a row of the name is counted
  pub counts_row : (rows : List Row) (value : ℤ) → In (name, value) rows → 1 ≤ times_of name (entries_of rows)
  counts_row [] value i = absurd i
  counts_row (r ∷ rs) value (inl e) =
      let a = more_rows r rs in
      let b : one (bytes_eq r.0 name) ≡ 1 = ap one ((bytes_eq-Decides r.0 name).1 (sym (ap (λ (x : Row). x.0) e))) in
      omega (arith, a, b)
  counts_row (r ∷ rs) value (inr i) = let a = more_rows r rs in let h = counts_row rs value i in omega (arith, a, h)

  none_behind : (r : List ℕ) (rs : List Row) → r ≡ name → AllByRecursion (λ (s : Row). comes_before Text r s.0 ≡ true) rs → times_of name (entries_of rs) ≡ 0
  none_behind r [] same up = refl
  none_behind r (s ∷ rs) same up = by_test (bytes_eq s.0 name) refl (more_rows s rs) (none_behind r rs same up.1)
    where
      by_test : (c : Bool) → bytes_eq s.0 name ≡ c → times_of name (entries_of (s ∷ rs)) ≡ one (bytes_eq s.0 name) + times_of name (entries_of rs) → times_of name (entries_of rs) ≡ 0 → times_of name (entries_of (s ∷ rs)) ≡ 0
      by_test true e a ih =
          let equal : s.0 ≡ r = (bytes_eq-Decides s.0 name).0 e ∙ sym same in
          let both : same_keys Text s.0 r ≡ true = subst (λ (n : List ℕ). same_keys Text s.0 n ≡ true) equal (same_itself Text s.0) in
          let other : same_keys Text s.0 r ≡ false = greater_not_same Text s.0 r up.0 in
          let bad : true ≡ false = sym both ∙ other in cc
      by_test false e a ih =
          let b : one (bytes_eq s.0 name) ≡ 0 = ap one e in
          omega (arith, a, b, ih)

  -- rows of a tree have a name once
  rows_once : (rows : List Row) → KeysAscend Text rows → times_of name (entries_of rows) ≤ 1
  rows_once [] up = omega arith
  rows_once (r ∷ rs) up = by_test (bytes_eq r.0 name) refl (more_rows r rs) (rows_once rs up.1)
    where
      by_test : (c : Bool) → bytes_eq r.0 name ≡ c → times_of name (entries_of (r ∷ rs)) ≡ one (bytes_eq r.0 name) + times_of name (entries_of rs) → times_of name (entries_of rs) ≤ 1 → times_of name (entries_of (r ∷ rs)) ≤ 1
      by_test true e a ih =
          let none = none_behind r.0 rs ((bytes_eq-Decides r.0 name).0 e) up.0 in
          let b : one (bytes_eq r.0 name) ≡ 1 = ap one e in
          omega (arith, a, b, none)
      by_test false e a ih =
          let b : one (bytes_eq r.0 name) ≡ 0 = ap one e in
          omega (arith, a, b, ih)

  no_rows : (items : List Item) (rows : List Row) → HasItem items name → AllByRecursion (λ (r : Row). ¬ HasItem items r.0) rows → times_of name (entries_of rows) ≡ 0
  no_rows items [] h all = refl
  no_rows items (r ∷ rs) h all = by_test (bytes_eq r.0 name) refl (more_rows r rs) (no_rows items rs h all.1)
    where
      by_test : (c : Bool) → bytes_eq r.0 name ≡ c → times_of name (entries_of (r ∷ rs)) ≡ one (bytes_eq r.0 name) + times_of name (entries_of rs) → times_of name (entries_of rs) ≡ 0 → times_of name (entries_of (r ∷ rs)) ≡ 0
      by_test true e a ih = absurd (all.0 (subst (λ (n : List ℕ). HasItem items n) (sym ((bytes_eq-Decides r.0 name).0 e)) h))
      by_test false e a ih =
          let b : one (bytes_eq r.0 name) ≡ 0 = ap one e in
          omega (arith, a, b, ih)

  both : (items : List Item) (rows : List Row) → times_of name (attributes_in items ++ entries_of rows) ≡ times_of name (attributes_in items) + times_of name (entries_of rows)
  both items rows = sum_by-append (λ (e : Named). one (bytes_eq e.0 name)) (attributes_in items) (entries_of rows)

  one_name : (items : List Item) (rows : List Row) → AreDistinct items → KeysAscend Text rows → AllByRecursion (λ (r : Row). ¬ HasItem items r.0) rows → times_of name (attributes_in items ++ entries_of rows) ≤ 1
  one_name items rows distinct up all = by_count (cases (times_of name (attributes_in items)))
    where
      cases : (n : ℕ) → (n ≡ 0) ⊎ (1 ≤ n)
      cases zero = inl refl
      cases (suc n) = inr (omega arith)

      by_count : (times_of name (attributes_in items) ≡ 0) ⊎ (1 ≤ times_of name (attributes_in items)) → times_of name (attributes_in items ++ entries_of rows) ≤ 1
      by_count (inl none) = let a = both items rows in let b = rows_once rows up in omega (arith, none, a, b)
      by_count (inr some) =
          let h : HasItem items name = item_of name items (distinct name) some in
          let a = both items rows in
          let b = no_rows items rows h all in
          let c = low name items in
          let d : times_in name items ≤ 1 = distinct name in
          omega (arith, a, b, c, d)

  -- an item and a row of one name are two attributes of it
  pub two : (items : List Item) (rows : List Row) (value : ℤ) → HasItem items name → In (name, value) rows → 2 ≤ times_of name (attributes_in items ++ entries_of rows)
  two items rows value h i =
      let a = both items rows in
      let b = counts_item name items h in
      let c = counts_row rows value i in
      omega (arith, a, b, c)

pub are_apart : (v : Volume) (items : List Item) (rows : List Row) → AreDistinct items → KeysAscend Text rows → AllByRecursion (λ (r : Row). ¬ HasItem items r.0) rows → AreApart (attributes_in items ++ map (λ (row : Row). (row.0, attribute_at v (id_of row))) rows)
are_apart v items rows distinct up all = λ name. one_name v name items rows distinct up all

-- an item has the name of a row of the attribute directory
pub row_twice : (v : Volume) (id : ℕ) (area name : List ℕ) (items : List Item) (value : ℤ) → area_of v id ≡ area → items_of area ≡ Some items → IsReached v id → HasItem items name → In (name, value) (rows_of v (attribute_directory v id)) → IsAttributeFault v id name
row_twice v id area name items value same is there h i = record {
  there = there;
  items = items;
  area = ap items_of same ∙ is;
  twice = inr (two v name items (rows_of v (attribute_directory v id)) value h i);
}

-- the rows of an attribute directory ascend
pub ascending : (v : Volume) (id : ℕ) (o : Option ℕ) → HasDirectory v id o → KeysAscend Text (rows_of v o)
ascending v id None d = tt
ascending v id (Some k) d = ascend_kept Text (λ (row : Row). is_proper row.0) (rows_in Text (content v k)) (tree_ascends Text (content v k) d.tree)

-- the attributes of a node whose items differ and whose rows no item names
pub attributes_right : (v : Volume) (id : ℕ) (items : List Item) (rows : List Row) → items_of (area_of v id) ≡ Some items → AreDistinct items → HasDirectory v id (attribute_directory v id) → rows ≡ rows_of v (attribute_directory v id)
    → AllByRecursion (λ (r : Row). ¬ HasItem items r.0) rows → HasAttributes v id
attributes_right v id items rows area distinct dir are all = record {
  items = items;
  area = area;
  distinct = distinct;
  directory = dir;
  apart = are_apart v items (rows_of v (attribute_directory v id)) distinct (ascending v id (attribute_directory v id) dir) (subst (AllByRecursion (λ (r : Row). ¬ HasItem items r.0)) are all);
}
