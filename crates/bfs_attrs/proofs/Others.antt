-- Attributes in small data and in an attribute directory: of which kind one of a name is, and which others are left when it goes.
use Rattle.std.proofs.Common.{◌≡◌, ◌∙◌, ℕ, List, [], ◌∷◌, ◌++◌, Bool, true, false, cond, Option, Some, None, refl, sym, ap, subst, map, drop, append_assoc}
use Rattle.std.specs.Prelude.{IsSome, IfSome, unwrap_or}
use Rattle.std.specs.FinMap.{find, get, remove, from_entries, get-remove}
use Rattle.std.specs.List.{filter}
use Rattle.std.specs.Ordering.{eq_by_cmp}
use Rattle.std.specs.Cmp.Lexicographic.{nat_list_cmp_total}
use Rattle.std.proofs.lemmas.List.{append-nil}
use Rattle.std.proofs.lemmas.Slice.Eq.{bytes_eq-Decides}
use Rattle.bfs_base.specs.Keys.{text_cmp}
use Rattle.bfs_node.specs.Page.{Row}
use Rattle.bfs_smalldata.specs.Items.{Item, items_of}
use Rattle.bfs_smalldata.specs.Edits.{named}
use Rattle.bfs_tree.specs.Trees.{Attribute, Attributes}
use Rattle.bfs_sound.specs.Volumes.{Volume}
use Rattle.bfs_sound.specs.Inodes.{is_proper}
use Rattle.bfs_sound.specs.Nodes.{AreApart}
use Rattle.bfs_sound.specs.Attributes.{Named, is_name_item, attributes_of, attribute_directory}
use Rattle.bfs_attr.specs.Bearers.{HasAttributes, entries_with, entries_at, attributes_at, value_at}
use Rattle.bfs_attr.specs.Changed.{IsInSmallData}
use Rattle.bfs_attr.specs.SmallData.{HasAttribute, HasSmall}
use Rattle.bfs_attr.proofs.Finds.{same_test}
use Rattle.bfs_attr.proofs.Tops.{small_missing, value_is}
use Rattle.bfs_attr_write.proofs.Parted.{none_found, alone}
use Rattle.bfs_attr_write.proofs.Picked.{found_among}

same_name : (name other : List ℕ) → eq_by_cmp text_cmp name other ≡ true → other ≡ name
same_name name other e = (bytes_eq-Decides other name).0 (sym (same_test name other) ∙ e)

name_here : (name : List ℕ) (a : Attribute) (r : Row) (rest : List Named) (b : Bool) → eq_by_cmp text_cmp name r.0 ≡ b → is_proper r.0 ≡ true → IsSome (cond b (Some a) (find text_cmp name rest)) → (IsSome (find text_cmp name rest) → is_proper name ≡ true) → is_proper name ≡ true
name_here name a r rest true same is some more = ap is_proper (sym (same_name name r.0 same)) ∙ is
name_here name a r rest false same is some more = more some

-- a name that is found behind rows but `.` and `..` is neither
pub found_proper : (name : List ℕ) (entry : Row → Attribute) (rows : List Row) → IsSome (find text_cmp name (map {B = Named} (λ r. (r.0, entry r)) (filter (λ r. is_proper r.0) rows))) → is_proper name ≡ true
found_proper name entry [] some = let bad : false ≡ true = some in cc
found_proper name entry (r ∷ rs) some = by_test (is_proper r.0) refl some (found_proper name entry rs)
  where
    by_test : (p : Bool) → is_proper r.0 ≡ p → IsSome (find text_cmp name (map {B = Named} (λ r. (r.0, entry r)) (cond p (r ∷ filter (λ r. is_proper r.0) rs) (filter (λ r. is_proper r.0) rs))))
        → (IsSome (find text_cmp name (map {B = Named} (λ r. (r.0, entry r)) (filter (λ r. is_proper r.0) rs))) → is_proper name ≡ true) → is_proper name ≡ true
    by_test true is some more = name_here name (entry r) r (map {B = Named} (λ r. (r.0, entry r)) (filter (λ r. is_proper r.0) rs)) (eq_by_cmp text_cmp name r.0) refl is some more
    by_test false is some more = more some

own_named : (area name : List ℕ) (items : List Item) → items_of area ≡ Some items → (HasSmall area name → ⊥) → (o : Option Item) → named name items ≡ o → IfSome o (λ item. is_name_item item ≡ true)
own_named area name items are none None e = tt
own_named area name items are none (Some item) e = by_kind (is_name_item item) refl
  where
    by_kind : (b : Bool) → is_name_item item ≡ b → is_name_item item ≡ true
    by_kind true is = is
    by_kind false is = absurd (none (subst (λ (o : Option (List Item)). IfSome o (HasAttribute name)) (sym are) (item, e, is)))

-- an attribute that isn't in small data is the attribute directory's
pub beyond_small : (v : Volume) (id : ℕ) (name : List ℕ) (has : HasAttributes v id) → (IsInSmallData v id name → ⊥) → get (attributes_at v id) name ≡ value_at (attributes_of v (attribute_directory v id)) name
beyond_small v id name has none =
    sym (value_is (entries_at v id) name)
    ∙ ap (λ (o : Option (List Item)). value_at (entries_with v id (unwrap_or o [])) name) has.area
    ∙ small_missing name (attributes_of v (attribute_directory v id)) has.items has.distinct (own_named (drop 232 (v.blocks id)) name has.items has.area none (named name has.items) refl)

find_front : (q : List ℕ) (xs ys : List Named) → find text_cmp q (xs ++ ys) ≡ None → find text_cmp q xs ≡ None
find_front q [] ys e = refl
find_front q (x ∷ xs) ys e = by_test (eq_by_cmp text_cmp q x.0) e (find_front q xs ys)
  where
    by_test : (b : Bool) → cond b (Some x.1) (find text_cmp q (xs ++ ys)) ≡ None → (find text_cmp q (xs ++ ys) ≡ None → find text_cmp q xs ≡ None) → cond b (Some x.1) (find text_cmp q xs) ≡ None
    by_test true e rest = let bad : Some x.1 ≡ None = e in cc
    by_test false e rest = rest e

-- behind these a name is found that isn't this one, and isn't among them
pub record HasOther (front : List Named) (name : List ℕ) (more : List Named) : Type 0 where
  pub other : List ℕ
  pub differs : eq_by_cmp text_cmp other name ≡ false
  pub found : IsSome (find text_cmp other (front ++ more))
  pub missing : find text_cmp other front ≡ None

module _ (front : List Named) (name : List ℕ) (x y : Named) (more : List Named) (apart : AreApart (front ++ (x ∷ (y ∷ more)))) where
  unmet : find text_cmp x.0 (front ++ (y ∷ more)) ≡ None
  unmet = none_found x.0 (front ++ (y ∷ more)) (alone front (y ∷ more) x apart)

  seam : (front ++ (x ∷ [])) ++ (y ∷ more) ≡ front ++ (x ∷ (y ∷ more))
  seam = append_assoc front (x ∷ []) (y ∷ more)

  unmet_second : find text_cmp y.0 ((front ++ (x ∷ [])) ++ more) ≡ None
  unmet_second = none_found y.0 ((front ++ (x ∷ [])) ++ more) (alone (front ++ (x ∷ [])) more y (subst AreApart (sym seam) apart))

  not_both : eq_by_cmp text_cmp x.0 name ≡ true → eq_by_cmp text_cmp y.0 name ≡ true → ⊥
  not_both a b =
      let same : y.0 ≡ x.0 = sym (same_name y.0 name b) ∙ same_name x.0 name a in
      let found : IsSome (find text_cmp x.0 (front ++ (y ∷ more))) = subst (λ (n : List ℕ). IsSome (find text_cmp n (front ++ (y ∷ more)))) same (found_among y front more) in
      let bad : false ≡ true = subst (λ (o : Option Attribute). IsSome o) unmet found in
      cc

  pub of_two : HasOther front name (x ∷ (y ∷ more))
  of_two = by_first (eq_by_cmp text_cmp x.0 name) refl (eq_by_cmp text_cmp y.0 name) refl
    where
      by_first : (a : Bool) → eq_by_cmp text_cmp x.0 name ≡ a → (b : Bool) → eq_by_cmp text_cmp y.0 name ≡ b → HasOther front name (x ∷ (y ∷ more))
      by_first false e b f = record { other = x.0; differs = e; found = found_among x front (y ∷ more); missing = find_front x.0 front (y ∷ more) unmet }
      by_first true e true f = absurd (not_both e f)
      by_first true e false f = record {
        other = y.0;
        differs = f;
        found = subst (λ (l : List Named). IsSome (find text_cmp y.0 l)) seam (found_among y (front ++ (x ∷ [])) more);
        missing = find_front y.0 front (x ∷ []) (find_front y.0 (front ++ (x ∷ [])) more unmet_second);
      }

-- where one of several is taken, some are left
pub some_since : (front : List Named) (name : List ℕ) (before since : List Named) → HasOther front name before
    → from_entries {R = text_cmp} (front ++ since) ≡ remove (from_entries {R = text_cmp} (front ++ before)) name → since ≡ [] → ⊥
some_since front name before since other e empty =
    let q = other.other in
    let a : find text_cmp q (front ++ since) ≡ get {R = text_cmp} (from_entries (front ++ since)) q = value_is (front ++ since) q in
    let b : get {R = text_cmp} (from_entries (front ++ since)) q ≡ get (remove (from_entries {R = text_cmp} (front ++ before)) name) q = ap (λ (f : Attributes). get f q) e in
    let c : get (remove (from_entries {R = text_cmp} (front ++ before)) name) q ≡ find text_cmp q (front ++ before) =
    get-remove nat_list_cmp_total (from_entries (front ++ before)) name q ∙ ap (λ (t : Bool). cond t None (get {R = text_cmp} (from_entries (front ++ before)) q)) other.differs ∙ sym (value_is (front ++ before) q) in
    let d : find text_cmp q (front ++ since) ≡ None = ap (λ (l : List Named). find text_cmp q (front ++ l)) empty ∙ ap (find text_cmp q) (append-nil front) ∙ other.missing in
    let bad : false ≡ true = subst (λ (o : Option Attribute). IsSome o) (sym (a ∙ b ∙ c) ∙ d) other.found in
    absurd (let worse : false ≡ true = bad in cc)
