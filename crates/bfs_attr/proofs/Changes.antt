-- Changes of a list of items, as changes of the map of attributes.
use Rattle.std.proofs.Common.{◌≡◌, ◌⊎◌, inl, inr, ◌≤◌, ◌+◌, ℕ, List, [], ◌∷◌, ◌++◌, ◌-◌, length, take, drop, Bool, true, false, cond, Option, Some, None, refl, sym, ◌∙◌, ap, subst, arith, map, length-drop}
use borrow.Rule.Slice.PartMut.{put_mid}
use Rattle.std.proofs.lemmas.List.{append-nil, drop_all, length-take-le}
use Rattle.std.proofs.Math.Seq.{drop-append_seam}
use Rattle.std.specs.Prelude.{not, ◌&&◌, ◌==◌, count_by}
use Rattle.std.specs.FinMap.{find, insert, remove, from_entries, same_map, get-from_entries, get-insert, get-remove, slice_cmp-IsAntisymmetric, nat_cmp-IsAntisymmetric}
use Rattle.std.specs.List.{filter}
use Rattle.std.specs.Ordering.{eq_by_cmp}
use Rattle.std.specs.Cmp.Lexicographic.{nat_list_cmp_total}
use Rattle.std.specs.Str.{bytes_eq}
use Rattle.std.proofs.lemmas.Bool.{cases_Bool, cond-true, cond-false}
use Rattle.std.proofs.lemmas.List.Sums.{sum_by-cons}
use Rattle.std.proofs.lemmas.Slice.Eq.{bytes_eq-Decides}
use Rattle.bfs_base.specs.Keys.{text_cmp}
use Rattle.bfs_smalldata.specs.Items.{Item}
use Rattle.bfs_smalldata.specs.Edits.{AreDistinct, with_item, without, named}
use Rattle.bfs_tree.specs.Trees.{Attribute}
use Rattle.bfs_sound.specs.Attributes.{Named, own_name, is_name_item, attributes_in}
use Rattle.bfs_attr.specs.Laws.{HasNone}
use Rattle.bfs_smalldata.proofs.Naming.{named_first, named_later}
use Rattle.bfs_attr.specs.SmallData.{attribute_in, HasAttribute}
use Rattle.bfs_attr.proofs.Finds.{same_test, entry, no_more, small_none}

-- an item of another name than a node's own is an attribute
not_own : (kind : Bool) (b : Bool) → b ≡ false → (kind && b) ≡ false
not_own true b e = e
not_own false b e = refl

pub other_item : (item : Item) (name : List ℕ) → item.name ≡ name → bytes_eq name own_name ≡ false → is_name_item item ≡ false
other_item item name same other = not_own (item.kind == 0x43535452) (bytes_eq item.name own_name) (ap (λ (n : List ℕ). bytes_eq n own_name) same ∙ other)

-- an attribute is the first of its list
pub front_is : (x : Item) (xs : List Item) → is_name_item x ≡ false → attributes_in (x ∷ xs) ≡ entry x ∷ attributes_in xs
front_is x xs other = ap (λ (b : Bool). map entry (cond (not b) (x ∷ filter (λ item. not (is_name_item item)) xs) (filter (λ item. not (is_name_item item)) xs))) other

-- a node's own name isn't there
pub front_none : (x : Item) (xs : List Item) → is_name_item x ≡ true → attributes_in (x ∷ xs) ≡ attributes_in xs
front_none x xs own = ap (λ (b : Bool). map entry (cond (not b) (x ∷ filter (λ item. not (is_name_item item)) xs) (filter (λ item. not (is_name_item item)) xs))) own

module _ (q : List ℕ) (more : List Named) where
  abbrev at : List Item → Option Attribute
  at items = find text_cmp q (attributes_in items ++ more)

  -- what is found in front, or else behind
  at_front : (x : Item) (xs : List Item) → is_name_item x ≡ false → at (x ∷ xs) ≡ cond (eq_by_cmp text_cmp q x.name) (Some (attribute_in x)) (at xs)
  at_front x xs other = ap (λ (l : List Named). find text_cmp q (l ++ more)) (front_is x xs other)

  at_none : (x : Item) (xs : List Item) → is_name_item x ≡ true → at (x ∷ xs) ≡ at xs
  at_none x xs own = ap (λ (l : List Named). find text_cmp q (l ++ more)) (front_none x xs own)

  module _ (new : Item) (other : bytes_eq new.name own_name ≡ false) where
    abbrev here : Bool
    here = eq_by_cmp text_cmp q new.name

    -- the name is asked for, or another
    over : (b c : Bool) (x y : Option Attribute) → (b ≡ true → c ≡ true → ⊥) → cond b x (cond c (Some (attribute_in new)) y) ≡ cond c (Some (attribute_in new)) (cond b x y)
    over true true x y apart = absurd (apart refl refl)
    over true false x y apart = refl
    over false c x y apart = refl

    twice : (c : Bool) (x y : Option Attribute) → cond c x y ≡ cond c x (cond c x y)
    twice true x y = refl
    twice false x y = refl

    -- both tests are of the asked name, so the names are the same
    apart : (x : Item) → bytes_eq x.name new.name ≡ false → eq_by_cmp text_cmp q x.name ≡ true → here ≡ true → ⊥
    apart x differ b c =
        let one : x.name ≡ q = (bytes_eq-Decides x.name q).0 (sym (same_test q x.name) ∙ b) in
        let two : new.name ≡ q = (bytes_eq-Decides new.name q).0 (sym (same_test q new.name) ∙ c) in
        let same : bytes_eq x.name new.name ≡ true = (bytes_eq-Decides x.name new.name).1 (one ∙ sym two) in
        let bad : true ≡ false = sym same ∙ differ in cc

    put_at : (items : List Item) → at (with_item new items) ≡ cond here (Some (attribute_in new)) (at items)
    put_at [] = at_front new [] (other_item new new.name refl other)
    put_at (x ∷ xs) = by_name (cases_Bool (bytes_eq x.name new.name)) (put_at xs)
      where
        same_place : (c : Bool) (a b : Option Attribute) (t : Bool) → t ≡ c → cond c a b ≡ cond c a (cond t (Some (attribute_in x)) b)
        same_place true a b t e = refl
        same_place false a b true e = let bad : true ≡ false = e in cc
        same_place false a b false e = refl

        by_own : (is_name_item x ≡ true) ⊎ (is_name_item x ≡ false) → bytes_eq x.name new.name ≡ false → at (with_item new xs) ≡ cond here (Some (attribute_in new)) (at xs) → at (x ∷ with_item new xs) ≡ cond here (Some (attribute_in new)) (at (x ∷ xs))
        by_own (inl own) differ rest = at_none x (with_item new xs) own ∙ rest ∙ ap (cond here (Some (attribute_in new))) (sym (at_none x xs own))
        by_own (inr attribute) differ rest =
            at_front x (with_item new xs) attribute
            ∙ ap (cond (eq_by_cmp text_cmp q x.name) (Some (attribute_in x))) rest
            ∙ over (eq_by_cmp text_cmp q x.name) here (Some (attribute_in x)) (at xs) (apart x differ)
            ∙ ap (cond here (Some (attribute_in new))) (sym (at_front x xs attribute))

        by_name : (bytes_eq x.name new.name ≡ true) ⊎ (bytes_eq x.name new.name ≡ false) → at (with_item new xs) ≡ cond here (Some (attribute_in new)) (at xs) → at (with_item new (x ∷ xs)) ≡ cond here (Some (attribute_in new)) (at (x ∷ xs))
        by_name (inl same) rest =
            let name : x.name ≡ new.name = (bytes_eq-Decides x.name new.name).0 same in
            ap at (cond-true (bytes_eq x.name new.name) (new ∷ xs) (x ∷ with_item new xs) same)
            ∙ at_front new xs (other_item new new.name refl other)
            ∙ same_place here (Some (attribute_in new)) (at xs) (eq_by_cmp text_cmp q x.name) (ap (eq_by_cmp text_cmp q) name)
            ∙ ap (cond here (Some (attribute_in new))) (sym (at_front x xs (other_item x new.name name other)))
        by_name (inr differ) rest =
            ap at (cond-false (bytes_eq x.name new.name) (new ∷ xs) (x ∷ with_item new xs) differ) ∙ by_own (cases_Bool (is_name_item x)) differ rest

pub puts : (new : Item) (items : List Item) (more : List Named) → bytes_eq new.name own_name ≡ false
    → from_entries {R = text_cmp} (attributes_in (with_item new items) ++ more) ≡ insert (from_entries (attributes_in items ++ more)) new.name (attribute_in new)
puts new items more other = same_map nat_list_cmp_total (slice_cmp-IsAntisymmetric nat_cmp-IsAntisymmetric) _ _ (λ q.
    get-from_entries nat_list_cmp_total (attributes_in (with_item new items) ++ more) q
    ∙ put_at q more new other items
    ∙ ap (cond (eq_by_cmp text_cmp q new.name) (Some (attribute_in new))) (sym (get-from_entries nat_list_cmp_total (attributes_in items ++ more) q))
    ∙ sym (get-insert nat_list_cmp_total (from_entries (attributes_in items ++ more)) new.name (attribute_in new) q))

module _ (q : List ℕ) (more : List Named) (name : List ℕ) (none : HasNone more name) where
  abbrev asked : Bool
  asked = eq_by_cmp text_cmp q name

  abbrev there : List Item → Option Attribute
  there items = find text_cmp q (attributes_in items ++ more)

  asked_is : asked ≡ true → q ≡ name
  asked_is e = sym ((bytes_eq-Decides name q).0 (sym (same_test q name) ∙ e))

  -- none behind has the name
  none_behind : (es : List Named) → HasNone es name → find text_cmp name es ≡ None
  none_behind [] all = refl
  none_behind (e ∷ es) all = cond-false (eq_by_cmp text_cmp name e.0) (Some e.1) (find text_cmp name es) (same_test name e.0 ∙ all.0) ∙ none_behind es all.1

  none_left : (items : List Item) → named name items ≡ None → asked ≡ true → there items ≡ None
  none_left items absent e =
      ap (λ (n : List ℕ). find text_cmp n (attributes_in items ++ more)) (asked_is e) ∙ small_none name more items absent ∙ none_behind more none

  past : (b c : Bool) (x y : Option Attribute) → (b ≡ true → c ≡ true → ⊥) → cond b x (cond c None y) ≡ cond c None (cond b x y)
  past true true x y apart = absurd (apart refl refl)
  past true false x y apart = refl
  past false c x y apart = refl

  differs : (x : Item) → bytes_eq x.name name ≡ false → eq_by_cmp text_cmp q x.name ≡ true → asked ≡ true → ⊥
  differs x differ b c =
      let one : x.name ≡ q = (bytes_eq-Decides x.name q).0 (sym (same_test q x.name) ∙ b) in
      let same : bytes_eq x.name name ≡ true = (bytes_eq-Decides x.name name).1 (one ∙ asked_is c) in
      let bad : true ≡ false = sym same ∙ differ in cc

  take_at : (items : List Item) (item : Item) → named name items ≡ Some item → is_name_item item ≡ false → count_by (λ item. bytes_eq item.name name) items ≤ 1 → there (without name items) ≡ cond asked None (there items)
  take_at [] item e own few = let bad : None ≡ Some item = e in cc
  take_at (x ∷ xs) item e own few = by_name (cases_Bool (bytes_eq x.name name)) (subst (λ (k : ℕ). k ≤ 1) (sum_by-cons (λ (i : Item). cond (bytes_eq i.name name) 1 0) x xs) few) (take_at xs item)
    where
      less : (b : Bool) (n : ℕ) → b ≡ true → cond b 1 0 + n ≤ 1 → n ≤ 0
      less true n h k = omega (arith, k)
      less false n h k = let bad : false ≡ true = h in cc

      rest_few : (b : Bool) (n : ℕ) → cond b 1 0 + n ≤ 1 → n ≤ 1
      rest_few true n k = omega (arith, k)
      rest_few false n k = omega (arith, k)

      gone : (t b : Bool) → t ≡ b → asked ≡ b → (o : Option Attribute) → (asked ≡ true → o ≡ None) → o ≡ cond asked None (cond t (Some (attribute_in x)) o)
      gone t true same e o empty = empty e ∙ sym (ap (λ (c : Bool). cond c None (cond t (Some (attribute_in x)) o)) e)
      gone t false same e o empty = sym (ap (λ (c : Bool). cond c None (cond t (Some (attribute_in x)) o)) e ∙ ap (λ (c : Bool). cond c (Some (attribute_in x)) o) same)

      by_own : (is_name_item x ≡ true) ⊎ (is_name_item x ≡ false) → bytes_eq x.name name ≡ false → there (without name xs) ≡ cond asked None (there xs) → there (x ∷ without name xs) ≡ cond asked None (there (x ∷ xs))
      by_own (inl own) differ rest = at_none q more x (without name xs) own ∙ rest ∙ ap (cond asked None) (sym (at_none q more x xs own))
      by_own (inr attribute) differ rest =
          at_front q more x (without name xs) attribute
          ∙ ap (cond (eq_by_cmp text_cmp q x.name) (Some (attribute_in x))) rest
          ∙ past (eq_by_cmp text_cmp q x.name) asked (Some (attribute_in x)) (there xs) (differs x differ)
          ∙ ap (cond asked None) (sym (at_front q more x xs attribute))

      by_name : (bytes_eq x.name name ≡ true) ⊎ (bytes_eq x.name name ≡ false) → cond (bytes_eq x.name name) 1 0 + count_by (λ item. bytes_eq item.name name) xs ≤ 1
          → (named name xs ≡ Some item → is_name_item item ≡ false → count_by (λ item. bytes_eq item.name name) xs ≤ 1 → there (without name xs) ≡ cond asked None (there xs)) → there (without name (x ∷ xs)) ≡ cond asked None (there (x ∷ xs))
      by_name (inl same) few rest =
          let is : x.name ≡ name = (bytes_eq-Decides x.name name).0 same in
          let one : x ≡ item = let h : Some x ≡ Some item = sym (named_first name x xs same) ∙ e in cc in
          ap there (cond-true (bytes_eq x.name name) xs (x ∷ without name xs) same)
          ∙ gone (eq_by_cmp text_cmp q x.name) asked (ap (eq_by_cmp text_cmp q) is) refl (there xs)
          (none_left xs (no_more name xs (less (bytes_eq x.name name) (count_by (λ item. bytes_eq item.name name) xs) same few)))
          ∙ ap (cond asked None) (sym (at_front q more x xs (ap is_name_item one ∙ own)))
      by_name (inr differ) few rest =
          ap there (cond-false (bytes_eq x.name name) xs (x ∷ without name xs) differ)
          ∙ by_own (cases_Bool (is_name_item x)) differ (rest (sym (named_later name x xs differ) ∙ e) own (rest_few (bytes_eq x.name name) (count_by (λ item. bytes_eq item.name name) xs) few))

pub takes : (name : List ℕ) (items : List Item) (more : List Named) → AreDistinct items → HasAttribute name items → HasNone more name
    → from_entries {R = text_cmp} (attributes_in (without name items) ++ more) ≡ remove (from_entries (attributes_in items ++ more)) name
takes name items more distinct has none = same_map nat_list_cmp_total (slice_cmp-IsAntisymmetric nat_cmp-IsAntisymmetric) _ _ (λ q.
    get-from_entries nat_list_cmp_total (attributes_in (without name items) ++ more) q
    ∙ take_at q more name none items has.0 has.1 has.2 (distinct name)
    ∙ ap (cond (eq_by_cmp text_cmp q name) None) (sym (get-from_entries nat_list_cmp_total (attributes_in items ++ more) q))
    ∙ sym (get-remove nat_list_cmp_total (from_entries (attributes_in items ++ more)) name q))

-- small data that was written into its block
pub drop_written : (old new : List ℕ) → 232 ≤ length old → drop 232 (put_mid 232 (length old - 232) old new) ≡ new
drop_written old new long =
    let front : length (take 232 old) ≡ 232 = length-take-le 232 old long in
    let rest : drop (length old - 232) (drop 232 old) ≡ [] = drop_all (length old - 232) (drop 232 old) (omega (arith, length-drop 232 old)) in
    ap (λ (n : ℕ). drop n (take 232 old ++ (new ++ drop (length old - 232) (drop 232 old)))) (sym front)
    ∙ drop-append_seam (take 232 old) (new ++ drop (length old - 232) (drop 232 old))
    ∙ ap (λ (l : List ℕ). new ++ l) rest ∙ append-nil new
