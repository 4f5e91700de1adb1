-- The longest attribute among items is one of them, and the only one of its name.
use Rattle.std.proofs.Common.{◌≡◌, ◌⊎◌, inl, inr, ◌≤◌, ◌∙◌, ℕ, List, [], ◌∷◌, ◌++◌, drop, Bool, true, false, cond, not, Option, Some, None, refl, sym, ap, subst, arith}
use Rattle.std.specs.Prelude.{nat_le, IfSome, unwrap_or}
use Rattle.std.specs.List.{filter}
use Rattle.std.specs.Str.{bytes_eq}
use Rattle.std.proofs.lemmas.Bool.{cond-true, cond-false}
use Rattle.std.proofs.lemmas.Slice.Eq.{bytes_eq-Decides}
use Rattle.bfs_bitmap.specs.Runs.{Room}
use Rattle.bfs_smalldata.specs.Items.{Item, items_of, size_of}
use Rattle.bfs_smalldata.specs.Edits.{named}
use Rattle.bfs_stream.specs.Told.{contents}
use Rattle.bfs_sound.specs.Attributes.{Named, is_name_item, attributes_in, attributes_of, attribute_directory}
use Rattle.bfs_sound.specs.Need.{longer, longest}
use Rattle.bfs_sound.specs.Volumes.{Volume}
use Rattle.bfs_attr.specs.Bearers.{Bearer, volume_at, entries_with, entries_at, value_at}
use Rattle.bfs_attr.specs.Changed.{Holds}
use Rattle.bfs_attr.specs.SmallData.{HasAttribute, attribute_in}
use Rattle.bfs_attr.proofs.Apart.{items_named, one_item}
use Rattle.bfs_attr.proofs.Finds.{small_there}
use Rattle.bfs_attr.proofs.Tops.{value_is}
use Rattle.bfs_attrs.specs.Moved.{IsWithin}

-- it is one of these
abbrev IsAmong : Item → List Item → Type 0
IsAmong x [] = ⊥
IsAmong x (y ∷ ys) = (y ≡ x) ⊎ IsAmong x ys

same_some : (x y : Item) → Some x ≡ Some y → x ≡ y
same_some x y e = cc

longest_among : (xs : List Item) (x : Item) → longest xs ≡ Some x → IsAmong x xs
longest_among [] x e = let bad : None ≡ Some x = e in cc
longest_among (y ∷ ys) x e = by_rest (longest ys) refl (same_some (longer y (longest ys)) x e) (longest_among ys)
  where
    by_size : (z : Item) (t : Bool) → cond t z y ≡ x → IsAmong z ys → (y ≡ x) ⊎ IsAmong x ys
    by_size z true is among = inr (subst (λ (i : Item). IsAmong i ys) is among)
    by_size z false is among = inl is

    by_rest : (o : Option Item) → longest ys ≡ o → longer y (longest ys) ≡ x → ((z : Item) → longest ys ≡ Some z → IsAmong z ys) → (y ≡ x) ⊎ IsAmong x ys
    by_rest None is last rest = inl (sym (ap (longer y) is) ∙ last)
    by_rest (Some z) is last rest = by_size z (nat_le (size_of y) (size_of z)) (sym (ap (longer y) is) ∙ last) (rest z is)

among_kept : (test : Item → Bool) (xs : List Item) (x : Item) → IsAmong x (filter test xs) → IsAmong x xs × (test x ≡ true)
among_kept test [] x among = absurd among
among_kept test (y ∷ ys) x among = by_test (test y) refl among (among_kept test ys x)
  where
    by_test : (t : Bool) → test y ≡ t → IsAmong x (cond t (y ∷ filter test ys) (filter test ys)) → (IsAmong x (filter test ys) → IsAmong x ys × (test x ≡ true)) → ((y ≡ x) ⊎ IsAmong x ys) × (test x ≡ true)
    by_test true is (inl here) rest = (inl here, sym (ap test here) ∙ is)
    by_test true is (inr among) rest = let r = rest among in (inr r.0, r.1)
    by_test false is among rest = let r = rest among in (inr r.0, r.1)

same_name : (x : Item) → bytes_eq x.name x.name ≡ true
same_name x = (bytes_eq-Decides x.name x.name).1 refl

-- one that is there is counted
among_counted : (xs : List Item) (x : Item) → IsAmong x xs → 1 ≤ items_named x.name xs
among_counted [] x among = absurd among
among_counted (y ∷ ys) x among = by_side among (among_counted ys x)
  where
    by_side : (y ≡ x) ⊎ IsAmong x ys → (IsAmong x ys → 1 ≤ items_named x.name ys) → 1 ≤ items_named x.name (y ∷ ys)
    by_side (inl here) rest =
        let a = one_item x.name y ys in
        let b : cond {A = ℕ} (bytes_eq y.name x.name) 1 0 ≡ 1 = ap (λ (t : Bool). cond {A = ℕ} t 1 0) (ap (λ (i : Item). bytes_eq i.name x.name) here ∙ same_name x) in
        omega (arith, a, b)
    by_side (inr among) rest = let a = one_item x.name y ys in let b = rest among in omega (arith, a, b)

among_named : (xs : List Item) (x : Item) → IsAmong x xs → items_named x.name xs ≤ 1 → named x.name xs ≡ Some x
among_named [] x among few = absurd among
among_named (y ∷ ys) x among few = by_name (bytes_eq y.name x.name) refl among (among_named ys x)
  where
    by_name : (t : Bool) → bytes_eq y.name x.name ≡ t → (y ≡ x) ⊎ IsAmong x ys → (IsAmong x ys → items_named x.name ys ≤ 1 → named x.name ys ≡ Some x) → named x.name (y ∷ ys) ≡ Some x
    by_name true same (inl here) rest = cond-true (bytes_eq y.name x.name) (Some y) (named x.name ys) same ∙ ap (λ (i : Item). Some i) here
    by_name true same (inr among) rest =
        let a = one_item x.name y ys in
        let b : cond {A = ℕ} (bytes_eq y.name x.name) 1 0 ≡ 1 = ap (λ (t : Bool). cond {A = ℕ} t 1 0) same in
        let c = among_counted ys x among in
        let d : items_named x.name (y ∷ ys) ≤ 1 = few in
        absurd (omega (arith, a, b, c, d))
    by_name false differ (inl here) rest = let bad : true ≡ false = sym (ap (λ (i : Item). bytes_eq i.name x.name) here ∙ same_name x) ∙ differ in absurd (let worse : true ≡ false = bad in cc)
    by_name false differ (inr among) rest =
        let a = one_item x.name y ys in
        let d : items_named x.name (y ∷ ys) ≤ 1 = few in
        cond-false (bytes_eq y.name x.name) (Some y) (named x.name ys) differ ∙ rest among (omega (arith, a, d))

no_name : (t : Bool) → not t ≡ true → t ≡ false
no_name true e = let bad : false ≡ true = e in cc
no_name false e = refl

module _ (b : Bearer) (v : Room) (m : ℕ → Option (List ℕ)) (items : List Item) (item : Item) (holds : Holds b v m) (area : items_of (drop 232 (contents m b.id)) ≡ Some items)
    (is : longest (filter (λ item. not (is_name_item item)) items) ≡ Some item) where
  abbrev volume : Volume
  volume = volume_at b.geometry m

  abbrev behind : List Named
  behind = attributes_of volume (attribute_directory volume b.id)

  same_items : holds.stands.items ≡ items
  same_items = let e : Some holds.stands.items ≡ Some items = sym holds.stands.area ∙ area in cc

  few : items_named item.name items ≤ 1
  few = subst (λ (l : List Item). items_named item.name l ≤ 1) same_items (holds.stands.distinct item.name)

  kept : IsAmong item items × (not (is_name_item item) ≡ true)
  kept = among_kept (λ item. not (is_name_item item)) items item (longest_among (filter (λ item. not (is_name_item item)) items) item is)

  has : HasAttribute item.name items
  has = (item, among_named items item kept.0 few, no_name (is_name_item item) kept.1)

  listed : entries_at volume b.id ≡ attributes_in items ++ behind
  listed = ap (λ (o : Option (List Item)). entries_with volume b.id (unwrap_or o [])) area

  pub longest_within : IsWithin b v m item.name (attribute_in item)
  unfolding has
  longest_within = record {
    holds = holds;
    within = subst (λ (o : Option (List Item)). IfSome o (HasAttribute item.name)) (sym area) has;
    there =
        sym (value_is (entries_at volume b.id) item.name) ∙ ap (λ (l : List Named). value_at l item.name) listed
        ∙ small_there item.name behind items has.0 has.1 has.2;
  }
