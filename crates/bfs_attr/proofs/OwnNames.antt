-- A node's own name that was put into small data: the attributes stay.
use Rattle.std.proofs.Common.{◌≡◌, ◌⊎◌, inl, inr, ℕ, List, [], ◌∷◌, ◌++◌, Bool, true, false, Option, Some, refl, sym, ◌∙◌, ap, subst, drop}
use Rattle.std.specs.Prelude.{IfSome, unwrap_or, Result, Ok, Err, MatchResult}
use Rattle.std.specs.Option.{option_map}
use Rattle.std.specs.Str.{bytes_eq}
use Rattle.std.specs.FinMap.{from_entries}
use Rattle.std.proofs.lemmas.Bool.{cases_Bool, cond-true, cond-false}
use Rattle.bfs_base.specs.Keys.{text_cmp}
use Rattle.bfs_bitmap.specs.Runs.{Room}
use Rattle.bfs_smalldata.specs.Items.{Item, items_of}
use Rattle.bfs_smalldata.specs.Edits.{named, with_item}
use Rattle.bfs_smalldata.proofs.Naming.{named_first, named_later}
use Rattle.bfs_stream.specs.Told.{contents}
use Rattle.bfs_txn.specs.Told.{with_block}
use Rattle.bfs_node.specs.declared.fault.TreeFault.{TreeFault}
use Rattle.bfs_stream.specs.declared.fault.GrowFault.{GrowFault}
use Rattle.bfs_maps.specs.Refused.{IsUndone}
use Rattle.bfs_make.proofs.Written.{block_here}
use Rattle.bfs_sound.specs.Volumes.{Volume}
use Rattle.bfs_sound.specs.Nodes.{AreApart}
use Rattle.bfs_sound.specs.Attributes.{Named, own_name, is_name_item, attributes_in, attributes_of, attribute_directory}
use Rattle.bfs_attr.specs.Bearers.{Bearer, volume_at, entries_with, attributes_at}
use Rattle.bfs_attr.specs.Changed.{Holds, AttributesNow, HasOwnName, HasNameSet, IsNamePut, name_item}
use Rattle.bfs_attr.specs.Written.{IsPutInto}
use Rattle.bfs_attr.proofs.Apart.{distinct_put}
use Rattle.bfs_attr.proofs.Changes.{front_is, front_none}
use Rattle.bfs_attr.proofs.Stays.{attributes_there}

-- an item of its name is a node's own name
abbrev pub IsOwnFirst : List Item → Type 0
IsOwnFirst items = IfSome (named own_name items) (λ item. is_name_item item ≡ true)

same_in_front : (x : Item) (xs ys : List Item) → attributes_in xs ≡ attributes_in ys → attributes_in (x ∷ xs) ≡ attributes_in (x ∷ ys)
same_in_front x xs ys same = by_own (cases_Bool (is_name_item x))
  where
    by_own : (is_name_item x ≡ true) ⊎ (is_name_item x ≡ false) → attributes_in (x ∷ xs) ≡ attributes_in (x ∷ ys)
    by_own (inl own) = front_none x xs own ∙ same ∙ sym (front_none x ys own)
    by_own (inr other) = front_is x xs other ∙ ap (λ (l : List Named). (x.name, record { code = x.kind; bytes = x.bytes }) ∷ l) same ∙ sym (front_is x ys other)

pub names_stay : (name : List ℕ) (items : List Item) → IsOwnFirst items → attributes_in (with_item (name_item name) items) ≡ attributes_in items
names_stay name [] own = front_none (name_item name) [] refl
names_stay name (x ∷ xs) own = by_name (cases_Bool (bytes_eq x.name own_name)) (names_stay name xs)
  where
    by_name : (bytes_eq x.name own_name ≡ true) ⊎ (bytes_eq x.name own_name ≡ false) → (IsOwnFirst xs → attributes_in (with_item (name_item name) xs) ≡ attributes_in xs) → attributes_in (with_item (name_item name) (x ∷ xs)) ≡ attributes_in (x ∷ xs)
    by_name (inl same) rest =
        let is : is_name_item x ≡ true = subst (λ (o : Option Item). IfSome o (λ item. is_name_item item ≡ true)) (named_first own_name x xs same) own in
        ap attributes_in (cond-true (bytes_eq x.name own_name) (name_item name ∷ xs) (x ∷ with_item (name_item name) xs) same) ∙ front_none (name_item name) xs refl ∙ sym (front_none x xs is)
    by_name (inr differ) rest =
        ap attributes_in (cond-false (bytes_eq x.name own_name) (name_item name ∷ xs) (x ∷ with_item (name_item name) xs) differ)
        ∙ same_in_front x (with_item (name_item name) xs) xs (rest (subst (λ (o : Option Item). IfSome o (λ item. is_name_item item ≡ true)) (named_later own_name x xs differ) own))

module _ (b : Bearer) (v : Room) (m : ℕ → Option (List ℕ)) (holds : Holds b v m) (told : Option (ℕ → Option (List ℕ))) (old new : ℕ → Bool) (written : (k : ℕ) → new k ≡ true → (old k ≡ true) ⊎ (k ≡ b.id)) (name : List ℕ) (own : HasOwnName (volume_at b.geometry m) b.id) where
  abbrev volume : Volume
  volume = volume_at b.geometry m

  abbrev behind : List Named
  behind = attributes_of volume (attribute_directory volume b.id)

  abbrev items : List Item
  items = holds.stands.items

  first : IsOwnFirst items
  first = subst (λ (o : Option (List Item)). IfSome o IsOwnFirst) holds.stands.area own

  module _ (put : IsPutInto m b.id (name_item name) told true) where
    named_area : items_of (drop 232 put.1.block) ≡ Some (with_item (name_item name) items)
    named_area = put.1.items ∙ ap (option_map (with_item (name_item name))) holds.stands.area

    map_named : from_entries {R = text_cmp} (entries_with volume b.id (with_item (name_item name) items)) ≡ attributes_at volume b.id
    map_named =
        ap (λ (l : List Named). from_entries {R = text_cmp} (l ++ behind)) (names_stay name items first)
        ∙ ap (λ (o : Option (List Item)). from_entries {R = text_cmp} (entries_with volume b.id (unwrap_or o []))) (sym holds.stands.area)

    now_named : (n : AttributesNow b v v m (attributes_at volume b.id) told old new) × (n.map ≡ with_block b.id put.1.block m)
    now_named =
        attributes_there b v m holds put.1.block put.1.before (with_item (name_item name) items) named_area (distinct_put (name_item name) items holds.stands.distinct)
        (subst (λ (l : List Named). AreApart (l ++ behind)) (sym (names_stay name items first)) holds.stands.apart)
        (attributes_at volume b.id) map_named told put.1.is old new written

    name_set : HasNameSet b v v m name told old new
    name_set = record {
      now_are = now_named.0;
      items = ap (λ (x : ℕ → Option (List ℕ)). items_of (drop 232 (contents x b.id))) now_named.1 ∙ ap (λ (o : Option (List ℕ)). items_of (drop 232 (unwrap_or o []))) (block_here m b.id put.1.block) ∙ put.1.items;
    }

  pub name_holds : (r : Result Bool (TreeFault GrowFault)) → MatchResult r (IsPutInto m b.id (name_item name) told) IsUndone → MatchResult r (IsNamePut b v m name told old new) IsUndone
  name_holds (Ok true) h = (h.0, name_set h)
  name_holds (Ok false) h = h
  name_holds (Err e) h = h
