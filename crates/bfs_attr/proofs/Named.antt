-- An item that was looked for by its name.
use Rattle.std.proofs.Common.{◌≡◌, ⊎_elim, ℕ, List, [], ◌∷◌, Bool, true, false, not, Option, Some, None, refl, sym, ◌∙◌, ap, subst}
use Rattle.std.specs.Prelude.{IsSome, IfSome, IsTrue}
use Rattle.std.specs.Option.{option_and_then}
use Rattle.std.specs.Str.{bytes_eq}
use Rattle.std.proofs.lemmas.Bool.{cases_Bool, cond-true, cond-false}
use Rattle.std.proofs.lemmas.Slice.Eq.{bytes_eq-Decides}
use Rattle.bfs_smalldata.specs.Items.{Item, items_of}
use Rattle.bfs_smalldata.specs.Edits.{named, Finds, IsPlaceOf}
use Rattle.bfs_smalldata.specs.declared.item.Item as found
use Rattle.bfs_sound.specs.Attributes.{is_name_item}
use Rattle.bfs_attr.specs.SmallData.{HasAttribute, HasSmall}

-- an item that is found by a name has it
pub named_has : (name : List ℕ) (items : List Item) (item : Item) → named name items ≡ Some item → item.name ≡ name
named_has name [] item e = let bad : None ≡ Some item = e in cc
named_has name (x ∷ xs) item e = by_test (named_has name xs item)
  where
    by_test : (named name xs ≡ Some item → item.name ≡ name) → item.name ≡ name
    by_test later =
        ⊎_elim
        (λ same.
        let here : x ≡ item = let first : named name (x ∷ xs) ≡ Some x = cond-true (bytes_eq x.name name) (Some x) (named name xs) same in cc in
        ap (λ (i : Item). i.name) (sym here) ∙ (bytes_eq-Decides x.name name).0 same)
        (λ other. later (sym (cond-false (bytes_eq x.name name) (Some x) (named name xs) other) ∙ e))
        (cases_Bool (bytes_eq x.name name))

-- an item was found, and its bytes are these
pub record IsFound (area name : List ℕ) (kind : ℕ) (part : List ℕ) : Type 0 where
  pub items : List Item
  pub item : Item
  pub are : items_of area ≡ Some items
  pub is : named name items ≡ Some item
  pub kind_is : kind ≡ item.kind
  pub name_is : name ≡ item.name
  pub bytes_are : part ≡ item.bytes

pub found_item : (area name : List ℕ) (place : found.Item) (part : List ℕ) → IsSome (items_of area) → Finds area (option_and_then (named name) (items_of area)) (Some place) → ((item : Item) → IsPlaceOf area item place → part ≡ item.bytes) → IsFound area name place.kind part
found_item area name place part some finds bytes = in_items (items_of area) refl some finds
  where
    in_found : (items : List Item) → items_of area ≡ Some items → (o : Option Item) → named name items ≡ o → Finds area o (Some place) → IsFound area name place.kind part
    in_found items are None e finds = let bad : Some place ≡ None = finds in cc
    in_found items are (Some item) e finds =
        record { items = items; item = item; are = are; is = e; kind_is = finds.kind; name_is = sym (named_has name items item e); bytes_are = bytes item finds }

    in_items : (o : Option (List Item)) → items_of area ≡ o → IsSome o → Finds area (option_and_then (named name) o) (Some place) → IsFound area name place.kind part
    in_items None e some finds = cc
    in_items (Some items) e some finds = in_found items e (named name items) refl finds

-- an item that was found is an attribute, or a node's own name
pub is_attribute : (r : Bool) (area name : List ℕ) (items : List Item) (item : Item) → items_of area ≡ Some items → named name items ≡ Some item → r ≡ is_name_item item → (IsTrue (not r) → HasSmall area name) × (HasSmall area name → IsTrue (not r))
is_attribute true area name items item are is own = (
  λ bad. let b : false ≡ true = bad in cc,
  λ has.
      let h : HasAttribute name items = subst (λ (o : Option (List Item)). IfSome o (HasAttribute name)) are has in
      let same : h.0 ≡ item = let e : Some h.0 ≡ Some item = sym h.1 ∙ is in cc in
      let bad : true ≡ false = own ∙ ap is_name_item (sym same) ∙ h.2 in
      cc,
)
is_attribute false area name items item are is own = (λ t. subst (λ (o : Option (List Item)). IfSome o (HasAttribute name)) (sym are) (item, is, sym own), λ has. refl)
