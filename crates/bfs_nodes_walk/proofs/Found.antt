-- An item of a name that was looked for.
use Rattle.std.proofs.Common.{◌≡◌, ◌∙◌, ℕ, List, [], ◌∷◌, Bool, true, false, ◌==◌, Option, Some, None, refl, sym, ap, subst}
use Rattle.std.proofs.lemmas.Bool.{false≢true}
use Rattle.std.proofs.lemmas.Slice.Eq.{bytes_eq-Decides}
use Rattle.std.specs.Prelude.{IsSome, IsTrue, ◌↔◌, not, ◌&&◌}
use Rattle.std.specs.Option.{option_and_then}
use Rattle.std.specs.Str.{bytes_eq}
use Rattle.bfs_smalldata.specs.declared.item.Item as found
use Rattle.bfs_smalldata.specs.Items.{Item, items_of}
use Rattle.bfs_smalldata.specs.Edits.{named, Finds}
use Rattle.bfs_smalldata.proofs.Naming.{named_first, named_later}
use Rattle.bfs_sound.specs.Attributes.{own_name, is_name_item}
use Rattle.bfs_nodes_walk.specs.Attributes.{HasItem}

-- the item of a name has it
name_of : (name : List ℕ) (xs : List Item) (item : Item) → named name xs ≡ Some item → item.name ≡ name
name_of name [] item e = let none : None ≡ Some item = e in cc
name_of name (x ∷ xs) item e = by_test (bytes_eq x.name name) refl (name_of name xs item)
  where
    by_test : (c : Bool) → bytes_eq x.name name ≡ c → (named name xs ≡ Some item → item.name ≡ name) → item.name ≡ name
    by_test true t ih =
        let first : Some x ≡ Some item = sym (named_first name x xs t) ∙ e in
        let same : x ≡ item = cc in
        subst (λ (i : Item). i.name ≡ name) same ((bytes_eq-Decides x.name name).0 t)
    by_test false t ih = ih (sym (named_later name x xs t) ∙ e)

not_true : (t : Bool) → not t ≡ true → t ≡ false
not_true true e = absurd (false≢true e)
not_true false e = refl

module _ (area name : List ℕ) (items : List Item) (is : items_of area ≡ Some items) where
  abbrev FindsIt : Option found.Item → Type 0
  FindsIt result = Finds area (option_and_then (named name) (items_of area)) result

  finds_in : (result : Option found.Item) → FindsIt result → Finds area (named name items) result
  finds_in result h = subst (λ (o : Option (List Item)). Finds area (option_and_then (named name) o) result) is h

  some_by : (o : Option Item) (place : found.Item) → Finds area o (Some place) → IsSome o
  some_by None place h = let no : Some place ≡ None = h in cc
  some_by (Some item) place h = refl

  none_by : (o : Option Item) → Finds area o None → IsSome o → ⊥
  none_by None h s = false≢true s
  none_by (Some item) h s = absurd h

  pub there : (place : found.Item) → FindsIt (Some place) → IsSome (named name items)
  there place h = some_by (named name items) place (finds_in (Some place) h)

  pub missing : FindsIt None → IsSome (named name items) → ⊥
  missing h = none_by (named name items) (finds_in None h)

  pub lacks_item : FindsIt None → HasItem items name → ⊥
  lacks_item h item = missing h (subst (λ (o : Option Item). IsSome o) (sym item.1) refl)

  pub has_it : (place : found.Item) → FindsIt (Some place) → (t : Bool) → t ≡ (place.kind == 0x43535452 && bytes_eq name own_name) → IsTrue (not t) ↔ HasItem items name
  has_it place h t test = by_item (named name items) refl (finds_in (Some place) h)
    where
      by_item : (o : Option Item) → named name items ≡ o → Finds area o (Some place) → IsTrue (not t) ↔ HasItem items name
      by_item None e f = let no : Some place ≡ None = f in cc
      by_item (Some item) e f =
          let kind : place.kind ≡ item.kind = f.kind in
          let same : item.name ≡ name = name_of name items item e in
          let own : t ≡ is_name_item item =
          test
          ∙ ap (λ (k : ℕ). (k == 0x43535452) && bytes_eq name own_name) kind
          ∙ ap (λ (n : List ℕ). (item.kind == 0x43535452) && bytes_eq n own_name) (sym same) in (
            λ y. (item, e, sym own ∙ not_true t y),
            λ g.
                let one : Some item ≡ Some g.0 = sym e ∙ g.1 in
                let it : item ≡ g.0 = cc in
                ap not (own ∙ ap is_name_item it ∙ g.2),
          )
