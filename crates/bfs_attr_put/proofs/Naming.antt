-- A node's own name stays in small data where an attribute is put.
use Rattle.std.proofs.Common.{◌≡◌, ◌≤◌, inl, inr, ℕ, List, [], ◌∷◌, length, drop, Bool, true, false, cond, Option, Some, None, refl, sym, ap, ◌∙◌, subst}
use Rattle.std.specs.Prelude.{IfSome}
use Rattle.std.specs.List.{AllByRecursion}
use Rattle.std.specs.Option.{option_map}
use Rattle.std.specs.Str.{bytes_eq}
use Rattle.std.proofs.lemmas.Slice.Eq.{bytes_eq-Decides}
use Rattle.bfs_smalldata.specs.Items.{Item, items_of}
use Rattle.bfs_smalldata.specs.Edits.{named, without, with_item}
use Rattle.bfs_tree.specs.Trees.{Node}
use Rattle.bfs_sound.specs.Volumes.{Volume}
use Rattle.bfs_sound.specs.Nodes.{HasNode}
use Rattle.bfs_sound.specs.Attributes.{own_name, is_name_item}
use Rattle.bfs_attr.specs.SmallData.{HasAttribute}
use Rattle.bfs_attr_calls.specs.Put.{GainsItem}
use Rattle.bfs_attr_calls.specs.AttrsRemoved.{LosesItem}
use Rattle.bfs_attr_calls.specs.Replaced.{ExchangesItem}
use Rattle.bfs_attr_calls.specs.Attributed.{KeepsName}
use Rattle.bfs_attr_calls.proofs.Names.{all_left, own_left}

-- what holds of all items and of one more holds of them with this one
all_with : (P : Item → Type 0) (new : Item) (items : List Item) → P new → AllByRecursion P items → AllByRecursion P (with_item new items)
all_with P new [] it all = (it, tt)
all_with P new (x ∷ xs) it all = by_test (bytes_eq x.name new.name) (all_with P new xs it all.1)
  where
    by_test : (t : Bool) → AllByRecursion P (with_item new xs) → AllByRecursion P (cond t (new ∷ xs) (x ∷ with_item new xs))
    by_test true rest = (it, all.1)
    by_test false rest = (all.0, rest)

-- an item of another name changes nothing of what is found
other_with : (new : Item) (items : List Item) (name : List ℕ) → bytes_eq new.name name ≡ false → named name (with_item new items) ≡ named name items
other_with new [] name apart = ap (λ (t : Bool). cond t (Some new) None) apart
other_with new (x ∷ xs) name apart = by_test (bytes_eq x.name new.name) refl (other_with new xs name apart)
  where
    by_test : (t : Bool) → bytes_eq x.name new.name ≡ t → named name (with_item new xs) ≡ named name xs → named name (cond t (new ∷ xs) (x ∷ with_item new xs)) ≡ cond (bytes_eq x.name name) (Some x) (named name xs)
    by_test true same rest =
        let one : x.name ≡ new.name = (bytes_eq-Decides x.name new.name).0 same in
        ap (λ (t : Bool). cond t (Some new) (named name xs)) apart
        ∙ ap (λ (t : Bool). cond t (Some x) (named name xs)) (sym (ap (λ (l : List ℕ). bytes_eq l name) one ∙ apart))
    by_test false other rest = ap (cond (bytes_eq x.name name) (Some x)) rest

-- of these items none has too long a name, and one that is a node's own name stands there still
record Keeps (old now : List Item) : Type 0 where
  pub short : AllByRecursion (λ item. length item.name ≤ 255) now
  pub own : (item : Item) → named own_name old ≡ Some item → is_name_item item ≡ true → named own_name now ≡ Some item

module _ (items : List Item) (short : AllByRecursion (λ item. length item.name ≤ 255) items) (old between new : List ℕ) (area : items_of old ≡ Some items) (put : Item) (few : length put.name ≤ 255) (other : bytes_eq put.name own_name ≡ false) where
  lost : LosesItem put.name old between → (left : List Item) × (items_of between ≡ Some left) × Keeps items left
  lost (inl same) = (items, same ∙ area, record { short = short; own = λ item found is. found })
  lost (inr taken) = (
    without put.name items,
    taken.1 ∙ ap (option_map (without put.name)) area,
    record {
      short = all_left (λ item. length item.name ≤ 255) put.name items short;
      own = λ item found is. own_left put.name items item (subst (λ (o : Option (List Item)). IfSome o (HasAttribute put.name)) area taken.0) found is;
    },
  )

  gained : (left : List Item) → items_of between ≡ Some left → Keeps items left → GainsItem put between new → (now : List Item) × (items_of new ≡ Some now) × Keeps items now
  gained left is keeps (inr same) = (left, same ∙ is, keeps)
  gained left is keeps (inl come) = (
    with_item put left,
    come ∙ ap (option_map (with_item put)) is,
    record {
      short = all_with (λ item. length item.name ≤ 255) put left few keeps.short;
      own = λ item found own. other_with put left own_name other ∙ keeps.own item found own;
    },
  )

pub put_keeps_name : (v : Volume) (id : ℕ) (n : Node) (put : Item) (new : List ℕ) → HasNode v id n → length new ≡ length (v.blocks id) → length put.name ≤ 255 → bytes_eq put.name own_name ≡ false
    → ExchangesItem put (drop 232 (v.blocks id)) (drop 232 new) → KeepsName (v.blocks id) new
put_keeps_name v id n put new has long few other exchange =
    let old = drop 232 (v.blocks id) in
    let one = lost has.items has.short old exchange.0 (drop 232 new) has.area put few other exchange.1 in
    let two = gained has.items has.short old exchange.0 (drop 232 new) has.area put few other one.0 one.1 one.2 exchange.2 in
    record {
      long = long;
      items = two.0;
      area = two.1;
      short = two.2.short;
      own = λ before item at found is.
          let both : Some before ≡ Some has.items = sym at ∙ has.area in
          let same : before ≡ has.items = cc in
          two.2.own item (subst (λ (l : List Item). named own_name l ≡ Some item) same found) is;
    }
