-- The items of small data in which a node's own name is set.
use Rattle.std.proofs.Common.{◌≡◌, ◌≤◌, ◌∙◌, ℕ, List, [], ◌∷◌, length, drop, Bool, true, false, cond, Some, refl, ap, arith}
use Rattle.std.specs.List.{AllByRecursion}
use Rattle.std.specs.Option.{option_map}
use Rattle.std.specs.Str.{bytes_eq}
use Rattle.bfs_smalldata.specs.Items.{Item, items_of}
use Rattle.bfs_smalldata.specs.Edits.{named, without, with_item}
use Rattle.bfs_sound.specs.Attributes.{own_name}
use Rattle.bfs_attr.specs.Changed.{name_item}
use Rattle.bfs_attr_put.proofs.Names.{all_left}
use Rattle.bfs_set_name.specs.Renamed.{without_each}

-- what holds of all items and of one more holds of them with this one
all_with : (P : Item → Type 0) (new : Item) (items : List Item) → P new → AllByRecursion P items → AllByRecursion P (with_item new items)
all_with P new [] it all = (it, tt)
all_with P new (x ∷ xs) it all = by_test (bytes_eq x.name new.name) (all_with P new xs it all.1)
  where
    by_test : (t : Bool) → AllByRecursion P (with_item new xs) → AllByRecursion P (cond t (new ∷ xs) (x ∷ with_item new xs))
    by_test true rest = (it, all.1)
    by_test false rest = (all.0, rest)

-- what holds of all items holds of those that are left
all_without : (P : Item → Type 0) (moved items : List Item) → AllByRecursion P items → AllByRecursion P (without_each moved items)
all_without P [] items all = all
all_without P (x ∷ xs) items all = all_without P xs (without x.name items) (all_left P x.name items all)

-- the node's own name is the first of its name then
own_found : (name : List ℕ) (items : List Item) → named own_name (with_item (name_item name) items) ≡ Some (name_item name)
own_found name [] = refl
own_found name (x ∷ xs) = by_test (bytes_eq x.name own_name) refl (own_found name xs)
  where
    by_test : (t : Bool) → bytes_eq x.name own_name ≡ t → named own_name (with_item (name_item name) xs) ≡ Some (name_item name) → named own_name (cond t (name_item name ∷ xs) (x ∷ with_item (name_item name) xs)) ≡ Some (name_item name)
    by_test true same rest = refl
    by_test false other rest = ap (λ (t : Bool). cond t (Some x) (named own_name (with_item (name_item name) xs))) other ∙ rest

-- The second block is as long as the first, and its small data is a list of items, each with a name that isn't too long, of which the first of
-- that name is the node's own name, with these bytes.
pub record HasName (old new name : List ℕ) : Type 0 where
  pub long : length new ≡ length old
  pub items : List Item
  pub area : items_of (drop 232 new) ≡ Some items
  pub short : AllByRecursion (λ item. length item.name ≤ 255) items
  pub own : named own_name items ≡ Some (name_item name)

pub has_name : (old new name : List ℕ) (moved items : List Item) → length new ≡ length old → items_of (drop 232 old) ≡ Some items → AllByRecursion (λ item. length item.name ≤ 255) items
    → items_of (drop 232 new) ≡ option_map (λ items. with_item (name_item name) (without_each moved items)) (items_of (drop 232 old)) → HasName old new name
has_name old new name moved items long area short now = record {
  long = long;
  items = with_item (name_item name) (without_each moved items);
  area = now ∙ ap (option_map (λ items. with_item (name_item name) (without_each moved items))) area;
  short = all_with (λ item. length item.name ≤ 255) (name_item name) (without_each moved items) (omega arith) (all_without (λ item. length item.name ≤ 255) moved items short);
  own = own_found name (without_each moved items);
}
