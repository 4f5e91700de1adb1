-- A node's own name stays in small data where an attribute is taken.
use Rattle.std.proofs.Common.{◌≡◌, ◌≤◌, ◌⊎◌, inl, inr, ℕ, List, [], ◌∷◌, length, drop, Bool, true, false, cond, Option, Some, None, refl, sym, ap, ◌∙◌, subst}
use Rattle.std.specs.Prelude.{IfSome}
use Rattle.std.specs.List.{AllByRecursion}
use Rattle.std.specs.Option.{option_map}
use Rattle.std.specs.Str.{bytes_eq}
use Rattle.bfs_smalldata.specs.Items.{Item, items_of}
use Rattle.bfs_smalldata.specs.Edits.{named, without}
use Rattle.bfs_tree.specs.Trees.{Node}
use Rattle.bfs_sound.specs.Volumes.{Volume}
use Rattle.bfs_sound.specs.Nodes.{HasNode}
use Rattle.bfs_sound.specs.Attributes.{own_name, is_name_item}
use Rattle.bfs_attr.specs.SmallData.{HasAttribute, HasSmall}
use Rattle.bfs_attr_calls.specs.Attributed.{KeepsName}

-- what holds of all items holds of those that are left
pub all_left : (P : Item → Type 0) (name : List ℕ) (items : List Item) → AllByRecursion P items → AllByRecursion P (without name items)
all_left P name [] all = tt
all_left P name (x ∷ xs) all = by_test (bytes_eq x.name name) (all_left P name xs all.1)
  where
    by_test : (t : Bool) → AllByRecursion P (without name xs) → AllByRecursion P (cond t xs (x ∷ without name xs))
    by_test true rest = all.1
    by_test false rest = (all.0, rest)

-- the node's own name is found still
pub own_left : (name : List ℕ) (items : List Item) (item : Item) → HasAttribute name items → named own_name items ≡ Some item → is_name_item item ≡ true → named own_name (without name items) ≡ Some item
own_left name [] item attribute found is = absurd (let bad : None ≡ Some item = found in cc)
own_left name (x ∷ xs) item attribute found is = by_tests (bytes_eq x.name name) refl (bytes_eq x.name own_name) refl (own_left name xs item)
  where
    by_tests : (t : Bool) → bytes_eq x.name name ≡ t → (u : Bool) → bytes_eq x.name own_name ≡ u → (HasAttribute name xs → named own_name xs ≡ Some item → is_name_item item ≡ true → named own_name (without name xs) ≡ Some item)
        → named own_name (without name (x ∷ xs)) ≡ Some item
    by_tests true e true f rest =
        let gone : Some x ≡ Some attribute.0 = ap (λ (t : Bool). cond t (Some x) (named name xs)) (sym e) ∙ attribute.1 in
        let own : Some x ≡ Some item = ap (λ (t : Bool). cond t (Some x) (named own_name xs)) (sym f) ∙ found in
        let one : attribute.0 ≡ item = cc in
        absurd (let bad : false ≡ true = sym attribute.2 ∙ ap is_name_item one ∙ is in cc)
    by_tests true e false f rest =
        ap (λ (t : Bool). named own_name (cond t xs (x ∷ without name xs))) e ∙ ap (λ (t : Bool). cond t (Some x) (named own_name xs)) (sym f) ∙ found
    by_tests false e true f rest =
        ap (λ (t : Bool). named own_name (cond t xs (x ∷ without name xs))) e
        ∙ ap (λ (t : Bool). cond t (Some x) (named own_name (without name xs))) f
        ∙ ap (λ (t : Bool). cond t (Some x) (named own_name xs)) (sym f) ∙ found
    by_tests false e false f rest =
        ap (λ (t : Bool). named own_name (cond t xs (x ∷ without name xs))) e
        ∙ ap (λ (t : Bool). cond t (Some x) (named own_name (without name xs))) f
        ∙ rest (attribute.0, ap (λ (t : Bool). cond t (Some x) (named name xs)) (sym e) ∙ attribute.1, attribute.2) (ap (λ (t : Bool). cond t (Some x) (named own_name xs)) (sym f) ∙ found) is

pub keeps_name : (v : Volume) (id : ℕ) (n : Node) (name new : List ℕ) → HasNode v id n → length new ≡ length (v.blocks id)
    → (items_of (drop 232 new) ≡ items_of (drop 232 (v.blocks id))) ⊎ (HasSmall (drop 232 (v.blocks id)) name × (items_of (drop 232 new) ≡ option_map (without name) (items_of (drop 232 (v.blocks id))))) → KeepsName (v.blocks id) new
keeps_name v id n name new has long (inl same) = record {
  long = long;
  items = has.items;
  area = same ∙ has.area;
  short = has.short;
  own = λ before item at found is. let both : Some before ≡ Some has.items = sym at ∙ has.area in let one : before ≡ has.items = cc in subst (λ (l : List Item). named own_name l ≡ Some item) one found;
}
keeps_name v id n name new has long (inr taken) = record {
  long = long;
  items = without name has.items;
  area = taken.1 ∙ ap (option_map (without name)) has.area;
  short = all_left (λ item. length item.name ≤ 255) name has.items has.short;
  own = λ before item at found is.
      let both : Some before ≡ Some has.items = sym at ∙ has.area in
      let one : before ≡ has.items = cc in
      own_left name has.items item (subst (λ (o : Option (List Item)). IfSome o (HasAttribute name)) has.area taken.0) (subst (λ (l : List Item). named own_name l ≡ Some item) one found) is;
}
