-- The item with a node's own name.
use Rattle.std.proofs.Common.{◌≡◌, ◌≢◌, ◌∙◌, ◌⊎◌, inl, inr, ℕ, List, [], ◌∷◌, take, drop, Bool, true, false, cond, ◌&&◌, ◌==◌, Option, Some, None, refl, sym, ap, subst, arith}
use Rattle.std.specs.Option.{option_and_then}
use Rattle.std.specs.Str.{bytes_eq}
use Rattle.bfs_smalldata.specs.declared.item.Item as found
use Rattle.bfs_smalldata.specs.Items.{Item, items_of}
use Rattle.bfs_smalldata.specs.Edits.{named, Finds}
use Rattle.bfs_smalldata.proofs.Naming.{named_first, named_later}
use Rattle.bfs_tree.specs.Names.{is_bad_name}
use Rattle.bfs_sound.specs.Volumes.{Volume}
use Rattle.bfs_sound.specs.Attributes.{own_name, is_name_item}
use Rattle.bfs_finding.specs.NodeFaults.{own_bytes, IsNameFault}
use Rattle.bfs_finding.specs.Ways.{Arrives, to_child}
use Rattle.bfs_node_check.specs.Names.{HasOwnName}

named_same : (q : List ℕ) (xs : List Item) (item : Item) → named q xs ≡ Some item → bytes_eq item.name q ≡ true
named_same q [] item e = let none : None ≡ Some item = e in cc
named_same q (x ∷ xs) item e = by_test (bytes_eq x.name q) refl (named_same q xs item)
  where
    by_test : (b : Bool) → bytes_eq x.name q ≡ b → (named q xs ≡ Some item → bytes_eq item.name q ≡ true) → bytes_eq item.name q ≡ true
    by_test true t rest =
        let first : Some x ≡ Some item = sym (named_first q x xs t) ∙ e in
        let same : x ≡ item = cc in subst (λ (i : Item). bytes_eq i.name q ≡ true) same t
    by_test false t rest = rest (sym (named_later q x xs t) ∙ e)

module _ (area : List ℕ) (items : List Item) (is : items_of area ≡ Some items) where
  abbrev FindsIt : Option found.Item → Type 0
  FindsIt result = Finds area (option_and_then (named own_name) (items_of area)) result

  finds_in : (result : Option found.Item) → FindsIt result → Finds area (named own_name items) result
  finds_in result h = subst (λ (o : Option (List Item)). Finds area (option_and_then (named own_name) o) result) is h

  found_by : (o : Option Item) (place : found.Item) → named own_name items ≡ o → Finds area o (Some place) → place.kind ≡ 0x43535452 → Some (take place.len (drop place.at area)) ≡ own_bytes o
  found_by None place e h kind = let no : Some place ≡ None = h in cc
  found_by (Some item) place e h kind =
      let name : bytes_eq item.name own_name ≡ true = named_same own_name items item e in
      let same : item.kind ≡ 0x43535452 = sym h.kind ∙ kind in
      let code : (item.kind == 0x43535452) ≡ true = grind (arith, same) in
      let test : is_name_item item ≡ true = ap (λ (b : Bool). b && bytes_eq item.name own_name) code ∙ name in
      ap (λ (l : List ℕ). Some l) h.bytes ∙ sym (ap (λ (b : Bool). cond b (Some item.bytes) None) test)

  other_by : (o : Option Item) (place : found.Item) → Finds area o (Some place) → (place.kind ≡ 0x43535452 → ⊥) → None ≡ own_bytes o
  other_by None place h kind = refl
  other_by (Some item) place h kind =
      let same : place.kind ≡ item.kind = h.kind in
      let other : item.kind ≡ 0x43535452 → ⊥ = λ e. kind (same ∙ e) in
      let code : (item.kind == 0x43535452) ≡ false = grind (arith, other) in
      let test : is_name_item item ≡ false = ap (λ (b : Bool). b && bytes_eq item.name own_name) code in
      sym (ap (λ (b : Bool). cond b (Some item.bytes) None) test)

  missing_by : (o : Option Item) → Finds area o None → None ≡ own_bytes o
  missing_by None h = refl
  missing_by (Some item) h = absurd h

  pub own_found : (place : found.Item) → FindsIt (Some place) → place.kind ≡ 0x43535452 → Some (take place.len (drop place.at area)) ≡ own_bytes (named own_name items)
  own_found place h kind = found_by (named own_name items) place refl (finds_in (Some place) h) kind

  pub own_other : (place : found.Item) → FindsIt (Some place) → (place.kind ≡ 0x43535452 → ⊥) → None ≡ own_bytes (named own_name items)
  own_other place h kind = other_by (named own_name items) place (finds_in (Some place) h) kind

  pub own_missing : FindsIt None → None ≡ own_bytes (named own_name items)
  own_missing h = missing_by (named own_name items) (finds_in None h)

pub own_named : (items : List Item) (row : List ℕ) → own_bytes (named own_name items) ≡ Some row → HasOwnName items row
own_named items row e = by_item (named own_name items) refl e
  where
    by_kind : (item : Item) (b : Bool) → named own_name items ≡ Some item → is_name_item item ≡ b → cond b (Some item.bytes) None ≡ Some row → HasOwnName items row
    by_kind item true there own e = let bytes : item.bytes ≡ row = cc in record { item = item; there = there; own = own; bytes = bytes }
    by_kind item false there own e = let none : None ≡ Some row = e in cc

    by_item : (o : Option Item) → named own_name items ≡ o → own_bytes o ≡ Some row → HasOwnName items row
    by_item None there e = let none : None ≡ Some row = e in cc
    by_item (Some item) there e = by_kind item (is_name_item item) there refl e

pub wrong_name : (v : Volume) (d id : ℕ) (bytes row : List ℕ) (items : List Item) (own : Option (List ℕ)) → v.blocks id ≡ bytes → items_of (drop 232 bytes) ≡ Some items → own ≡ own_bytes (named own_name items)
    → Arrives v (to_child d row) id → ((own ≡ Some row) × (is_bad_name row ≡ false) → ⊥) → IsNameFault v id row own
wrong_name v d id bytes row items own same area is arrives wrong = record {
  parent = d;
  there = arrives;
  items = items;
  area = ap (λ (l : List ℕ). items_of (drop 232 l)) same ∙ area;
  item_is = is;
  wrong = by_test (is_bad_name row) refl;
}
  where
    by_test : (b : Bool) → is_bad_name row ≡ b → (own ≢ Some row) ⊎ (is_bad_name row ≡ true)
    by_test true e = inr e
    by_test false e = inl (λ h. wrong (h, e))
