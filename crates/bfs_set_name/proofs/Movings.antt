-- Which attributes move out of small data for a name: none where it has room, else the longest first.
use Rattle.std.proofs.Common.{◌≡◌, ◌⊎◌, inl, inr, ◌≤◌, ◌+◌, ◌-◌, ◌∙◌, ℕ, zero, suc, List, [], ◌∷◌, length, Bool, true, false, cond, not, Option, Some, None, refl, sym, ap, subst, arith}
use Rattle.std.specs.Prelude.{nat_le, IfSome}
use Rattle.std.specs.List.{filter}
use Rattle.std.specs.Option.{option_map_or}
use Rattle.std.specs.Str.{bytes_eq}
use Rattle.std.proofs.lemmas.Bool.{cases_Bool}
use Rattle.std.proofs.lemmas.Slice.Eq.{bytes_eq-Decides}
use Rattle.bfs_smalldata.specs.Items.{Item, size_of, sizes_of}
use Rattle.bfs_smalldata.specs.Edits.{named, without}
use Rattle.bfs_smalldata.proofs.Naming.{named_first, named_later, without_first, without_later}
use Rattle.bfs_sound.specs.Attributes.{own_name, is_name_item}
use Rattle.bfs_sound.specs.Need.{longer, longest, moving, moving_from}
use Rattle.bfs_attr.proofs.Apart.{items_named, one_item}
use Rattle.bfs_attr.proofs.Changes.{other_item}
use Rattle.bfs_attr.proofs.OwnNames.{IsOwnFirst}

abbrev pub attributes : List Item → List Item
attributes items = filter (λ item. not (is_name_item item)) items

same_some : (x y : Item) → Some x ≡ Some y → x ≡ y
same_some x y e = cc

kept : (x : Item) (xs : List Item) → is_name_item x ≡ false → attributes (x ∷ xs) ≡ x ∷ attributes xs
kept x xs other = ap (λ (t : Bool). cond (not t) (x ∷ attributes xs) (attributes xs)) other

passed : (x : Item) (xs : List Item) → is_name_item x ≡ true → attributes (x ∷ xs) ≡ attributes xs
passed x xs own = ap (λ (t : Bool). cond (not t) (x ∷ attributes xs) (attributes xs)) own

module _ (name : List ℕ) (other : bytes_eq name own_name ≡ false) where
  -- an attribute that is taken out of the items is taken out of the attributes
  pub attributes_without : (items : List Item) → attributes (without name items) ≡ without name (attributes items)
  attributes_without [] = refl
  attributes_without (x ∷ xs) = by_name (cases_Bool (bytes_eq x.name name)) (attributes_without xs)
    where
      by_own : (is_name_item x ≡ true) ⊎ (is_name_item x ≡ false) → bytes_eq x.name name ≡ false → attributes (without name xs) ≡ without name (attributes xs) → attributes (x ∷ without name xs) ≡ without name (attributes (x ∷ xs))
      by_own (inl own) differ rest = passed x (without name xs) own ∙ rest ∙ sym (ap (without name) (passed x xs own))
      by_own (inr is) differ rest = kept x (without name xs) is ∙ ap (λ (l : List Item). x ∷ l) rest ∙ sym (ap (without name) (kept x xs is) ∙ without_later name x (attributes xs) differ)

      by_name : (bytes_eq x.name name ≡ true) ⊎ (bytes_eq x.name name ≡ false) → attributes (without name xs) ≡ without name (attributes xs) → attributes (without name (x ∷ xs)) ≡ without name (attributes (x ∷ xs))
      by_name (inl same) rest =
          ap attributes (without_first name x xs same)
          ∙ sym (ap (without name) (kept x xs (other_item x name ((bytes_eq-Decides x.name name).0 same) other)) ∙ without_first name x (attributes xs) same)
      by_name (inr differ) rest = ap attributes (without_later name x xs differ) ∙ by_own (cases_Bool (is_name_item x)) differ rest

  -- and there is one fewer
  pub one_fewer : (items : List Item) (item : Item) → named name items ≡ Some item → length (attributes items) ≡ suc (length (attributes (without name items)))
  one_fewer [] item there = let bad : None ≡ Some item = there in cc
  one_fewer (x ∷ xs) item there = by_name (cases_Bool (bytes_eq x.name name)) (one_fewer xs item)
    where
      by_own : (is_name_item x ≡ true) ⊎ (is_name_item x ≡ false) → length (attributes xs) ≡ suc (length (attributes (without name xs))) → length (attributes (x ∷ xs)) ≡ suc (length (attributes (x ∷ without name xs)))
      by_own (inl own) rest = ap length (passed x xs own) ∙ rest ∙ sym (ap (λ (l : List Item). suc (length l)) (passed x (without name xs) own))
      by_own (inr is) rest = ap length (kept x xs is) ∙ ap suc rest ∙ sym (ap (λ (l : List Item). suc (length l)) (kept x (without name xs) is))

      by_name : (bytes_eq x.name name ≡ true) ⊎ (bytes_eq x.name name ≡ false) → (named name xs ≡ Some item → length (attributes xs) ≡ suc (length (attributes (without name xs)))) → length (attributes (x ∷ xs)) ≡ suc (length (attributes (without name (x ∷ xs))))
      by_name (inl same) rest =
          ap length (kept x xs (other_item x name ((bytes_eq-Decides x.name name).0 same) other))
          ∙ sym (ap (λ (l : List Item). suc (length (attributes l))) (without_first name x xs same))
      by_name (inr differ) rest =
          by_own (cases_Bool (is_name_item x)) (rest (sym (named_later name x xs differ) ∙ there))
          ∙ sym (ap (λ (l : List Item). suc (length (attributes l))) (without_later name x xs differ))

-- where no item has the own name, all are attributes
no_own : (items : List Item) → items_named own_name items ≡ 0 → sizes_of items ≡ sizes_of (attributes items)
no_own [] none = refl
no_own (x ∷ xs) none = by_own (cases_Bool (bytes_eq x.name own_name)) (no_own xs)
  where
    by_own : (bytes_eq x.name own_name ≡ true) ⊎ (bytes_eq x.name own_name ≡ false) → (items_named own_name xs ≡ 0 → sizes_of xs ≡ sizes_of (attributes xs)) → sizes_of (x ∷ xs) ≡ sizes_of (attributes (x ∷ xs))
    by_own (inl same) rest =
        let a = one_item own_name x xs in
        let b : cond {A = ℕ} (bytes_eq x.name own_name) 1 0 ≡ 1 = ap (λ (t : Bool). cond {A = ℕ} t 1 0) same in
        absurd (omega (arith, a, b, none))
    by_own (inr differ) rest =
        let few = rest (let a = one_item own_name x xs in omega (arith, a, none)) in
        ap (λ (n : ℕ). size_of x + n) few ∙ sym (ap sizes_of (kept x xs (other_item x x.name refl differ)))

-- the attributes take as many bytes as all items but the node's own name
pub sizes_own : (items : List Item) → IsOwnFirst items → items_named own_name items ≤ 1 → sizes_of (without own_name items) ≡ sizes_of (attributes items)
sizes_own [] own few = refl
sizes_own (x ∷ xs) own few = by_own (cases_Bool (bytes_eq x.name own_name)) (sizes_own xs)
  where
    by_own : (bytes_eq x.name own_name ≡ true) ⊎ (bytes_eq x.name own_name ≡ false) → (IsOwnFirst xs → items_named own_name xs ≤ 1 → sizes_of (without own_name xs) ≡ sizes_of (attributes xs)) → sizes_of (without own_name (x ∷ xs)) ≡ sizes_of (attributes (x ∷ xs))
    by_own (inl same) rest =
        let is : is_name_item x ≡ true = subst (λ (o : Option Item). IfSome o (λ item. is_name_item item ≡ true)) (named_first own_name x xs same) own in
        let a = one_item own_name x xs in
        let b : cond {A = ℕ} (bytes_eq x.name own_name) 1 0 ≡ 1 = ap (λ (t : Bool). cond {A = ℕ} t 1 0) same in
        let d : items_named own_name (x ∷ xs) ≤ 1 = few in
        ap sizes_of (without_first own_name x xs same) ∙ no_own xs (omega (arith, a, b, d)) ∙ sym (ap sizes_of (passed x xs is))
    by_own (inr differ) rest =
        let a = one_item own_name x xs in
        let d : items_named own_name (x ∷ xs) ≤ 1 = few in
        let less = rest (subst (λ (o : Option Item). IfSome o (λ item. is_name_item item ≡ true)) (named_later own_name x xs differ) own) (omega (arith, a, d)) in
        ap sizes_of (without_later own_name x xs differ) ∙ ap (λ (n : ℕ). size_of x + n) less ∙ sym (ap sizes_of (kept x xs (other_item x x.name refl differ)))

le_true : (a b : ℕ) → nat_le a b ≡ true → a ≤ b
le_true a b e = grind (arith, e)

true_le : (a b : ℕ) → a ≤ b → nat_le a b ≡ true
true_le a b e = grind (arith, e)

-- none moves where all have room
moving_none : (n room : ℕ) (items : List Item) → sizes_of items ≤ room → moving n room items ≡ []
moving_none zero room items fits = refl
moving_none (suc n) room items fits = ap (λ (t : Bool). cond t [] (option_map_or (λ (item : Item). item ∷ moving n room (without item.name items)) (longest items) [])) (true_le (sizes_of items) room fits)

-- the longest of those that have none
pub record Longest (items : List Item) : Type 0 where
  pub item : Item
  pub is : longest items ≡ Some item

some_longest : (n room : ℕ) (items : List Item) → nat_le (sizes_of items) room ≡ false → Longest items
some_longest n room [] e = let bad : nat_le 0 room ≡ true = true_le 0 room (omega arith) in absurd (let worse : true ≡ false = sym bad ∙ e in cc)
some_longest n room (x ∷ xs) e = record { item = longer x (longest xs); is = refl }

moving_some : (n room : ℕ) (items : List Item) (item : Item) → nat_le (sizes_of items) room ≡ false → longest items ≡ Some item → moving (suc n) room items ≡ item ∷ moving n room (without item.name items)
moving_some n room items item e is =
    ap (λ (t : Bool). cond t [] (option_map_or (λ (x : Item). x ∷ moving n room (without x.name items)) (longest items) [])) e
    ∙ ap (λ (o : Option Item). option_map_or (λ (x : Item). x ∷ moving n room (without x.name items)) o []) is

-- no more move than there are
moving_most : (n room : ℕ) (items : List Item) → length (moving n room items) ≤ n
moving_most zero room items = omega arith
moving_most (suc n) room items = by_fit (nat_le (sizes_of items) room) (longest items) (moving_most n room)
  where
    by_fit : (t : Bool) (o : Option Item) → ((l : List Item) → length (moving n room l) ≤ n) → length (cond t [] (option_map_or (λ (x : Item). x ∷ moving n room (without x.name items)) o [])) ≤ suc n
    by_fit true o rest = omega arith
    by_fit false None rest = omega arith
    by_fit false (Some x) rest = let h = rest (without x.name items) in omega (arith, h)

attributes_most : (items : List Item) → length (attributes items) ≤ sizes_of items
attributes_most [] = omega arith
attributes_most (x ∷ xs) = by_own (cases_Bool (is_name_item x)) (attributes_most xs)
  where
    by_own : (is_name_item x ≡ true) ⊎ (is_name_item x ≡ false) → length (attributes xs) ≤ sizes_of xs → length (attributes (x ∷ xs)) ≤ sizes_of (x ∷ xs)
    by_own (inl own) rest = subst (λ (l : List Item). length l ≤ sizes_of (x ∷ xs)) (sym (passed x xs own)) (omega (arith, rest))
    by_own (inr is) rest = subst (λ (l : List Item). length l ≤ sizes_of (x ∷ xs)) (sym (kept x xs is)) (omega (arith, rest))

-- the attributes that move of items, where the node's own name gets so many bytes
module _ (size n : ℕ) (items : List Item) (own : IsOwnFirst items) (few : items_named own_name items ≤ 1) where
  abbrev pub room : ℕ
  room = size - (8 + length own_name + 3 + n + 1)

  pub none_moves : sizes_of (without own_name items) + (8 + length own_name + 3 + n + 1) ≤ size → moving_from size n (Some items) ≡ []
  none_moves fits = let same = sizes_own items own few in moving_none (length (attributes items)) room (attributes items) (omega (arith, fits, same))

  pub most_move : sizes_of items ≤ size → length (moving_from size n (Some items)) ≤ size
  most_move inside = let a = moving_most (length (attributes items)) room (attributes items) in let b = attributes_most items in omega (arith, a, b, inside)

  -- where the name has no room, the longest moves, and then those that move of the others
  pub record First : Type 0 where
    pub item : Item
    pub is : longest (attributes items) ≡ Some item
    pub order : bytes_eq item.name own_name ≡ false → (x : Item) → named item.name items ≡ Some x → moving_from size n (Some items) ≡ item ∷ moving_from size n (Some (without item.name items))

  pub first_moves : (sizes_of (without own_name items) + (8 + length own_name + 3 + n + 1) ≤ size → ⊥) → n ≤ 255 → 268 ≤ size → First
  first_moves over short long =
      let first = some_longest 0 room (attributes items) full in
      record {
        item = first.item;
        is = first.is;
        order = λ other x there.
            ap (λ (k : ℕ). moving k room (attributes items)) (one_fewer first.item.name other items x there)
            ∙ moving_some (length (attributes (without first.item.name items))) room (attributes items) first.item full first.is
            ∙ ap (λ (l : List Item). first.item ∷ moving (length (attributes (without first.item.name items))) room l) (sym (attributes_without first.item.name other items));
      }
    where
      by_room : (t : Bool) → nat_le (sizes_of (attributes items)) room ≡ t → nat_le (sizes_of (attributes items)) room ≡ false
      by_room true e =
          let h = le_true (sizes_of (attributes items)) room e in let same = sizes_own items own few in
          absurd (over (omega (arith, h, same, short, long)))
      by_room false e = e

      full : nat_le (sizes_of (attributes items)) room ≡ false
      full = by_room (nat_le (sizes_of (attributes items)) room) refl
