-- Small data into which an attribute of a name fits as before, since none of its name was there but the one that was taken.
use Rattle.std.proofs.Common.{◌≡◌, ◌≤◌, ◌+◌, ◌-◌, ◌∙◌, ℕ, List, [], ◌∷◌, length, drop, Bool, true, false, cond, Option, Some, None, refl, sym, ap, subst, arith, length-drop}
use Rattle.std.specs.Prelude.{IfSome, IsSome, unwrap_or}
use Rattle.std.specs.Option.{option_map}
use Rattle.std.specs.Str.{bytes_eq}
use Rattle.bfs_bitmap.specs.Runs.{Room}
use Rattle.bfs_smalldata.specs.Items.{Item, items_of, sizes_of}
use Rattle.bfs_smalldata.specs.Edits.{without, HasRoom}
use Rattle.bfs_stream.specs.Told.{contents}
use Rattle.bfs_txn.specs.Told.{AreSized}
use Rattle.bfs_attr.specs.Bearers.{Bearer}
use Rattle.bfs_attr.specs.Changed.{Holds}
use Rattle.bfs_attr.proofs.Apart.{items_named, one_item, cut, uncut}
use Rattle.bfs_attrs.specs.Removed.{FitAlike}

none_to_cut : (name : List ℕ) (items : List Item) → items_named name items ≤ 0 → without name items ≡ items
none_to_cut name [] few = refl
none_to_cut name (x ∷ xs) few = by_name (bytes_eq x.name name) refl (none_to_cut name xs)
  where
    by_name : (b : Bool) → bytes_eq x.name name ≡ b → (items_named name xs ≤ 0 → without name xs ≡ xs) → without name (x ∷ xs) ≡ x ∷ xs
    by_name true same rest =
        let a = one_item name x xs in
        let b : cond {A = ℕ} (bytes_eq x.name name) 1 0 ≡ 1 = ap (λ (t : Bool). cond {A = ℕ} t 1 0) same in
        let none : items_named name (x ∷ xs) ≤ 0 = few in
        absurd (omega (arith, a, b, none))
    by_name false differ rest =
        let a = one_item name x xs in
        let none : items_named name (x ∷ xs) ≤ 0 = few in
        uncut name x xs differ ∙ ap (λ (l : List Item). x ∷ l) (rest (omega (arith, a, none)))

-- where no two have the name, none has it once one is out
cut_twice : (name : List ℕ) (items : List Item) → items_named name items ≤ 1 → without name (without name items) ≡ without name items
cut_twice name [] few = refl
cut_twice name (x ∷ xs) few = by_name (bytes_eq x.name name) refl (cut_twice name xs)
  where
    by_name : (b : Bool) → bytes_eq x.name name ≡ b → (items_named name xs ≤ 1 → without name (without name xs) ≡ without name xs) → without name (without name (x ∷ xs)) ≡ without name (x ∷ xs)
    by_name true same rest =
        let a = one_item name x xs in
        let b : cond {A = ℕ} (bytes_eq x.name name) 1 0 ≡ 1 = ap (λ (t : Bool). cond {A = ℕ} t 1 0) same in
        let one : items_named name (x ∷ xs) ≤ 1 = few in
        ap (without name) (cut name x xs same) ∙ none_to_cut name xs (omega (arith, a, b, one)) ∙ sym (cut name x xs same)
    by_name false differ rest =
        let a = one_item name x xs in
        let one : items_named name (x ∷ xs) ≤ 1 = few in
        ap (without name) (uncut name x xs differ) ∙ uncut name x (without name xs) differ ∙ ap (λ (l : List Item). x ∷ l) (rest (omega (arith, a, one))) ∙ sym (uncut name x xs differ)

module _ (name old new : List ℕ) (items : List Item) (few : items_named name items ≤ 1) (before : items_of old ≡ Some items) (since : items_of new ≡ Some (without name items)) (long : length new ≡ length old) where
  room_forth : (n : ℕ) → HasRoom new name n → HasRoom old name n
  room_forth n room =
      let a : sizes_of (without name (without name items)) + (8 + length name + 3 + n + 1) ≤ length new = subst (λ (o : Option (List Item)). IfSome o (λ items. sizes_of (without name items) + (8 + length name + 3 + n + 1) ≤ length new)) since room in
      let b : sizes_of (without name (without name items)) ≡ sizes_of (without name items) = ap sizes_of (cut_twice name items few) in
      subst (λ (o : Option (List Item)). IfSome o (λ items. sizes_of (without name items) + (8 + length name + 3 + n + 1) ≤ length old)) (sym before) (omega (arith, a, b, long))

  room_back : (n : ℕ) → HasRoom old name n → HasRoom new name n
  room_back n room =
      let a : sizes_of (without name items) + (8 + length name + 3 + n + 1) ≤ length old = subst (λ (o : Option (List Item)). IfSome o (λ items. sizes_of (without name items) + (8 + length name + 3 + n + 1) ≤ length old)) before room in
      let b : sizes_of (without name (without name items)) ≡ sizes_of (without name items) = ap sizes_of (cut_twice name items few) in
      subst (λ (o : Option (List Item)). IfSome o (λ items. sizes_of (without name items) + (8 + length name + 3 + n + 1) ≤ length new)) (sym since) (omega (arith, a, b, long))

  fit_alike : FitAlike name old new
  fit_alike n = (λ fits. (fits.0, room_forth n fits.1), λ fits. (fits.0, room_back n fits.1))

-- the same small data
pub same_fit : (name old new : List ℕ) → new ≡ old → FitAlike name old new
same_fit name old new same = subst (FitAlike name old) (sym same) (λ n. (λ fits. fits, λ fits. fits))

pub same_fit_told : (name : List ℕ) (old : List ℕ) (id : ℕ) (told : Option (ℕ → Option (List ℕ))) → IfSome told (λ map. drop 232 (contents map id) ≡ old) → IfSome told (λ map. FitAlike name old (drop 232 (contents map id)))
same_fit_told name old id None h = tt
same_fit_told name old id (Some map) h = same_fit name old (drop 232 (contents map id)) h

told_length : (o : Option (List ℕ)) (size : ℕ) → IfSome o (λ bytes. length bytes ≡ size) → IsSome o → length (unwrap_or o []) ≡ size
told_length (Some bytes) size h some = h
told_length None size h some = let bad : false ≡ true = some in absurd cc

-- what is left of the small data where the one of a name was taken
pub taken_fit : (b : Bearer) (v : Room) (m map : ℕ → Option (List ℕ)) (name : List ℕ) (before since : ℕ) (told later : Option (ℕ → Option (List ℕ))) → AreSized before told → AreSized since later → since ≡ before → told ≡ Some m → later ≡ Some map
    → Holds b v m → IsSome (map b.id) → IfSome later (λ map. items_of (drop 232 (contents map b.id)) ≡ option_map (without name) (items_of (drop 232 (contents m b.id))))
    → IfSome later (λ map. FitAlike name (drop 232 (contents m b.id)) (drop 232 (contents map b.id)))
taken_fit b v m map name before since told later sized resized same is are holds some left =
    let one : length (contents m b.id) ≡ before = told_length (m b.id) before (subst (AreSized before) is sized b.id) holds.inode in
    let two : length (contents map b.id) ≡ since = told_length (map b.id) since (subst (AreSized since) are resized b.id) some in
    let items : items_of (drop 232 (contents map b.id)) ≡ option_map (without name) (items_of (drop 232 (contents m b.id))) =
    subst (λ (o : Option (ℕ → Option (List ℕ))). IfSome o (λ map. items_of (drop 232 (contents map b.id)) ≡ option_map (without name) (items_of (drop 232 (contents m b.id))))) are left in
    let long : length (drop 232 (contents map b.id)) ≡ length (drop 232 (contents m b.id)) =
    length-drop 232 (contents map b.id) ∙ ap (λ (n : ℕ). n - 232) (two ∙ same ∙ sym one) ∙ sym (length-drop 232 (contents m b.id)) in
    subst (λ (o : Option (ℕ → Option (List ℕ))). IfSome o (λ map. FitAlike name (drop 232 (contents m b.id)) (drop 232 (contents map b.id)))) (sym are)
    (fit_alike name (drop 232 (contents m b.id)) (drop 232 (contents map b.id)) holds.stands.items (holds.stands.distinct name) holds.stands.area (items ∙ ap (option_map (without name)) holds.stands.area) long)

pub small_told : (m : ℕ → Option (List ℕ)) (id : ℕ) (told : Option (ℕ → Option (List ℕ))) (map : ℕ → Option (List ℕ)) → told ≡ Some map → drop 232 (contents map id) ≡ drop 232 (contents m id)
    → IfSome told (λ map. drop 232 (contents map id) ≡ drop 232 (contents m id))
small_told m id told map is same = subst (λ (o : Option (ℕ → Option (List ℕ))). IfSome o (λ map. drop 232 (contents map id) ≡ drop 232 (contents m id))) (sym is) same
