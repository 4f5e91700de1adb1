-- The items that are read from an area are those that stand in it.
use Rattle.std.proofs.Common.{◌≡◌, inl, inr, ⊎_elim, ℕ, zero, suc, ◌+◌, ◌<◌, ◌≤◌, ◌==◌, ◌||◌, Bool, true, false, cond, nat_lt, List, [], ◌∷◌, length, drop, Option, Some, None, refl, sym, ◌∙◌, ap, subst, arith, length-drop}
use Rattle.std.specs.Option.{option_map}
use Rattle.std.proofs.lemmas.Bool.{cases_Bool, cases_lt, cases_eq, cond-true, cond-false, or_cases, or_parts, or_from, or_left, or_right, ltb-true, ltb-false, lt-ltb, le-ltb, eq-eqb, ne_eqb, eqb-true, eqb-false}
use Rattle.std.proofs.lemmas.List.{drop-drop}
use Rattle.bfs_smalldata.specs.Items.{Item, Begins, Stand, GoesOn, Ends, IsArea, RunsPast, name_size, size_in, size_of, sizes_of, item_in, items_in, items_of}
use Rattle.bfs_smalldata.proofs.Reading.{is_more}

abbrev test : List ℕ → Bool
test b = nat_lt (length b) 8 || (name_size b == 0)

test_ends : (b : List ℕ) → test b ≡ true → Ends b
test_ends b e = ⊎_elim (λ short. inl (ltb-true (length b) 8 short)) (λ none. inr (eqb-true (name_size b) 0 none)) (or_cases (nat_lt (length b) 8) (name_size b == 0) e)

test_goes_on : (b : List ℕ) → test b ≡ false → GoesOn b
test_goes_on b e =
    let parts = or_parts (nat_lt (length b) 8) (name_size b == 0) e in
    let none : name_size b ≡ 0 → ⊥ = eqb-false (name_size b) 0 parts.1 in
    (ltb-false (length b) 8 parts.0, omega (arith, none))

ends_test : (b : List ℕ) → Ends b → test b ≡ true
ends_test b ends = ⊎_elim (λ short. or_left (nat_lt (length b) 8) (name_size b == 0) (lt-ltb (length b) 8 short)) (λ none. or_right (nat_lt (length b) 8) (name_size b == 0) (eq-eqb (name_size b) 0 none)) ends

goes_on_test : (b : List ℕ) → GoesOn b → test b ≡ false
goes_on_test b more = or_from (nat_lt (length b) 8) (name_size b == 0) (le-ltb (length b) 8 more.0) (ne_eqb (name_size b) 0 (λ e. omega (arith, more.1, e)))

-- a list ends where it doesn't go on
pub ends_or : (b : List ℕ) → (GoesOn b → ⊥) → Ends b
ends_or b none = ⊎_elim (λ short. inl short) (λ long. ⊎_elim (λ empty. inr empty) (λ some. absurd (none (long, omega (arith, some)))) (cases_eq (name_size b) 0)) (cases_lt (length b) 8)

-- how a reading goes on
read_end : (n : ℕ) (b : List ℕ) → Ends b → items_in (suc n) b ≡ Some []
read_end n b ends = cond-true (test b) (Some []) (cond (nat_lt (length b) (size_in b)) None (option_map (λ items. item_in b ∷ items) (items_in n (drop (size_in b) b)))) (ends_test b ends)

read_past : (n : ℕ) (b : List ℕ) → GoesOn b → length b < size_in b → items_in (suc n) b ≡ None
read_past n b more past =
    cond-false (test b) (Some []) (cond (nat_lt (length b) (size_in b)) None (option_map (λ items. item_in b ∷ items) (items_in n (drop (size_in b) b)))) (goes_on_test b more)
    ∙ cond-true (nat_lt (length b) (size_in b)) None (option_map (λ items. item_in b ∷ items) (items_in n (drop (size_in b) b))) (lt-ltb (length b) (size_in b) past)

read_item : (n : ℕ) (b : List ℕ) → GoesOn b → size_in b ≤ length b → items_in (suc n) b ≡ option_map (λ items. item_in b ∷ items) (items_in n (drop (size_in b) b))
read_item n b more inside =
    cond-false (test b) (Some []) (cond (nat_lt (length b) (size_in b)) None (option_map (λ items. item_in b ∷ items) (items_in n (drop (size_in b) b)))) (goes_on_test b more)
    ∙ cond-false (nat_lt (length b) (size_in b)) None (option_map (λ items. item_in b ∷ items) (items_in n (drop (size_in b) b))) (le-ltb (length b) (size_in b) inside)

mapped_some : (x : Item) (o : Option (List Item)) (items : List Item) → option_map (λ xs. x ∷ xs) o ≡ Some items → (xs : List Item) × (o ≡ Some xs) × (items ≡ x ∷ xs)
mapped_some x None items e = cc
mapped_some x (Some xs) items e = (xs, refl, cc)

mapped_none : (x : Item) (o : Option (List Item)) → option_map (λ xs. x ∷ xs) o ≡ None → o ≡ None
mapped_none x None e = refl
mapped_none x (Some xs) e = cc

-- what is read stands there
read_stands : (n : ℕ) (b : List ℕ) (items : List Item) → length b ≤ n → items_in n b ≡ Some items → IsArea b items
read_stands zero b items fuel e =
    let none : items ≡ [] = cc in
    subst (λ (xs : List Item). IsArea b xs) (sym none) (tt, inl (omega arith))
read_stands (suc n) b items fuel e =
    ⊎_elim
    (λ last.
    let none : items ≡ [] = let now = read_end n b (test_ends b last) in cc in
    subst (λ (xs : List Item). IsArea b xs) (sym none) (tt, test_ends b last))
    (λ more.
    let goes = test_goes_on b more in
    ⊎_elim
    (λ past. let now = read_past n b goes past in cc)
    (λ inside.
    let some = mapped_some (item_in b) (items_in n (drop (size_in b) b)) items (sym (read_item n b goes inside) ∙ e) in
    let begins : Begins b (item_in b) = record { goes_on = goes; inside = inside; same = refl } in
    let size : size_of (item_in b) ≡ size_in b = is_more b (item_in b) begins in
    let rest : IsArea (drop (size_in b) b) some.0 = read_stands n (drop (size_in b) b) some.0 (omega (arith, fuel, length-drop (size_in b) b)) some.1 in
    let here : IsArea (drop (size_of (item_in b)) b) some.0 = subst (λ (k : ℕ). IsArea (drop k b) some.0) (sym size) rest in
    subst (λ (xs : List Item). IsArea b xs) (sym some.2)
    ((begins, here.0), subst Ends (drop-drop (sizes_of some.0) (size_of (item_in b)) b) here.1))
    (cases_lt (length b) (size_in b)))
    (cases_Bool (test b))

-- what stands there is read
stands_read : (items : List Item) (n : ℕ) (b : List ℕ) → length b ≤ n → IsArea b items → items_in n b ≡ Some items
stands_read [] zero b fuel area = refl
stands_read [] (suc n) b fuel area = read_end n b area.1
stands_read (item ∷ items) zero b fuel area = absurd (omega (arith, fuel, area.0.0.goes_on.0))
stands_read (item ∷ items) (suc n) b fuel area =
    let begins : Begins b item = area.0.0 in
    let size : size_of item ≡ size_in b = is_more b item begins in
    let rest : IsArea (drop (size_in b) b) items =
    subst (λ (k : ℕ). IsArea (drop k b) items) size (area.0.1, subst Ends (sym (drop-drop (sizes_of items) (size_of item) b)) area.1) in
    read_item n b begins.goes_on begins.inside
    ∙ ap (option_map (λ xs. item_in b ∷ xs)) (stands_read items n (drop (size_in b) b) (omega (arith, fuel, length-drop (size_in b) b)) rest)
    ∙ ap (λ (x : Item). Some (x ∷ items)) (sym begins.same)

pub area_from : (area : List ℕ) (items : List Item) → items_of area ≡ Some items → IsArea area items
unfolding items_of
area_from area items e = read_stands (length area) area items (omega arith) e

pub area_to : (area : List ℕ) (items : List Item) → IsArea area items → items_of area ≡ Some items
unfolding items_of
area_to area items is = stands_read items (length area) area (omega arith) is

-- an item that runs past the area
past_read : (items : List Item) (n : ℕ) (b : List ℕ) → length b ≤ n → Stand b items → GoesOn (drop (sizes_of items) b) → length (drop (sizes_of items) b) < size_in (drop (sizes_of items) b) → items_in n b ≡ None
past_read [] zero b fuel stand more past = absurd (omega (arith, fuel, more.0))
past_read [] (suc n) b fuel stand more past = read_past n b more past
past_read (item ∷ items) zero b fuel stand more past = absurd (omega (arith, fuel, stand.0.goes_on.0))
past_read (item ∷ items) (suc n) b fuel stand more past =
    let begins : Begins b item = stand.0 in
    let size : size_of item ≡ size_in b = is_more b item begins in
    let behind : drop (sizes_of (item ∷ items)) b ≡ drop (sizes_of items) (drop (size_in b) b) =
    sym (drop-drop (sizes_of items) (size_of item) b) ∙ ap (λ (k : ℕ). drop (sizes_of items) (drop k b)) size in
    read_item n b begins.goes_on begins.inside
    ∙ ap (option_map (λ xs. item_in b ∷ xs))
    (past_read items n (drop (size_in b) b) (omega (arith, fuel, length-drop (size_in b) b)) (subst (λ (k : ℕ). Stand (drop k b) items) size stand.1) (subst GoesOn behind more) (subst (λ (c : List ℕ). length c < size_in c) behind past))

pub none_from : (area : List ℕ) (at : ℕ) → RunsPast area at → items_of area ≡ None
unfolding items_of
none_from area at past =
    past_read past.items (length area) area (omega arith) past.stand
    (subst (λ (k : ℕ). GoesOn (drop k area)) past.place past.goes_on)
    (subst (λ (k : ℕ). length (drop k area) < size_in (drop k area)) past.place past.past)

read_past_at : (n : ℕ) (b : List ℕ) → length b ≤ n → items_in n b ≡ None → (at : ℕ) × RunsPast b at
read_past_at zero b fuel e = cc
read_past_at (suc n) b fuel e =
    ⊎_elim
    (λ last. let now = read_end n b (test_ends b last) in cc)
    (λ more.
    let goes = test_goes_on b more in
    ⊎_elim
    (λ past. (0, record { items = []; stand = tt; place = refl; goes_on = goes; past = past }))
    (λ inside.
    let begins : Begins b (item_in b) = record { goes_on = goes; inside = inside; same = refl } in
    let size : size_of (item_in b) ≡ size_in b = is_more b (item_in b) begins in
    let none : items_in n (drop (size_in b) b) ≡ None = mapped_none (item_in b) (items_in n (drop (size_in b) b)) (sym (read_item n b goes inside) ∙ e) in
    let rest = read_past_at n (drop (size_in b) b) (omega (arith, fuel, length-drop (size_in b) b)) none in
    let behind : drop rest.0 (drop (size_in b) b) ≡ drop (size_in b + rest.0) b = drop-drop rest.0 (size_in b) b in (
      size_in b + rest.0,
      record {
        items = item_in b ∷ rest.1.items;
        stand = (begins, subst (λ (k : ℕ). Stand (drop k b) rest.1.items) (sym size) rest.1.stand);
        place = omega (arith, size, rest.1.place);
        goes_on = subst GoesOn behind rest.1.goes_on;
        past = subst (λ (c : List ℕ). length c < size_in c) behind rest.1.past;
      },
    ))
    (cases_lt (length b) (size_in b)))
    (cases_Bool (test b))

pub none_to : (area : List ℕ) → items_of area ≡ None → (at : ℕ) × RunsPast area at
unfolding items_of
none_to area e = read_past_at (length area) area (omega arith) e
