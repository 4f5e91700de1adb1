-- A walk over all items of an area, with the longest attribute so far.
use Rattle.std.proofs.Common.{◌≡◌, ◌≤◌, ◌<◌, ◌+◌, ◌∙◌, ℕ, List, [], ◌∷◌, ◌++◌, length, drop, Bool, true, false, cond, not, Option, Some, None, refl, sym, ap, subst, arith, append_assoc, length-drop}
use Rattle.std.specs.Prelude.{nat_le, IfSome, IsSome}
use Rattle.std.specs.List.{filter}
use Rattle.std.proofs.lemmas.List.{append-nil}
use Rattle.bfs_smalldata.specs.Items.{Item, Begins, Stand, GoesOn, Ends, size_in, size_of, sizes_of, items_of}
use Rattle.bfs_smalldata.proofs.Reading.{is_more}
use Rattle.bfs_smalldata.proofs.Standing.{stand_right, sizes_joined}
use Rattle.bfs_smalldata.proofs.Listing.{area_from}
use Rattle.bfs_smalldata.proofs.Walking.{not_both}
use Rattle.bfs_sound.specs.Attributes.{is_name_item}
use Rattle.bfs_sound.specs.Need.{longer, longest}
use Rattle.bfs_attr.specs.Longest.{IsLongestAt, longer_from, place_after}

abbrev pub attributes : List Item → List Item
attributes items = filter (λ item. not (is_name_item item)) items

-- the longest with one more behind
abbrev later : Option Item → Item → Item
later None x = x
later (Some y) x = cond (nat_le (size_of y) (size_of x)) x y

le_true : (a b : ℕ) → nat_le a b ≡ true → a ≤ b
le_true a b e = grind (arith, e)

le_false : (a b : ℕ) → nat_le a b ≡ false → b < a
le_false a b e = grind (arith, e)

true_le : (a b : ℕ) → a ≤ b → nat_le a b ≡ true
true_le a b e = grind (arith, e)

false_le : (a b : ℕ) → b < a → nat_le a b ≡ false
false_le a b e = grind (arith, e)

-- which of three is the longest, from either end
three : (a y x : Item) (p q r : Bool) → nat_le (size_of a) (size_of y) ≡ p → nat_le (size_of y) (size_of x) ≡ q → nat_le (size_of a) (size_of x) ≡ r
    → longer a (Some (cond q x y)) ≡ later (Some (cond p y a)) x
three a y x true true r e f g =
    ap (λ (t : Bool). cond t x a) (true_le (size_of a) (size_of x) (omega (arith, le_true (size_of a) (size_of y) e, le_true (size_of y) (size_of x) f))) ∙ sym (ap (λ (t : Bool). cond t x y) f)
three a y x true false r e f g = ap (λ (t : Bool). cond t y a) e ∙ sym (ap (λ (t : Bool). cond t x y) f)
three a y x false true r e f g = refl
three a y x false false r e f g =
    ap (λ (t : Bool). cond t y a) e ∙ sym (ap (λ (t : Bool). cond t x a) (false_le (size_of a) (size_of x) (omega (arith, le_false (size_of a) (size_of y) e, le_false (size_of y) (size_of x) f))))

step : (a x : Item) (o : Option Item) → longer a (Some (later o x)) ≡ later (Some (longer a o)) x
step a x None = refl
step a x (Some y) = three a y x (nat_le (size_of a) (size_of y)) (nat_le (size_of y) (size_of x)) (nat_le (size_of a) (size_of x)) refl refl refl

longest_last : (xs : List Item) (x : Item) → longest (xs ++ (x ∷ [])) ≡ Some (later (longest xs) x)
longest_last [] x = refl
longest_last (a ∷ xs) x = ap (λ (o : Option Item). Some (longer a o)) (longest_last xs x) ∙ ap (λ (i : Item). Some i) (step a x (longest xs))

attributes_last : (xs : List Item) (x : Item) → attributes (xs ++ (x ∷ [])) ≡ attributes xs ++ attributes (x ∷ [])
attributes_last [] x = refl
attributes_last (a ∷ xs) x = by_test (not (is_name_item a)) (attributes_last xs x)
  where
    by_test : (t : Bool) → attributes (xs ++ (x ∷ [])) ≡ attributes xs ++ attributes (x ∷ [])
        → cond t (a ∷ attributes (xs ++ (x ∷ []))) (attributes (xs ++ (x ∷ []))) ≡ cond t (a ∷ attributes xs) (attributes xs) ++ attributes (x ∷ [])
    by_test true e = ap (λ (l : List Item). a ∷ l) e
    by_test false e = e

-- behind these items of the area, the longest of whose attributes begins here
pub record Seeks (area : List ℕ) (at : ℕ) (found : Option ℕ) : Type 0 where
  pub front : List Item
  pub back : List Item
  pub items : items_of area ≡ Some (front ++ back)
  pub place : at ≡ sizes_of front
  pub best : IsLongestAt area (longest (attributes front)) found

pub seeks_start : (area : List ℕ) → IsSome (items_of area) → Seeks area 0 None
seeks_start area some = started (items_of area) refl some
  where
    started : (o : Option (List Item)) → items_of area ≡ o → IsSome o → Seeks area 0 None
    started None e is = cc
    started (Some items) e is = record { front = []; back = items; items = e; place = refl; best = tt }

pub found_inside : (area : List ℕ) (o : Option Item) (found : Option ℕ) → IsLongestAt area o found → IfSome found (λ p. p + 8 ≤ length area)
found_inside area None None h = tt
found_inside area None (Some p) h = absurd h
found_inside area (Some item) None h = tt
found_inside area (Some item) (Some p) h = omega (arith, h.goes_on.0, length-drop p area)

module _ (area : List ℕ) (at : ℕ) (item : Item) (begins : Begins (drop at area) item) where
  size_here : size_of item ≡ size_in (drop at area)
  size_here = is_more (drop at area) item begins

  -- the longer one of the attribute that was found and this item
  one_more : (o : Option Item) (found : Option ℕ) → IsLongestAt area o found → IsLongestAt area (Some (later o item)) (longer_from area found at)
  one_more None None h = begins
  one_more None (Some p) h = absurd h
  one_more (Some y) None h = absurd h
  one_more (Some y) (Some p) h =
      subst (λ (t : Bool). IsLongestAt area (Some (cond t item y)) (longer_from area (Some p) at)) (sym (ap (λ (n : ℕ). nat_le n (size_of item)) (is_more (drop p area) y h) ∙ ap (nat_le (size_in (drop p area))) size_here))
      (by_test (nat_le (size_in (drop p area)) (size_in (drop at area))))
    where
      by_test : (t : Bool) → IsLongestAt area (Some (cond t item y)) (cond t (Some at) (Some p))
      by_test true = begins
      by_test false = h

  next_best : (front : List Item) (found : Option ℕ) → IsLongestAt area (longest (attributes front)) found → IsLongestAt area (longest (attributes (front ++ (item ∷ [])))) (place_after area found at)
  next_best front found h =
      subst (λ (l : List Item). IsLongestAt area (longest l) (place_after area found at)) (sym (attributes_last front item))
      (subst (λ (t : Bool). IsLongestAt area (longest (attributes front ++ attributes (item ∷ []))) (cond t found (longer_from area found at))) (ap is_name_item begins.same)
      (by_own (is_name_item item)))
    where
      by_own : (t : Bool) → IsLongestAt area (longest (attributes front ++ cond (not t) (item ∷ []) [])) (cond t found (longer_from area found at))
      by_own true = subst (λ (l : List Item). IsLongestAt area (longest l) found) (sym (append-nil (attributes front))) h
      by_own false = subst (λ (o : Option Item). IsLongestAt area o (longer_from area found at)) (sym (longest_last (attributes front) item)) (one_more (longest (attributes front)) found h)

-- the item at the place where the walk is
pub record Seeking (area : List ℕ) (at : ℕ) (found : Option ℕ) : Type 0 where
  pub inside : at + size_in (drop at area) ≤ length area
  pub next : Seeks area (at + size_in (drop at area)) (place_after area found at)

module _ (area : List ℕ) (at : ℕ) (found : Option ℕ) where
  behind : (front back : List Item) → items_of area ≡ Some (front ++ back) → at ≡ sizes_of front → Stand (drop at area) back
  behind front back items place = subst (λ (k : ℕ). Stand (drop k area) back) (sym place) (stand_right front back area (area_from area (front ++ back) items).0)

  last : (front : List Item) → items_of area ≡ Some (front ++ []) → at ≡ sizes_of front → Ends (drop at area)
  last front items place = subst (λ (k : ℕ). Ends (drop k area)) (omega (arith, place, sizes_joined front [])) (area_from area (front ++ []) items).1

  seeks_in : (front back : List Item) → items_of area ≡ Some (front ++ back) → at ≡ sizes_of front → IsLongestAt area (longest (attributes front)) found → GoesOn (drop at area) → Seeking area at found
  seeks_in front [] items place best more = absurd (not_both (drop at area) more (last front items place))
  seeks_in front (item ∷ back) items place best more =
      let begins : Begins (drop at area) item = (behind front (item ∷ back) items place).0 in
      record {
        inside = omega (arith, begins.inside, begins.goes_on.0, length-drop at area);
        next = record {
          front = front ++ item ∷ [];
          back = back;
          items = items ∙ ap (λ (xs : List Item). Some xs) (sym (append_assoc front (item ∷ []) back));
          place = omega (arith, place, is_more (drop at area) item begins, sizes_joined front (item ∷ []));
          best = next_best area at item begins front found best;
        };
      }

  pub seeks_more : Seeks area at found → GoesOn (drop at area) → Seeking area at found
  seeks_more seeks more = seeks_in seeks.front seeks.back seeks.items seeks.place seeks.best more

  ends_in : (front back : List Item) → items_of area ≡ Some (front ++ back) → at ≡ sizes_of front → IsLongestAt area (longest (attributes front)) found → (GoesOn (drop at area) → ⊥)
      → IfSome (items_of area) (λ items. IsLongestAt area (longest (attributes items)) found)
  ends_in front [] items place best over =
      subst (λ (o : Option (List Item)). IfSome o (λ xs. IsLongestAt area (longest (attributes xs)) found)) (sym items)
      (subst (λ (l : List Item). IsLongestAt area (longest (attributes l)) found) (sym (append-nil front)) best)
  ends_in front (item ∷ back) items place best over = absurd (over (behind front (item ∷ back) items place).0.goes_on)

  pub seeks_end : Seeks area at found → (GoesOn (drop at area) → ⊥) → IfSome (items_of area) (λ items. IsLongestAt area (longest (attributes items)) found)
  seeks_end seeks over = ends_in seeks.front seeks.back seeks.items seeks.place seeks.best over
