-- A walk over the items of an area, up to the first with a name.
use Rattle.std.proofs.Common.{◌≡◌, ⊎_elim, ℕ, ◌+◌, ◌-◌, ◌≤◌, true, false, List, [], ◌∷◌, ◌++◌, length, drop, Option, Some, None, refl, sym, ◌∙◌, ap, subst, arith, append_assoc, length-drop}
use Rattle.std.specs.Prelude.{IsSome, IfSome}
use Rattle.std.specs.Option.{option_and_then}
use Rattle.std.specs.Str.{bytes_eq}
use Rattle.std.proofs.lemmas.List.{append-nil}
use Rattle.bfs_smalldata.specs.Items.{Item, Begins, Stand, GoesOn, Ends, size_in, size_of, sizes_of, item_in, items_of}
use Rattle.bfs_smalldata.specs.Edits.{named, without, HasRoom}
use Rattle.bfs_smalldata.specs.Walk.{Passes, Stops, Spans, IsNamed}
use Rattle.bfs_smalldata.proofs.Reading.{is_more}
use Rattle.bfs_smalldata.proofs.Standing.{stand_right, stand_size, sizes_joined}
use Rattle.bfs_smalldata.proofs.Listing.{area_from}
use Rattle.bfs_smalldata.proofs.Naming.{named_behind, named_first, named_later, before_behind, before_first, without_behind, without_first, with_behind, with_first}

pub not_both : (b : List ℕ) → GoesOn b → Ends b → ⊥
not_both b more ends = ⊎_elim (λ short. omega (arith, more.0, short)) (λ empty. omega (arith, more.1, empty)) ends

pub passes_start : (area name : List ℕ) → IsSome (items_of area) → Passes area name 0
passes_start area name some = started (items_of area) refl some
  where
    started : (o : Option (List Item)) → items_of area ≡ o → IsSome o → Passes area name 0
    started None e is = cc
    started (Some items) e is = record { front = []; back = items; items = e; place = refl; none = refl }

-- the item at the place where a walk is
pub record Next (area name : List ℕ) (at : ℕ) : Type 0 where
  pub front : List Item
  pub item : Item
  pub back : List Item
  pub items : items_of area ≡ Some (front ++ item ∷ back)
  pub place : at ≡ sizes_of front
  pub none : named name front ≡ None
  pub begins : Begins (drop at area) item

module _ (area name : List ℕ) (at : ℕ) where
  behind : (front back : List Item) → items_of area ≡ Some (front ++ back) → at ≡ sizes_of front → Stand (drop at area) back
  behind front back items place = subst (λ (k : ℕ). Stand (drop k area) back) (sym place) (stand_right front back area (area_from area (front ++ back) items).0)

  last : (front : List Item) → items_of area ≡ Some (front ++ []) → at ≡ sizes_of front → Ends (drop at area)
  last front items place =
      subst (λ (k : ℕ). Ends (drop k area)) (omega (arith, place, sizes_joined front [])) (area_from area (front ++ []) items).1

  next_in : (front back : List Item) → items_of area ≡ Some (front ++ back) → at ≡ sizes_of front → named name front ≡ None → GoesOn (drop at area) → Next area name at
  next_in front [] items place none more = absurd (not_both (drop at area) more (last front items place))
  next_in front (item ∷ back) items place none more =
      record { front = front; item = item; back = back; items = items; place = place; none = none; begins = (behind front (item ∷ back) items place).0 }

  pub passes_next : Passes area name at → GoesOn (drop at area) → Next area name at
  passes_next passes more = next_in passes.front passes.back passes.items passes.place passes.none more

  stops_in : (front back : List Item) → items_of area ≡ Some (front ++ back) → at ≡ sizes_of front → named name front ≡ None → Ends (drop at area) → Stops area name at
  stops_in front [] items place none ends = record { passes = record { front = front; back = []; items = items; place = place; none = none }; here = tt }
  stops_in front (item ∷ back) items place none ends = absurd (not_both (drop at area) (behind front (item ∷ back) items place).0.goes_on ends)

  pub stops_end : Passes area name at → Ends (drop at area) → Stops area name at
  stops_end passes ends = stops_in passes.front passes.back passes.items passes.place passes.none ends

  pub next_inside : Next area name at → at + size_in (drop at area) ≤ length area
  next_inside next = omega (arith, next.begins.inside, next.begins.goes_on.0, length-drop at area)

  pub stops_here : Next area name at → bytes_eq (item_in (drop at area)).name name ≡ true → Stops area name at
  stops_here next same = record {
    passes = record { front = next.front; back = next.item ∷ next.back; items = next.items; place = next.place; none = next.none };
    here = subst (λ (i : Item). bytes_eq i.name name ≡ true) (sym next.begins.same) same;
  }

  pub passes_more : Next area name at → bytes_eq (item_in (drop at area)).name name ≡ false → Passes area name (at + size_in (drop at area))
  passes_more next other = record {
    front = next.front ++ next.item ∷ [];
    back = next.back;
    items = next.items ∙ ap (λ (xs : List Item). Some xs) (sym (append_assoc next.front (next.item ∷ []) next.back));
    place = omega (arith, next.place, is_more (drop at area) next.item next.begins, sizes_joined next.front (next.item ∷ []));
    none = named_behind name next.front (next.item ∷ []) next.none ∙ named_later name next.item [] (subst (λ (i : Item). bytes_eq i.name name ≡ false) (sym next.begins.same) other);
  }

  found_in : (front back : List Item) → items_of area ≡ Some (front ++ back) → at ≡ sizes_of front → named name front ≡ None → IsNamed name back → GoesOn (drop at area) → option_and_then (named name) (items_of area) ≡ Some (item_in (drop at area))
  found_in front [] items place none here more = absurd (not_both (drop at area) more (last front items place))
  found_in front (item ∷ back) items place none here more =
      ap (option_and_then (named name)) items ∙ named_behind name front (item ∷ back) none ∙ named_first name item back here
      ∙ ap (λ (i : Item). Some i) (behind front (item ∷ back) items place).0.same

  -- the item with the name
  pub found_here : Stops area name at → GoesOn (drop at area) → option_and_then (named name) (items_of area) ≡ Some (item_in (drop at area))
  found_here stops more = found_in stops.passes.front stops.passes.back stops.passes.items stops.passes.place stops.passes.none stops.here more

  missed_in : (front back : List Item) → items_of area ≡ Some (front ++ back) → at ≡ sizes_of front → named name front ≡ None → (GoesOn (drop at area) → ⊥) → option_and_then (named name) (items_of area) ≡ None
  missed_in front [] items place none over = ap (option_and_then (named name)) items ∙ named_behind name front [] none
  missed_in front (item ∷ back) items place none over = absurd (over (behind front (item ∷ back) items place).0.goes_on)

  pub found_none : Stops area name at → (GoesOn (drop at area) → ⊥) → option_and_then (named name) (items_of area) ≡ None
  found_none stops over = missed_in stops.passes.front stops.passes.back stops.passes.items stops.passes.place stops.passes.none over

  pub here_inside : Stops area name at → GoesOn (drop at area) → at + size_in (drop at area) ≤ length area
  here_inside stops more = next_inside (passes_next stops.passes more)

  -- where a walk stopped, an item with the name stands, or the list ends
  module _ (next end : ℕ) (ends_at : (items : List Item) → items_of area ≡ Some items → end ≡ sizes_of items)
      (some : GoesOn (drop at area) → next ≡ at + size_in (drop at area)) (none_there : (GoesOn (drop at area) → ⊥) → next ≡ at) where
    spans_in : (front back : List Item) → items_of area ≡ Some (front ++ back) → at ≡ sizes_of front → named name front ≡ None → IsNamed name back → Spans area name at next end
    spans_in front [] items place none here =
        let over : next ≡ at = none_there (λ more. not_both (drop at area) more (last front items place)) in
        let inside : sizes_of (front ++ []) ≤ length area = stand_size (front ++ []) area (area_from area (front ++ []) items).0 in
        record {
          front = front;
          here = [];
          back = [];
          items = items;
          at_place = place;
          next_place = omega (arith, over);
          end_place = omega (arith, over, place, ends_at (front ++ []) items, sizes_joined front []);
          inside = omega (arith, inside, ends_at (front ++ []) items);
          in_front = before_behind name front [] none ∙ append-nil front;
          cut = without_behind name front [] none;
          replaced = λ new e. with_behind new front [] (subst (λ (n : List ℕ). named n front ≡ None) (sym e) none);
          there = (λ lt. absurd (omega (arith, over, lt)), λ is. let never : IsSome {T = Item} None = subst IsSome (named_behind name front [] none) is in cc);
        }
    spans_in front (item ∷ back) items place none here =
        let begins : Begins (drop at area) item = (behind front (item ∷ back) items place).0 in
        let over : next ≡ at + size_in (drop at area) = some begins.goes_on in
        let size : size_of item ≡ size_in (drop at area) = is_more (drop at area) item begins in
        let inside : sizes_of (front ++ item ∷ back) ≤ length area = stand_size (front ++ item ∷ back) area (area_from area (front ++ item ∷ back) items).0 in
        let found : named name (front ++ item ∷ back) ≡ Some item = named_behind name front (item ∷ back) none ∙ named_first name item back here in
        record {
          front = front;
          here = item ∷ [];
          back = back;
          items = items;
          at_place = place;
          next_place = omega (arith, over, size);
          end_place = omega (arith, over, place, size, ends_at (front ++ item ∷ back) items, sizes_joined front (item ∷ back));
          inside = omega (arith, inside, ends_at (front ++ item ∷ back) items);
          in_front = before_behind name front (item ∷ back) none ∙ ap (λ (ys : List Item). front ++ ys) (before_first name item back here) ∙ append-nil front;
          cut = without_behind name front (item ∷ back) none ∙ ap (λ (ys : List Item). front ++ ys) (without_first name item back here);
          replaced = λ new e. with_behind new front (item ∷ back) (subst (λ (n : List ℕ). named n front ≡ None) (sym e) none)
              ∙ ap (λ (ys : List Item). front ++ ys) (with_first new item back (subst (λ (n : List ℕ). bytes_eq item.name n ≡ true) (sym e) here));
          there = (λ lt. subst IsSome (sym found) refl, λ is. omega (arith, over));
        }

    pub spans_from : Stops area name at → Spans area name at next end
    spans_from stops = spans_in stops.passes.front stops.passes.back stops.passes.items stops.passes.place stops.passes.none stops.here

-- what is kept when the item with the name is out
module _ (area name : List ℕ) (at next end : ℕ) (spans : Spans area name at next end) where
  pub kept_size : sizes_of (spans.front ++ spans.back) + (next - at) ≡ end
  kept_size = omega (arith, spans.at_place, spans.next_place, spans.end_place, sizes_joined spans.front spans.back)

  pub room_to : (n : ℕ) → sizes_of (spans.front ++ spans.back) + (8 + length name + 3 + n + 1) ≤ length area → HasRoom area name n
  room_to n fits =
      subst (λ (o : Option (List Item)). IfSome o (λ items. sizes_of (without name items) + (8 + length name + 3 + n + 1) ≤ length area)) (sym spans.items)
      (subst (λ (items : List Item). sizes_of items + (8 + length name + 3 + n + 1) ≤ length area) (sym spans.cut) fits)

  pub room_from : (n : ℕ) → HasRoom area name n → sizes_of (spans.front ++ spans.back) + (8 + length name + 3 + n + 1) ≤ length area
  room_from n room =
      subst (λ (items : List Item). sizes_of items + (8 + length name + 3 + n + 1) ≤ length area) spans.cut
      (subst (λ (o : Option (List Item)). IfSome o (λ items. sizes_of (without name items) + (8 + length name + 3 + n + 1) ≤ length area)) spans.items room)
