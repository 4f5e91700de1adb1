-- A walk over all items of an area.
use Rattle.std.proofs.Common.{◌≡◌, ℕ, ◌+◌, ◌≤◌, List, [], ◌∷◌, ◌++◌, length, drop, Option, Some, None, refl, sym, ◌∙◌, ap, subst, arith, append_assoc, length-drop}
use Rattle.std.specs.Prelude.{IsSome, IfSome}
use Rattle.std.specs.List.{flat_map}
use Rattle.std.proofs.lemmas.List.{append-nil}
use Rattle.bfs_bytes.specs.Fields.{unsigned_at}
use Rattle.bfs_smalldata.specs.Items.{Item, Begins, Stand, GoesOn, Ends, size_in, sizes_of, item_in, items_of}
use Rattle.bfs_smalldata.proofs.Reading.{is_more, unsigned_dropped}
use Rattle.bfs_smalldata.proofs.Standing.{stand_right, sizes_joined}
use Rattle.bfs_smalldata.proofs.Listing.{area_from}
use Rattle.bfs_smalldata.proofs.Walking.{not_both}
use Rattle.bfs_tree.specs.declared.rows.AttributeRow.{AttributeRow}
use Rattle.bfs_attr.specs.SmallData.{item_rows}

pub unsigned_there : (n : ℕ) (b : List ℕ) (at k : ℕ) → unsigned_at n (drop at b) k ≡ unsigned_at n b (at + k)
unsigned_there = unsigned_dropped

-- behind these items of the area, with their rows
pub record Walks (area : List ℕ) (at : ℕ) (rows : List AttributeRow) : Type 0 where
  pub front : List Item
  pub back : List Item
  pub items : items_of area ≡ Some (front ++ back)
  pub place : at ≡ sizes_of front
  pub rows_are : rows ≡ flat_map item_rows front

pub walks_start : (area : List ℕ) → IsSome (items_of area) → Walks area 0 []
walks_start area some = started (items_of area) refl some
  where
    started : (o : Option (List Item)) → items_of area ≡ o → IsSome o → Walks area 0 []
    started None e is = cc
    started (Some items) e is = record { front = []; back = items; items = e; place = refl; rows_are = refl }

rows_joined : (xs ys : List Item) → flat_map item_rows (xs ++ ys) ≡ flat_map item_rows xs ++ flat_map item_rows ys
rows_joined [] ys = refl
rows_joined (x ∷ xs) ys = ap (λ (l : List AttributeRow). item_rows x ++ l) (rows_joined xs ys) ∙ sym (append_assoc (item_rows x) (flat_map item_rows xs) (flat_map item_rows ys))

-- the item at the place where a walk is
pub record Steps (area : List ℕ) (at : ℕ) (rows : List AttributeRow) : Type 0 where
  pub inside : at + size_in (drop at area) ≤ length area
  pub next : Walks area (at + size_in (drop at area)) (rows ++ item_rows (item_in (drop at area)))

module _ (area : List ℕ) (at : ℕ) (rows : List AttributeRow) where
  behind : (front back : List Item) → items_of area ≡ Some (front ++ back) → at ≡ sizes_of front → Stand (drop at area) back
  behind front back items place = subst (λ (k : ℕ). Stand (drop k area) back) (sym place) (stand_right front back area (area_from area (front ++ back) items).0)

  last : (front : List Item) → items_of area ≡ Some (front ++ []) → at ≡ sizes_of front → Ends (drop at area)
  last front items place =
      subst (λ (k : ℕ). Ends (drop k area)) (omega (arith, place, sizes_joined front [])) (area_from area (front ++ []) items).1

  steps_in : (front back : List Item) → items_of area ≡ Some (front ++ back) → at ≡ sizes_of front → rows ≡ flat_map item_rows front → GoesOn (drop at area) → Steps area at rows
  steps_in front [] items place are more = absurd (not_both (drop at area) more (last front items place))
  steps_in front (item ∷ back) items place are more =
      let begins : Begins (drop at area) item = (behind front (item ∷ back) items place).0 in
      record {
        inside = omega (arith, begins.inside, begins.goes_on.0, length-drop at area);
        next = record {
          front = front ++ item ∷ [];
          back = back;
          items = items ∙ ap (λ (xs : List Item). Some xs) (sym (append_assoc front (item ∷ []) back));
          place = omega (arith, place, is_more (drop at area) item begins, sizes_joined front (item ∷ []));
          rows_are = ap (λ (l : List AttributeRow). l ++ item_rows (item_in (drop at area))) are
              ∙ ap (λ (i : Item). flat_map item_rows front ++ item_rows i) (sym begins.same)
              ∙ ap (λ (l : List AttributeRow). flat_map item_rows front ++ l) (sym (append-nil (item_rows item)))
              ∙ sym (rows_joined front (item ∷ []));
        };
      }

  pub walks_more : Walks area at rows → GoesOn (drop at area) → Steps area at rows
  walks_more walks more = steps_in walks.front walks.back walks.items walks.place walks.rows_are more

  ends_in : (front back : List Item) → items_of area ≡ Some (front ++ back) → at ≡ sizes_of front → rows ≡ flat_map item_rows front → (GoesOn (drop at area) → ⊥) → IfSome (items_of area) (λ items. rows ≡ flat_map item_rows items)
  ends_in front [] items place are over =
      subst (λ (o : Option (List Item)). IfSome o (λ xs. rows ≡ flat_map item_rows xs)) (sym items)
      (are ∙ ap (flat_map item_rows) (sym (append-nil front)))
  ends_in front (item ∷ back) items place are over = absurd (over (behind front (item ∷ back) items place).0.goes_on)

  pub walks_end : Walks area at rows → (GoesOn (drop at area) → ⊥) → IfSome (items_of area) (λ items. rows ≡ flat_map item_rows items)
  walks_end walks over = ends_in walks.front walks.back walks.items walks.place walks.rows_are over
