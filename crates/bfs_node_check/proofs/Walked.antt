-- A walk over all items of an area.
use Rattle.std.proofs.Common.{◌≡◌, ℕ, ◌+◌, ◌-◌, ◌≤◌, ◌<◌, List, [], ◌∷◌, ◌++◌, length, take, drop, Option, Some, None, refl, sym, ◌∙◌, ap, subst, arith, append_assoc, length-drop, inl, inr}
use Rattle.std.proofs.lemmas.Bool.{false≢true}
use Rattle.std.specs.Prelude.{IsSome, IfSome}
use Rattle.std.specs.List.{AllByRecursion}
use Rattle.std.proofs.lemmas.List.{append-nil, length-take-le, take_all}
use Rattle.bfs_bytes.specs.Fields.{unsigned_at}
use Rattle.bfs_smalldata.specs.Items.{Item, Begins, Stand, GoesOn, Ends, size_in, name_size, sizes_of, items_of}
use Rattle.bfs_smalldata.proofs.Reading.{is_more, unsigned_dropped, part_dropped}
use Rattle.bfs_smalldata.proofs.Standing.{stand_right, stand_size, sizes_joined}
use Rattle.bfs_smalldata.proofs.Listing.{area_from}
use Rattle.bfs_smalldata.proofs.Walking.{not_both}
use Rattle.bfs_node_check.specs.Areas.{IsLongAt, IsWrongArea}

pub unsigned_there : (n : ℕ) (b : List ℕ) (at k : ℕ) → unsigned_at n (drop at b) k ≡ unsigned_at n b (at + k)
unsigned_there = unsigned_dropped

-- behind these items of the area, of each of which this holds
pub record Walks (P : Item → Type 0) (area : List ℕ) (at : ℕ) : Type 0 where
  pub front : List Item
  pub back : List Item
  pub items : items_of area ≡ Some (front ++ back)
  pub place : at ≡ sizes_of front
  pub all : AllByRecursion P front

-- at this item
pub record Reaches (area : List ℕ) (at : ℕ) (front : List Item) : Type 0 where
  pub item : Item
  pub rest : List Item
  pub items : items_of area ≡ Some (front ++ item ∷ rest)
  pub begins : Begins (drop at area) item
  pub inside : at + size_in (drop at area) ≤ length area

pub walks_start : (P : Item → Type 0) (area : List ℕ) → IsSome (items_of area) → Walks P area 0
walks_start P area some = started (items_of area) refl some
  where
    started : (o : Option (List Item)) → items_of area ≡ o → IsSome o → Walks P area 0
    started None e is = cc
    started (Some items) e is = record { front = []; back = items; items = e; place = refl; all = tt }

all_more : (P : Item → Type 0) (xs : List Item) (x : Item) → AllByRecursion P xs → P x → AllByRecursion P (xs ++ x ∷ [])
all_more P [] x all here = (here, tt)
all_more P (y ∷ ys) x all here = (all.0, all_more P ys x all.1 here)

module _ (area : List ℕ) (at : ℕ) where
  pub behind : (front back : List Item) → items_of area ≡ Some (front ++ back) → at ≡ sizes_of front → Stand (drop at area) back
  behind front back items place = subst (λ (k : ℕ). Stand (drop k area) back) (sym place) (stand_right front back area (area_from area (front ++ back) items).0)

  pub last : (front : List Item) → items_of area ≡ Some (front ++ []) → at ≡ sizes_of front → Ends (drop at area)
  last front items place =
      subst (λ (k : ℕ). Ends (drop k area)) (omega (arith, place, sizes_joined front [])) (area_from area (front ++ []) items).1

  reaches_in : (front back : List Item) → items_of area ≡ Some (front ++ back) → at ≡ sizes_of front → GoesOn (drop at area) → Reaches area at front
  reaches_in front [] items place more = absurd (not_both (drop at area) more (last front items place))
  reaches_in front (item ∷ rest) items place more =
      let begins : Begins (drop at area) item = (behind front (item ∷ rest) items place).0 in
      record { item = item; rest = rest; items = items; begins = begins; inside = omega (arith, begins.inside, begins.goes_on.0, length-drop at area) }

  pub ended_in : (front back : List Item) → items_of area ≡ Some (front ++ back) → at ≡ sizes_of front → (GoesOn (drop at area) → ⊥) → items_of area ≡ Some front
  ended_in front [] items place over = items ∙ ap (λ (xs : List Item). Some xs) (append-nil front)
  ended_in front (item ∷ back) items place over = absurd (over (behind front (item ∷ back) items place).0.goes_on)

  -- the item where a walk is, and the walk behind it
  pub reached : (P : Item → Type 0) (walks : Walks P area at) → GoesOn (drop at area) → Reaches area at walks.front
  reached P walks more = reaches_in walks.front walks.back walks.items walks.place more

  pub walks_more : (P : Item → Type 0) (walks : Walks P area at) (r : Reaches area at walks.front) → P r.item → Walks P area (at + size_in (drop at area))
  walks_more P walks r here = record {
    front = walks.front ++ r.item ∷ [];
    back = r.rest;
    items = r.items ∙ ap (λ (xs : List Item). Some xs) (sym (append_assoc walks.front (r.item ∷ []) r.rest));
    place = omega (arith, walks.place, is_more (drop at area) r.item r.begins, sizes_joined walks.front (r.item ∷ []));
    all = all_more P walks.front r.item walks.all here;
  }

  pub walks_end : (P : Item → Type 0) → Walks P area at → (GoesOn (drop at area) → ⊥) → IfSome (items_of area) (AllByRecursion P)
  walks_end P walks over =
      subst (λ (o : Option (List Item)). IfSome o (AllByRecursion P)) (sym (ended_in walks.front walks.back walks.items walks.place over)) walks.all

-- how long the name of an item is
pub name_length : (b : List ℕ) (item : Item) → Begins b item → length item.name ≡ name_size b
name_length b item begins =
    ap (λ (i : Item). length i.name) begins.same
    ∙ length-take-le (name_size b) (drop 8 b) (let a = begins.inside in let d = length-drop 8 b in omega (arith, a, d))

pub long_at : (area : List ℕ) (at : ℕ) (front : List Item) → at ≡ sizes_of front → Reaches area at front → 255 < name_size (drop at area) → IsLongAt area at
long_at area at front place r long = record {
  front = front;
  item = r.item;
  back = r.rest;
  items = r.items;
  place = place;
  long = let e = name_length (drop at area) r.item r.begins in omega (arith, e, long);
}

pub part_there : (n k at : ℕ) (b : List ℕ) → take n (drop k (drop at b)) ≡ take n (drop (at + k) b)
part_there = part_dropped

-- the part behind a place, as a slice shows it
pub rest_part : (n : ℕ) (area : List ℕ) → take (length area - n) (drop n area) ≡ drop n area
rest_part n area = take_all (length area - n) (drop n area) (let e = length-drop n area in omega (arith, e))

-- a place of a wrong item lies in the area
pub wrong_few : (area : List ℕ) (at : ℕ) → IsWrongArea area at → at ≤ length area
wrong_few area at (inl past) = let a = past.goes_on.0 in let b = length-drop at area in omega (arith, a, b)
wrong_few area at (inr long) =
    let a = stand_size (long.front ++ long.item ∷ long.back) area (area_from area (long.front ++ long.item ∷ long.back) long.items).0 in
    let b = sizes_joined long.front (long.item ∷ long.back) in
    let p = long.place in
    omega (arith, a, b, p)

pub some_items : (o : Option (List Item)) → IsSome o → (items : List Item) × (o ≡ Some items)
some_items None some = absurd (false≢true some)
some_items (Some items) some = (items, refl)
