-- Where a walk over the items of an area stands.
use Rattle.std.specs.Prelude.{◌≡◌, ◌<◌, ◌≤◌, ◌↔◌, ℕ, ◌+◌, List, [], ◌∷◌, ◌++◌, length, true, Some, None, IsSome}
use Rattle.std.specs.Str.{bytes_eq}
use Rattle.bfs_smalldata.specs.Items.{Item, sizes_of, items_of}
use Rattle.bfs_smalldata.specs.Edits.{named, before, without, with_item}

-- behind these items, none of which has the name
pub record Passes (area name : List ℕ) (at : ℕ) : Type 0 where
  pub front : List Item
  pub back : List Item
  pub items : items_of area ≡ Some (front ++ back)
  pub place : at ≡ sizes_of front
  pub none : named name front ≡ None

-- the first of these items has the name, or there is none
abbrev pub IsNamed : List ℕ → List Item → Type 0
IsNamed name [] = Unit {0}
IsNamed name (item ∷ items) = bytes_eq item.name name ≡ true

-- at the first item with the name, or at the end of the list
pub record Stops (area name : List ℕ) (at : ℕ) : Type 0 where
  pub passes : Passes area name at
  pub here : IsNamed name passes.back

-- an item with the name stands from one place to the next, or there is none; where the list ends
pub record Spans (area name : List ℕ) (at next end : ℕ) : Type 0 where
  pub front : List Item
  pub here : List Item
  pub back : List Item
  pub items : items_of area ≡ Some (front ++ (here ++ back))
  pub at_place : at ≡ sizes_of front
  pub next_place : next ≡ at + sizes_of here
  pub end_place : end ≡ next + sizes_of back
  pub inside : end ≤ length area
  pub in_front : before name (front ++ (here ++ back)) ≡ front
  pub cut : without name (front ++ (here ++ back)) ≡ front ++ back
  pub replaced : (new : Item) → new.name ≡ name → with_item new (front ++ (here ++ back)) ≡ front ++ new ∷ back
  pub there : (at < next) ↔ IsSome (named name (front ++ (here ++ back)))
