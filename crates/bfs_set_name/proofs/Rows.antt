-- What holds of all attributes in small data holds of those that move out.
use Rattle.std.proofs.Common.{◌≢◌, drop, sym, subst, ◌≡◌, ◌+◌, ◌-◌, ℕ, zero, suc, List, [], ◌∷◌, length, Bool, true, false, cond, not, Option, Some, None}
use Rattle.std.specs.Prelude.{nat_le, IfSome}
use Rattle.bfs_bitmap.specs.Runs.{Room}
use Rattle.bfs_stream.specs.Told.{contents}
use Rattle.bfs_tree.specs.Trees.{Node}
use Rattle.bfs_sound.specs.Nodes.{HasNode}
use Rattle.bfs_attr.specs.Bearers.{Bearer, volume_at}
use Rattle.bfs_attr.specs.Changed.{Holds}
use Rattle.bfs_attr.proofs.OwnNames.{IsOwnFirst}
use Rattle.bfs_set_name.specs.Renamed.{IsShortNamed, CanName}
use Rattle.std.specs.List.{AllByRecursion}
use Rattle.std.specs.Option.{option_map_or}
use Rattle.std.specs.Str.{bytes_eq}
use Rattle.bfs_smalldata.specs.Items.{Item, size_of, sizes_of, items_of}
use Rattle.bfs_smalldata.specs.Edits.{without}
use Rattle.bfs_sound.specs.Attributes.{own_name, is_name_item}
use Rattle.bfs_sound.specs.Need.{longer, longest, moving, moving_from}
use Rattle.bfs_set_name.proofs.Movings.{attributes}

module _ (P : Item → Type 0) where
  all_without : (name : List ℕ) (items : List Item) → AllByRecursion P items → AllByRecursion P (without name items)
  all_without name [] all = tt
  all_without name (x ∷ xs) all = by_name (bytes_eq x.name name) (all_without name xs all.1)
    where
      by_name : (t : Bool) → AllByRecursion P (without name xs) → AllByRecursion P (cond t xs (x ∷ without name xs))
      by_name true rest = all.1
      by_name false rest = (all.0, rest)

  all_attributes : (items : List Item) → AllByRecursion P items → AllByRecursion P (attributes items)
  all_attributes [] all = tt
  all_attributes (x ∷ xs) all = by_own (is_name_item x) (all_attributes xs all.1)
    where
      by_own : (t : Bool) → AllByRecursion P (attributes xs) → AllByRecursion P (cond (not t) (x ∷ attributes xs) (attributes xs))
      by_own true rest = rest
      by_own false rest = (all.0, rest)

  longest_holds : (items : List Item) → AllByRecursion P items → IfSome (longest items) P
  longest_holds [] all = tt
  longest_holds (x ∷ xs) all = by_rest (longest xs) (longest_holds xs all.1)
    where
      by_size : (y : Item) (t : Bool) → P y → P (cond t y x)
      by_size y true h = h
      by_size y false h = all.0

      by_rest : (o : Option Item) → IfSome o P → P (longer x o)
      by_rest None h = all.0
      by_rest (Some y) h = by_size y (nat_le (size_of x) (size_of y)) h

  all_moving : (n most : ℕ) (items : List Item) → AllByRecursion P items → AllByRecursion P (moving n most items)
  all_moving zero most items all = tt
  all_moving (suc n) most items all = by_fit (nat_le (sizes_of items) most) (longest items) (longest_holds items all) (all_moving n most)
    where
      by_fit : (t : Bool) (o : Option Item) → IfSome o P → ((l : List Item) → AllByRecursion P l → AllByRecursion P (moving n most l)) → AllByRecursion P (cond t [] (option_map_or (λ (x : Item). x ∷ moving n most (without x.name items)) o []))
      by_fit true o h rest = tt
      by_fit false None h rest = tt
      by_fit false (Some x) h rest = (h, rest (without x.name items) (all_without x.name items all))

  all_moves : (size n : ℕ) (o : Option (List Item)) → IfSome o (AllByRecursion P) → AllByRecursion P (moving_from size n o)
  all_moves size n None all = tt
  all_moves size n (Some items) all = all_moving (length (attributes items)) (size - (8 + length own_name + 3 + n + 1)) (attributes items) (all_attributes items all)

module _ (b : Bearer) (v : Room) (m : ℕ → Option (List ℕ)) (n : Node) (name : List ℕ) (holds : Holds b v m) (node : HasNode (volume_at b.geometry m) b.id n) (below : b.id ≢ b.geometry.root) where
  own_first : IsOwnFirst node.items
  own_first = let called = node.called.name below in subst (λ (o : Option Item). IfSome o (λ item. is_name_item item ≡ true)) (sym called.1) called.2

  pub can_be_named : CanName b v m name
  can_be_named = record {
    holds = holds;
    own = subst (λ (o : Option (List Item)). IfSome o IsOwnFirst) (sym node.area) own_first;
    short = all_moves IsShortNamed (length (drop 232 (contents m b.id))) (length name) (items_of (drop 232 (contents m b.id)))
        (subst (λ (o : Option (List Item)). IfSome o (AllByRecursion IsShortNamed)) (sym node.area) node.short);
  }
