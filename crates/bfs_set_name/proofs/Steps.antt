-- One step of a name that is set: it has room, or the longest attribute moves out.
use Rattle.std.proofs.Common.{◌≡◌, ◌⊎◌, inl, inr, ◌≤◌, ◌+◌, ◌-◌, ◌∙◌, ℕ, List, [], ◌∷◌, length, drop, Bool, true, false, Option, Some, sym, ap, ap₂, subst, arith, length-drop}
use Rattle.std.specs.Prelude.{IfSome}
use Rattle.std.specs.List.{AllByRecursion}
use Rattle.std.specs.Option.{option_map, option_and_then}
use Rattle.std.specs.Str.{bytes_eq}
use Rattle.std.proofs.lemmas.Bool.{cases_Bool}
use Rattle.std.proofs.lemmas.Slice.Eq.{bytes_eq-Decides}
use Rattle.bfs_bitmap.specs.Runs.{Room}
use Rattle.bfs_node.specs.declared.fault.TreeFault.{TreeFault}
use Rattle.bfs_node.specs.declared.fault.TreeFault.TheVariants.{Exists, Absent, Damaged, Pages, NoMemory}
use Rattle.bfs_super.specs.Conditions.{ceil}
use Rattle.bfs_txn.specs.Told.{AreSized}
use Rattle.bfs_smalldata.specs.Items.{Item, sizes_of, items_of}
use Rattle.bfs_smalldata.specs.Edits.{named, without, IsFitting}
use Rattle.bfs_smalldata.proofs.Listing.{area_from}
use Rattle.bfs_smalldata.proofs.Lookups.{take_others}
use Rattle.bfs_smalldata.proofs.Standing.{stand_size}
use Rattle.bfs_stream.specs.Told.{contents}
use Rattle.bfs_stream.specs.declared.fault.GrowFault.{GrowFault}
use Rattle.bfs_maps.specs.Refused.{IsUndone}
use Rattle.bfs_sound.specs.Attributes.{own_name, is_name_item}
use Rattle.bfs_sound.specs.Need.{longest, moves, moving_from}
use Rattle.bfs_make.proofs.Pieces.{told_long}
use Rattle.bfs_attr.specs.Bearers.{Bearer, volume_at}
use Rattle.bfs_attr.specs.Changed.{attribute_blocks, Holds}
use Rattle.bfs_attr.specs.SmallData.{HasAttribute, attribute_in}
use Rattle.bfs_attr.proofs.OwnNames.{IsOwnFirst}
use Rattle.bfs_attrs.specs.Laws.{LongestCanMove}
use Rattle.bfs_attrs.specs.Moved.{HasMovedOut, IsNotMoved}
use Rattle.bfs_attrs.proofs.Older.{wrote_older}
use Rattle.bfs_set_name.specs.Renamed.{IsShortNamed, CanName, IsNext, HasGone, IsNotStepped, longest_in}
use Rattle.bfs_set_name.proofs.Movings.{First, attributes, none_moves, first_moves, most_move}
use Rattle.bfs_set_name.proofs.Nexts.{first_within}

-- the small data of an inode that is told is as long as a block without the inode's own fields
area_long : (b : Bearer) (v : Room) (m : ℕ → Option (List ℕ)) (size : ℕ) → Holds b v m → AreSized size (Some m) → length (drop 232 (contents m b.id)) ≡ size - 232
area_long b v m size holds sized = length-drop 232 (contents m b.id) ∙ ap (λ (n : ℕ). n - 232) (told_long size m b.id sized holds.inode)

-- why a step was not made
module _ (b : Bearer) (v : Room) (m : ℕ → Option (List ℕ)) (name : List ℕ) where
  pub undone_step : (fault : TreeFault GrowFault) → IsUndone fault → IsNotStepped b v m name fault
  undone_step Exists h = h
  undone_step Absent h = h
  undone_step (Damaged page sort) h = h
  undone_step (Pages fault) h = inl h
  undone_step NoMemory h = h

  pub not_gone : (x : Item) (others : List Item) → moves (volume_at b.geometry m) b.id name ≡ x ∷ others → (fault : TreeFault GrowFault) → IsNotMoved b v m x.name (attribute_in x) (ceil (length x.bytes) b.geometry.block_size) fault → IsNotStepped b v m name fault
  not_gone x others first Exists h = h
  not_gone x others first Absent h = h
  not_gone x others first (Damaged page sort) h = h
  not_gone x others first (Pages fault) (inl h) = inl h
  not_gone x others first (Pages fault) (inr h) = inr (record { item = x; more = others; order = first; failed = h })
  not_gone x others first NoMemory h = h

-- one that moved out, begun a little earlier
pub moved_older : (b : Bearer) (v now : Room) (m : ℕ → Option (List ℕ)) (name : List ℕ) (told : Option (ℕ → Option (List ℕ))) (old half new : ℕ → Bool) → ((k : ℕ) → half k ≡ true → (old k ≡ true) ⊎ (k ≡ b.id)) → HasMovedOut b v now m name told half new → HasMovedOut b v now m name told old new
moved_older b v now m name told old half new set h = record {
  now_are = record {
    map = h.now_are.map;
    is = h.now_are.is;
    holds = h.now_are.holds;
    attributes_are = h.now_are.attributes_are;
    were_free = h.now_are.were_free;
    free = h.now_are.free;
    marks = h.now_are.marks;
    others = h.now_are.others;
    first = h.now_are.first;
    kept = h.now_are.kept;
    written = wrote_older b v m old half new set (attribute_blocks b.geometry h.now_are.map b.id) h.now_are.written;
    counted = h.now_are.counted;
    entered = h.now_are.entered;
  };
  items = h.items;
}

module _ (b : Bearer) (v : Room) (m : ℕ → Option (List ℕ)) (name : List ℕ) (can : CanName b v m name) (size : ℕ) (sized : AreSized size (Some m)) (some : 1024 ≤ size) where
  abbrev pub area : List ℕ
  area = drop 232 (contents m b.id)

  abbrev pub items : List Item
  items = can.holds.stands.items

  listed : items_of area ≡ Some items
  listed = can.holds.stands.area

  pub own : IsOwnFirst items
  own = subst (λ (o : Option (List Item)). IfSome o IsOwnFirst) listed can.own

  order_is : moves (volume_at b.geometry m) b.id name ≡ moving_from (length area) (length name) (Some items)
  order_is = ap (moving_from (length area) (length name)) listed

  pub none_left : IsFitting area own_name (length name) → moves (volume_at b.geometry m) b.id name ≡ []
  none_left fits =
      order_is
      ∙ none_moves (length area) (length name) items own (can.holds.stands.distinct own_name)
      (subst (λ (o : Option (List Item)). IfSome o (λ xs. sizes_of (without own_name xs) + (8 + length own_name + 3 + length name + 1) ≤ length area)) listed fits.1)

  pub few_left : length (moves (volume_at b.geometry m) b.id name) ≤ size - 232
  few_left =
      let inside : sizes_of items ≤ length area = stand_size items area (area_from area items listed).0 in
      let few : length (moves (volume_at b.geometry m) b.id name) ≤ length area =
      subst (λ (l : List Item). length l ≤ length area) (sym order_is) (most_move (length area) (length name) items own (can.holds.stands.distinct own_name) inside) in
      let long = area_long b v m size can.holds sized in
      omega (arith, few, long)

  module _ (law : LongestCanMove) (short : length name ≤ 255) (over : IsFitting area own_name (length name) → ⊥) where
    pub first : First (length area) (length name) items own (can.holds.stands.distinct own_name)
    first =
        first_moves (length area) (length name) items own (can.holds.stands.distinct own_name)
        (λ fits. over (omega (arith, short), subst (λ (o : Option (List Item)). IfSome o (λ xs. sizes_of (without own_name xs) + (8 + length own_name + 3 + length name + 1) ≤ length area)) (sym listed) fits))
        short (let long = area_long b v m size can.holds sized in omega (arith, long, some))

    abbrev pub item : Item
    item = first.item

    is_longest : longest_in area ≡ Some item
    is_longest = ap (option_and_then (λ (xs : List Item). longest (attributes xs))) listed ∙ first.is

    there : HasAttribute item.name items
    there = subst (λ (o : Option (List Item)). IfSome o (HasAttribute item.name)) listed (first_within law b v m item can.holds is_longest).within

    other : bytes_eq item.name own_name ≡ false
    other = by_name (cases_Bool (bytes_eq item.name own_name))
      where
        by_name : (bytes_eq item.name own_name ≡ true) ⊎ (bytes_eq item.name own_name ≡ false) → bytes_eq item.name own_name ≡ false
        by_name (inl same) =
            let found : named own_name items ≡ Some there.0 = ap (λ (n : List ℕ). named n items) (sym ((bytes_eq-Decides item.name own_name).0 same)) ∙ there.1 in
            let is : is_name_item there.0 ≡ true = subst (λ (o : Option Item). IfSome o (λ x. is_name_item x ≡ true)) found own in
            let isnt : is_name_item there.0 ≡ false = there.2 in
            absurd (let bad : true ≡ false = sym is ∙ isnt in cc)
        by_name (inr differ) = differ

    abbrev pub more : List Item
    more = moving_from (length area) (length name) (Some (without item.name items))

    pub order : moves (volume_at b.geometry m) b.id name ≡ item ∷ more
    order = order_is ∙ first.order other there.0 there.1

    named_short : IsShortNamed item × AllByRecursion IsShortNamed more
    named_short = subst (AllByRecursion IsShortNamed) order can.short

    pub next : IsNext b v m item
    next = record { holds = can.holds; first = is_longest; short = named_short.0 }

    module _ (now : Room) (told : Option (ℕ → Option (List ℕ))) (old new : ℕ → Bool) (moved : HasMovedOut b v now m item.name told old new) (sized1 : AreSized size (Some moved.now_are.map)) where
      abbrev m1 : ℕ → Option (List ℕ)
      m1 = moved.now_are.map

      area1 : List ℕ
      area1 = drop 232 (contents m1 b.id)

      items1 : items_of (drop 232 (contents m1 b.id)) ≡ Some (without item.name items)
      items1 = moved.items ∙ ap (option_map (without item.name)) listed

      others : moves (volume_at b.geometry m1) b.id name ≡ more
      others =
          ap₂ (λ (n : ℕ) (o : Option (List Item)). moving_from n (length name) o)
          (area_long b now m1 size moved.now_are.holds sized1 ∙ sym (area_long b v m size can.holds sized)) items1

      own1 : IsOwnFirst (without item.name items)
      own1 =
          subst (λ (o : Option Item). IfSome o (λ x. is_name_item x ≡ true))
          (sym (take_others own_name item.name (λ e. let bad : true ≡ false = sym ((bytes_eq-Decides item.name own_name).1 (sym e)) ∙ other in cc) items)) own

      pub has_gone : HasGone b v now m name told old new
      has_gone = record {
        item = item;
        more = more;
        order = order;
        moved = moved;
        others = others;
        can = record {
          holds = moved.now_are.holds;
          own = subst (λ (o : Option (List Item)). IfSome o IsOwnFirst) (sym items1) own1;
          short = subst (AllByRecursion IsShortNamed) (sym others) named_short.1;
        };
      }
