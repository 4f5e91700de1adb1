-- An attribute put into small data, and one taken out of it, as changes of the attributes of the inode.
use Rattle.std.proofs.Common.{◌≡◌, ◌⊎◌, ℕ, List, [], ◌++◌, Bool, true, false, Option, Some, refl, sym, ◌∙◌, ap, subst, take, drop}
use Rattle.std.specs.Prelude.{IfOk, IfSome, IsSome, unwrap_or, Result, Ok, Err, MatchResult}
use Rattle.std.specs.Option.{option_map}
use Rattle.std.specs.Str.{bytes_eq}
use Rattle.std.specs.FinMap.{from_entries, insert, remove, get}
use Rattle.bfs_base.specs.Keys.{text_cmp}
use Rattle.bfs_bitmap.specs.Runs.{Room}
use Rattle.bfs_smalldata.specs.Items.{Item, items_of}
use Rattle.bfs_smalldata.specs.Edits.{with_item, without}
use Rattle.bfs_stream.specs.Told.{contents}
use Rattle.bfs_tree.specs.Trees.{Attribute, Attributes}
use Rattle.bfs_txn.specs.Told.{with_block}
use Rattle.bfs_node.specs.declared.fault.TreeFault.{TreeFault}
use Rattle.bfs_stream.specs.declared.fault.GrowFault.{GrowFault}
use Rattle.bfs_maps.specs.Refused.{IsUndone}
use Rattle.bfs_sound.specs.Volumes.{Volume}
use Rattle.bfs_sound.specs.Attributes.{Named, own_name, attributes_in, attributes_of, attribute_directory}
use Rattle.bfs_attr.specs.Bearers.{Bearer, volume_at, entries_with, attributes_at}
use Rattle.bfs_attr.specs.Changed.{attribute_blocks, Holds, AttributesNow, HasPut, HasTaken, IsPutInSmall, IsTakenFromSmall}
use Rattle.bfs_attr.specs.Laws.{HasNone, HasNoRow}
use Rattle.bfs_attr.specs.SmallData.{HasAttribute, HasSmall, attribute_in}
use Rattle.bfs_attr.specs.Written.{IsPutInto, IsTakenFrom, items_left, items_put}
use Rattle.bfs_attr.proofs.Apart.{distinct_put, distinct_taken, apart_put, apart_taken, none_behind, put_named}
use Rattle.bfs_attr.proofs.Changes.{other_item, puts, takes}
use Rattle.bfs_attr.proofs.Finds.{small_there}
use Rattle.bfs_make.proofs.Written.{block_here}
use Rattle.bfs_attr.proofs.Stays.{blocks_same, attributes_now, attributes_there}
use Rattle.bfs_attr.proofs.Tops.{value_is}

module _ (b : Bearer) (v : Room) (m : ℕ → Option (List ℕ)) (holds : Holds b v m) (told : Option (ℕ → Option (List ℕ))) (old new : ℕ → Bool) (written : (k : ℕ) → new k ≡ true → (old k ≡ true) ⊎ (k ≡ b.id)) where
  abbrev volume : Volume
  volume = volume_at b.geometry m

  abbrev behind : List Named
  behind = attributes_of volume (attribute_directory volume b.id)

  abbrev items : List Item
  items = holds.stands.items

  -- the attributes, by the items
  map_is : from_entries {R = text_cmp} (attributes_in items ++ behind) ≡ attributes_at volume b.id
  map_is = ap (λ (o : Option (List Item)). from_entries {R = text_cmp} (entries_with volume b.id (unwrap_or o []))) (sym holds.stands.area)

  module _ (item : Item) (own : bytes_eq item.name own_name ≡ false) (none : HasNone behind item.name) (put : IsPutInto m b.id item told true) where
    put_area : items_of (drop 232 put.1.block) ≡ Some (with_item item items)
    put_area = put.1.items ∙ ap (option_map (with_item item)) holds.stands.area

    map_put : from_entries {R = text_cmp} (entries_with volume b.id (with_item item items)) ≡ insert (attributes_at volume b.id) item.name (attribute_in item)
    map_put = puts item items behind own ∙ ap (λ (a : Attributes). insert a item.name (attribute_in item)) map_is

    now_put : (n : AttributesNow b v v m (insert (attributes_at volume b.id) item.name (attribute_in item)) told old new) × (n.map ≡ with_block b.id put.1.block m)
    now_put =
        attributes_there b v m holds put.1.block put.1.before (with_item item items) put_area (distinct_put item items holds.stands.distinct)
        (apart_put item items behind own holds.stands.distinct holds.stands.apart none)
        (insert (attributes_at volume b.id) item.name (attribute_in item)) map_put told put.1.is old new written

    here : contents (with_block b.id put.1.block m) b.id ≡ put.1.block
    here = ap (λ (o : Option (List ℕ)). unwrap_or o []) (block_here m b.id put.1.block)

    small_there_now : HasSmall (drop 232 (contents (with_block b.id put.1.block m) b.id)) item.name
    small_there_now = subst (λ (o : Option (List Item)). IfSome o (HasAttribute item.name)) (sym (ap (λ (l : List ℕ). items_of (drop 232 l)) here ∙ put_area)) (item, put_named item items, other_item item item.name refl own)

    pub has_put : HasPut b v v m item.name (attribute_in item) told old new
    has_put = record {
      now_are = now_put.0;
      place = (
        λ there. put.0,
        λ fit. subst (λ (x : ℕ → Option (List ℕ)). HasSmall (drop 232 (contents x b.id)) item.name) (sym now_put.1) small_there_now,
      );
    }

  module _ (name : List ℕ) (taken : IsTakenFrom m b.id name told true) where
    has : HasAttribute name items
    has = subst (λ (o : Option (List Item)). IfSome o (HasAttribute name)) holds.stands.area taken.0

    none : HasNone behind name
    none = none_behind name items behind holds.stands.apart has

    taken_area : items_of (drop 232 taken.1.block) ≡ Some (without name items)
    taken_area = taken.1.items ∙ ap (option_map (without name)) holds.stands.area

    map_taken : from_entries {R = text_cmp} (entries_with volume b.id (without name items)) ≡ remove (attributes_at volume b.id) name
    map_taken = takes name items behind holds.stands.distinct has none ∙ ap (λ (a : Attributes). remove a name) map_is

    pub has_taken : HasTaken b v v m name told old new
    has_taken = record {
      now_are =
          attributes_now b v m holds taken.1.block taken.1.before (without name items) taken_area (distinct_taken name items holds.stands.distinct) (apart_taken name items behind holds.stands.apart)
          (remove (attributes_at volume b.id) name) map_taken told taken.1.is old new written;
      there = subst (λ (o : Option Attribute). IsSome o) (sym (small_there name behind items has.0 has.1 has.2) ∙ value_is (attributes_in items ++ behind) name ∙ ap (λ (a : Attributes). get a name) map_is) refl;
      some = λ out. absurd (out taken.0);
    }

module _ (b : Bearer) (v : Room) (m : ℕ → Option (List ℕ)) (holds : Holds b v m) (told : Option (ℕ → Option (List ℕ))) (old new : ℕ → Bool) (written : (k : ℕ) → new k ≡ true → (old k ≡ true) ⊎ (k ≡ b.id)) where
  pub put_holds : (item : Item) → bytes_eq item.name own_name ≡ false → HasNoRow (volume_at b.geometry m) b.id item.name → (r : Result Bool (TreeFault GrowFault)) → MatchResult r (IsPutInto m b.id item told) IsUndone
      → MatchResult r (IsPutInSmall b v m item.name (attribute_in item) told old new) IsUndone
  put_holds item own free (Ok true) h = has_put b v m holds told old new written item own free h
  put_holds item own free (Ok false) h = h
  put_holds item own free (Err e) h = h

  pub take_holds : (name : List ℕ) → (r : Result Bool (TreeFault GrowFault)) → MatchResult r (IsTakenFrom m b.id name told) IsUndone → MatchResult r (IsTakenFromSmall b v m name told old new) IsUndone
  take_holds name (Ok true) h = has_taken b v m holds told old new written name h
  take_holds name (Ok false) h = h
  take_holds name (Err e) h = h

-- no block of the attributes comes or goes, and the items since
module _ (b : Bearer) (v : Room) (m : ℕ → Option (List ℕ)) (holds : Holds b v m) (told : Option (ℕ → Option (List ℕ))) where
  abbrev HasSameBlocks : Type 0
  HasSameBlocks = IfSome told (λ map. attribute_blocks b.geometry map b.id ≡ attribute_blocks b.geometry m b.id)

  blocks_written : (block : List ℕ) → take 232 block ≡ take 232 (contents m b.id) → told ≡ Some (with_block b.id block m) → HasSameBlocks
  blocks_written block before is = subst (λ (o : Option (ℕ → Option (List ℕ))). IfSome o (λ map. attribute_blocks b.geometry map b.id ≡ attribute_blocks b.geometry m b.id)) (sym is) (blocks_same b v m holds block before)

  blocks_unwritten : told ≡ Some m → HasSameBlocks
  blocks_unwritten is = subst (λ (o : Option (ℕ → Option (List ℕ))). IfSome o (λ map. attribute_blocks b.geometry map b.id ≡ attribute_blocks b.geometry m b.id)) (sym is) refl

  pub put_keeps : (item : Item) (r : Result Bool (TreeFault GrowFault)) → MatchResult r (IsPutInto m b.id item told) IsUndone → IfOk r (λ fitted. HasSameBlocks)
  put_keeps item (Ok true) h = blocks_written h.1.block h.1.before h.1.is
  put_keeps item (Ok false) h = blocks_unwritten h.1
  put_keeps item (Err e) h = tt

  pub take_keeps : (name : List ℕ) (r : Result Bool (TreeFault GrowFault)) → MatchResult r (IsTakenFrom m b.id name told) IsUndone → IfOk r (λ taken. HasSameBlocks)
  take_keeps name (Ok true) h = blocks_written h.1.block h.1.before h.1.is
  take_keeps name (Ok false) h = blocks_unwritten h.1
  take_keeps name (Err e) h = tt

  pub put_brings : (item : Item) (r : Result Bool (TreeFault GrowFault)) → MatchResult r (IsPutInto m b.id item told) IsUndone
      → IfOk r (λ fitted. IfSome told (λ map. items_of (drop 232 (contents map b.id)) ≡ items_put item (items_of (drop 232 (contents m b.id))) fitted))
  put_brings item (Ok true) h =
      subst (λ (o : Option (ℕ → Option (List ℕ))). IfSome o (λ map. items_of (drop 232 (contents map b.id)) ≡ option_map (with_item item) (items_of (drop 232 (contents m b.id))))) (sym h.1.is)
      (ap (λ (o : Option (List ℕ)). items_of (drop 232 (unwrap_or o []))) (block_here m b.id h.1.block) ∙ h.1.items)
  put_brings item (Ok false) h =
      subst (λ (o : Option (ℕ → Option (List ℕ))). IfSome o (λ map. items_of (drop 232 (contents map b.id)) ≡ items_of (drop 232 (contents m b.id)))) (sym h.1) refl
  put_brings item (Err e) h = tt

  pub take_leaves : (name : List ℕ) (r : Result Bool (TreeFault GrowFault)) → MatchResult r (IsTakenFrom m b.id name told) IsUndone
      → IfOk r (λ taken. IfSome told (λ map. items_of (drop 232 (contents map b.id)) ≡ items_left name (items_of (drop 232 (contents m b.id))) taken))
  take_leaves name (Ok true) h =
      subst (λ (o : Option (ℕ → Option (List ℕ))). IfSome o (λ map. items_of (drop 232 (contents map b.id)) ≡ option_map (without name) (items_of (drop 232 (contents m b.id))))) (sym h.1.is)
      (ap (λ (o : Option (List ℕ)). items_of (drop 232 (unwrap_or o []))) (block_here m b.id h.1.block) ∙ h.1.items)
  take_leaves name (Ok false) h =
      subst (λ (o : Option (ℕ → Option (List ℕ))). IfSome o (λ map. items_of (drop 232 (contents map b.id)) ≡ items_of (drop 232 (contents m b.id)))) (sym h.1) refl
  take_leaves name (Err e) h = tt

-- what was taken out of small data was an attribute there
pub taken_small : (m : ℕ → Option (List ℕ)) (id : ℕ) (name : List ℕ) (told : Option (ℕ → Option (List ℕ))) (r : Result Bool (TreeFault GrowFault)) → MatchResult r (IsTakenFrom m id name told) IsUndone
    → IfOk r (λ taken. taken ≡ true → HasSmall (drop 232 (contents m id)) name)
taken_small m id name told (Ok true) h = λ e. h.0
taken_small m id name told (Ok false) h = λ e. absurd (let bad : false ≡ true = e in cc)
taken_small m id name told (Err e) h = tt

-- small data that holds is a list of items
pub area_there : (b : Bearer) (v : Room) (m : ℕ → Option (List ℕ)) → Holds b v m → IsSome (items_of (drop 232 (contents m b.id)))
area_there b v m holds = subst (λ (o : Option (List Item)). IsSome o) (sym holds.stands.area) refl
