-- The name was put, after all that move out for it had moved.
use Rattle.std.proofs.Common.{◌≡◌, ◌∙◌, ℕ, List, [], drop, Bool, Option, ap, subst}
use Rattle.std.specs.Option.{option_map}
use Rattle.bfs_bitmap.specs.Runs.{Room}
use Rattle.bfs_txn.specs.Told.{StaysChanged}
use Rattle.bfs_smalldata.specs.Items.{Item, items_of}
use Rattle.bfs_smalldata.specs.Edits.{with_item}
use Rattle.bfs_stream.specs.Told.{contents}
use Rattle.bfs_sound.specs.Need.{moves}
use Rattle.bfs_make.proofs.Telling.{one_map}
use Rattle.bfs_attr.specs.Bearers.{Bearer, volume_at, attributes_at}
use Rattle.bfs_attr.specs.Changed.{AttributesNow, HasNameSet, name_item}
use Rattle.bfs_attrs.specs.Replaced.{HasAllBlocks}
use Rattle.bfs_attrs.proofs.Moves.{all_twice}
use Rattle.bfs_set_name.proofs.Joins.{SoFar, map_named}
use Rattle.bfs_set_name.proofs.Orders.{all_moved}
use Rattle.bfs_set_name.proofs.Twice.{joined}
use Rattle.bfs_set_name.specs.Renamed.{CanName, HasNewName, without_each}

module _ (b : Bearer) (v : Room) (m : ℕ → Option (List ℕ)) (name : List ℕ) (can : CanName b v m name) (mid : Room) (told : Option (ℕ → Option (List ℕ))) (old half : ℕ → Bool) (left : ℕ) (far : SoFar b v mid m name told old half left) (to_mid : mid ≡ record v { tally = mid.tally }) where
  abbrev m1 : ℕ → Option (List ℕ)
  m1 = far.have.now_are.map

  module _ (now : Room) (later : Option (ℕ → Option (List ℕ))) (new : ℕ → Bool) (to_now : now ≡ record mid { tally = now.tally }) (stays : StaysChanged half new) (keeps : HasAllBlocks b m1 later) where
    pub all_named : HasAllBlocks b m later
    all_named = all_twice b m m1 told later far.all far.have.now_are.is keeps

    module _ (none : moves (volume_at b.geometry m1) b.id name ≡ []) (put : HasNameSet b mid now m1 name later half new) where
      end : AttributesNow b v now m (attributes_at (volume_at b.geometry m) b.id) later old new
      end = joined b v mid now m told later old half new can.holds far.have.now_are put.now_are to_mid to_now stays keeps

      same : put.now_are.map ≡ end.map
      same = one_map later put.now_are.map end.map put.now_are.is end.is

      all : far.moved ≡ moves (volume_at b.geometry m) b.id name
      all = all_moved (moves (volume_at b.geometry m) b.id name) far.moved (moves (volume_at b.geometry m1) b.id name) far.order none

      items_end : items_of (drop 232 (contents end.map b.id)) ≡ option_map (λ items. with_item (name_item name) (without_each far.moved items)) (items_of (drop 232 (contents m b.id)))
      items_end = subst (λ (x : ℕ → Option (List ℕ)). items_of (drop 232 (contents x b.id)) ≡ option_map (λ items. with_item (name_item name) (without_each far.moved items)) (items_of (drop 232 (contents m b.id)))) same
          (put.items ∙ ap (option_map (with_item (name_item name))) far.have.items ∙ map_named far.moved name (items_of (drop 232 (contents m b.id))))

      pub has_new_name : HasNewName b v now m name later old new
      has_new_name = record {
        now_are = end;
        items = subst (λ (l : List Item). items_of (drop 232 (contents end.map b.id)) ≡ option_map (λ items. with_item (name_item name) (without_each l items)) (items_of (drop 232 (contents m b.id)))) all items_end;
      }
