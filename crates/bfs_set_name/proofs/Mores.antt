-- One more attribute has moved out.
use Rattle.std.proofs.Common.{◌≡◌, ◌∙◌, ℕ, suc, List, [], ◌∷◌, ◌++◌, drop, Bool, Option, ap, subst}
use Rattle.std.specs.Option.{option_map}
use Rattle.bfs_bitmap.specs.Runs.{Room}
use Rattle.bfs_txn.specs.Told.{StaysChanged}
use Rattle.bfs_smalldata.specs.Items.{items_of}
use Rattle.bfs_smalldata.specs.Edits.{without}
use Rattle.bfs_stream.specs.Told.{contents}
use Rattle.bfs_sound.specs.Need.{moves}
use Rattle.bfs_make.proofs.Telling.{one_map}
use Rattle.bfs_attr.specs.Bearers.{Bearer, volume_at, attributes_at}
use Rattle.bfs_attr.specs.Changed.{AttributesNow}
use Rattle.bfs_attrs.specs.Replaced.{HasAllBlocks}
use Rattle.bfs_attrs.proofs.Moves.{all_twice}
use Rattle.bfs_set_name.proofs.Joins.{SoFar, map_last}
use Rattle.bfs_set_name.proofs.Orders.{order_more, few_less}
use Rattle.bfs_set_name.proofs.Twice.{joined}
use Rattle.bfs_set_name.specs.Renamed.{CanName, HaveMoved, HasGone, without_each}

module _ (b : Bearer) (v : Room) (m : ℕ → Option (List ℕ)) (name : List ℕ) (can : CanName b v m name) (mid : Room) (told : Option (ℕ → Option (List ℕ))) (old half : ℕ → Bool) (left : ℕ) (far : SoFar b v mid m name told old half left) (to_mid : mid ≡ record v { tally = mid.tally }) where
  abbrev m1 : ℕ → Option (List ℕ)
  m1 = far.have.now_are.map

  module _ (now : Room) (later : Option (ℕ → Option (List ℕ))) (new : ℕ → Bool) (to_now : now ≡ record mid { tally = now.tally }) (stays : StaysChanged half new) (keeps : HasAllBlocks b m1 later) where
    all_later : HasAllBlocks b m later
    all_later = all_twice b m m1 told later far.all far.have.now_are.is keeps

    module _ (gone : HasGone b mid now m1 name later half new) where
      both : AttributesNow b v now m (attributes_at (volume_at b.geometry m) b.id) later old new
      both = joined b v mid now m told later old half new can.holds far.have.now_are gone.moved.now_are to_mid to_now stays keeps

      same : gone.moved.now_are.map ≡ both.map
      same = one_map later gone.moved.now_are.map both.map gone.moved.now_are.is both.is

      have_moved : HaveMoved b v now m (far.moved ++ (gone.item ∷ [])) later old new
      have_moved = record {
        now_are = both;
        items = subst (λ (x : ℕ → Option (List ℕ)). items_of (drop 232 (contents x b.id)) ≡ option_map (without_each (far.moved ++ (gone.item ∷ []))) (items_of (drop 232 (contents m b.id)))) same
            (gone.moved.items ∙ ap (option_map (without gone.item.name)) far.have.items ∙ map_last far.moved gone.item (items_of (drop 232 (contents m b.id))));
      }

      others : moves (volume_at b.geometry both.map) b.id name ≡ gone.more
      others = subst (λ (x : ℕ → Option (List ℕ)). moves (volume_at b.geometry x) b.id name ≡ gone.more) same gone.others

      can_now : CanName b now both.map name
      can_now = subst (λ (x : ℕ → Option (List ℕ)). CanName b now x name) same gone.can

      pub so_far_more : (less : ℕ) → suc less ≡ left → SoFar b v now m name later old new less
      unfolding have_moved
      so_far_more less is = record {
        moved = far.moved ++ (gone.item ∷ []);
        have = have_moved;
        order = order_more (moves (volume_at b.geometry m) b.id name) far.moved (moves (volume_at b.geometry m1) b.id name) far.order gone.item gone.more (moves (volume_at b.geometry both.map) b.id name) gone.order others;
        can = can_now;
        all = all_later;
        few = few_less (moves (volume_at b.geometry m1) b.id name) (moves (volume_at b.geometry both.map) b.id name) gone.more gone.item left less far.few gone.order others is;
      }
