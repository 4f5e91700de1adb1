-- Steps of a name that is set, one after the other.
use Rattle.std.proofs.Common.{◌≡◌, ◌<◌, ℕ, List, [], ◌∷◌, ◌++◌, length, drop, Bool, Option, Some, None, refl, sym, ap, subst}
use Rattle.std.specs.Option.{option_map}
use Rattle.bfs_bitmap.specs.Runs.{Room}
use Rattle.bfs_smalldata.specs.Items.{Item, items_of}
use Rattle.bfs_smalldata.specs.Edits.{with_item, without}
use Rattle.bfs_stream.specs.Told.{contents}
use Rattle.bfs_sound.specs.Need.{moves}
use Rattle.bfs_make.proofs.Telling.{one_map}
use Rattle.bfs_attr.specs.Bearers.{Bearer, volume_at}
use Rattle.bfs_attr.specs.Changed.{name_item}
use Rattle.bfs_attrs.specs.Replaced.{HasAllBlocks}
use Rattle.bfs_set_name.proofs.Starts.{attributes_start}
use Rattle.bfs_set_name.specs.Renamed.{CanName, HaveMoved, without_each}

-- items that were taken one after the other
without_last : (moved : List Item) (x : Item) (items : List Item) → without_each (moved ++ (x ∷ [])) items ≡ without x.name (without_each moved items)
without_last [] x items = refl
without_last (y ∷ ys) x items = without_last ys x (without y.name items)

pub map_last : (moved : List Item) (x : Item) (o : Option (List Item)) → option_map (without x.name) (option_map (without_each moved) o) ≡ option_map (without_each (moved ++ (x ∷ []))) o
map_last moved x None = refl
map_last moved x (Some items) = ap (λ (l : List Item). Some l) (sym (without_last moved x items))

pub map_named : (moved : List Item) (name : List ℕ) (o : Option (List Item)) → option_map (with_item (name_item name)) (option_map (without_each moved) o) ≡ option_map (λ items. with_item (name_item name) (without_each moved items)) o
map_named moved name None = refl
map_named moved name (Some items) = refl

pub map_nothing : (o : Option (List Item)) → o ≡ option_map (without_each []) o
map_nothing None = refl
map_nothing (Some items) = refl

-- Some have moved, and the others of those that move out for a name still do, fewer than so many; no block has gone.
pub record SoFar (b : Bearer) (v now : Room) (m : ℕ → Option (List ℕ)) (name : List ℕ) (told : Option (ℕ → Option (List ℕ))) (old new : ℕ → Bool) (left : ℕ) : Type 0 where
  pub moved : List Item
  pub have : HaveMoved b v now m moved told old new
  pub order : moves (volume_at b.geometry m) b.id name ≡ moved ++ moves (volume_at b.geometry have.now_are.map) b.id name
  pub can : CanName b now have.now_are.map name
  pub all : HasAllBlocks b m told
  pub few : length (moves (volume_at b.geometry have.now_are.map) b.id name) < left

module _ (b : Bearer) (v : Room) (m : ℕ → Option (List ℕ)) (name : List ℕ) (can : CanName b v m name) where
  first_far : (old : ℕ → Bool) (left : ℕ) → length (moves (volume_at b.geometry m) b.id name) < left → SoFar b v v m name (Some m) old old left
  first_far old left few =
      let start = attributes_start b v m can.holds old in
      let same : m ≡ start.map = one_map (Some m) m start.map refl start.is in
      record {
        moved = [];
        have = record {
          now_are = start;
          items = subst (λ (x : ℕ → Option (List ℕ)). items_of (drop 232 (contents x b.id)) ≡ option_map (without_each []) (items_of (drop 232 (contents m b.id)))) same (map_nothing (items_of (drop 232 (contents m b.id))));
        };
        order = subst (λ (x : ℕ → Option (List ℕ)). moves (volume_at b.geometry m) b.id name ≡ moves (volume_at b.geometry x) b.id name) same refl;
        can = subst (λ (x : ℕ → Option (List ℕ)). CanName b v x name) same can;
        all = λ k has. has;
        few = subst (λ (x : ℕ → Option (List ℕ)). length (moves (volume_at b.geometry x) b.id name) < left) same few;
      }

  pub so_far_start : (told : Option (ℕ → Option (List ℕ))) (old : ℕ → Bool) (left : ℕ) → told ≡ Some m → length (moves (volume_at b.geometry m) b.id name) < left → SoFar b v v m name told old old left
  so_far_start told old left is few = subst (λ (o : Option (ℕ → Option (List ℕ))). SoFar b v v m name o old old left) (sym is) (first_far old left few)
