-- What a step that sets a name has done, as a name that was set.
use Rattle.std.proofs.Common.{ℕ, List, Bool, Option, subst}
use Rattle.std.specs.Prelude.{IfSome}
use Rattle.bfs_base.specs.Lists.{Has}
use Rattle.bfs_bitmap.specs.Runs.{Room}
use Rattle.bfs_sound.specs.Need.{moves}
use Rattle.bfs_attr.specs.Bearers.{Bearer, volume_at}
use Rattle.bfs_attr.specs.Changed.{attribute_blocks}
use Rattle.bfs_set_name.specs.Replaced.{HasAllBlocks}
use Rattle.bfs_set_name.specs.Renamed.{HasNewName}
use Rattle.bfs_give_name.specs.Named.{IsNamed}

module _ (b : Bearer) (v now : Room) (m : ℕ → Option (List ℕ)) (name : List ℕ) (told : Option (ℕ → Option (List ℕ))) (old new : ℕ → Bool) where
  pub moved_named : HasNewName b v now m name told old new → HasAllBlocks b m told → IsNamed b v now m name told old new
  moved_named h keeps = record {
    now_are = h.now_are;
    moved = moves (volume_at b.geometry m) b.id name;
    items = h.items;
    all = subst (λ (o : Option (ℕ → Option (List ℕ))). IfSome o (λ map. (k : ℕ) → Has (attribute_blocks b.geometry m b.id) k → Has (attribute_blocks b.geometry map b.id) k)) h.now_are.is keeps;
  }
