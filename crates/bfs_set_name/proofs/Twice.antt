-- Two changes that leave the attributes, one after the other.
use Rattle.std.proofs.Common.{◌≡◌, inr, ℕ, List, Bool, Option, subst}
use Rattle.bfs_base.specs.Lists.{Has}
use Rattle.bfs_bitmap.specs.Runs.{Room}
use Rattle.bfs_txn.specs.Told.{StaysChanged}
use Rattle.bfs_tree.specs.Trees.{Attributes}
use Rattle.bfs_attr.specs.Bearers.{Bearer, volume_at, attributes_at}
use Rattle.bfs_attr.specs.Changed.{attribute_blocks, Holds, AttributesNow}
use Rattle.bfs_attrs.proofs.Brings.{rest_given}
use Rattle.bfs_attrs.proofs.Follows.{follows}
use Rattle.bfs_attrs.specs.Replaced.{HasAllBlocks}

-- two changes that leave the attributes, one after the other
module _ (b : Bearer) (v mid now : Room) (m : ℕ → Option (List ℕ)) (told later : Option (ℕ → Option (List ℕ))) (old half new : ℕ → Bool) (holds : Holds b v m) (one : AttributesNow b v mid m (attributes_at (volume_at b.geometry m) b.id) told old half)
    (two : AttributesNow b mid now one.map (attributes_at (volume_at b.geometry one.map) b.id) later half new) (to_mid : mid ≡ record v { tally = mid.tally }) (to_now : now ≡ record mid { tally = now.tally }) (stays : StaysChanged half new) (keeps : HasAllBlocks b one.map later) where
  second : AttributesNow b mid now one.map (attributes_at (volume_at b.geometry m) b.id) later half new
  second = subst (λ (a : Attributes). AttributesNow b mid now one.map a later half new) one.attributes_are two

  kept_blocks : (k : ℕ) → Has (attribute_blocks b.geometry one.map b.id) k → Has (attribute_blocks b.geometry second.map b.id) k
  kept_blocks = subst (HasAllBlocks b one.map) second.is keeps

  pub joined : AttributesNow b v now m (attributes_at (volume_at b.geometry m) b.id) later old new
  joined =
      follows b v mid now m (attributes_at (volume_at b.geometry m) b.id) (attributes_at (volume_at b.geometry m) b.id) told later old half new (rest_given v mid to_mid) (rest_given mid now to_now) holds one second stays
      (λ k has. inr (kept_blocks k has))
