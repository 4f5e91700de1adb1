-- What a call that takes an attribute keeps of small data and of what was given back.
use Rattle.std.proofs.Common.{◌≡◌, inl, inr, ℕ, List, Bool, Option, Some, None, drop, refl, ap}
use Rattle.std.specs.Prelude.{IfSome}
use Rattle.std.specs.FinMap.{remove}
use Rattle.std.specs.Option.{option_map}
use Rattle.bfs_bitmap.specs.Runs.{Room}
use Rattle.bfs_smalldata.specs.Items.{items_of}
use Rattle.bfs_smalldata.specs.Edits.{without}
use Rattle.bfs_stream.specs.Told.{contents}
use Rattle.bfs_attr.specs.Bearers.{Bearer, volume_at, attributes_at}
use Rattle.bfs_attr.specs.Changed.{attribute_blocks, HasTaken}
use Rattle.bfs_attr.specs.SmallData.{HasSmall}
use Rattle.bfs_attr_write.specs.Removal.{KeepsClear}
use Rattle.bfs_attr_write.proofs.Clear.{exchange_clear, clear_told}
use Rattle.bfs_attr_write.proofs.Follows.{exchange_of}
use Rattle.bfs_attrs.specs.Removed.{LosesItem}

-- where nothing was given back
pub taken_clear : (b : Bearer) (v : Room) (m : ℕ → Option (List ℕ)) (name : List ℕ) (told : Option (ℕ → Option (List ℕ))) (old new : ℕ → Bool) → HasTaken b v v m name told old new → IfSome told (KeepsClear v v m)
taken_clear b v m name told old new h =
    clear_told v v m h.now_are.map told h.now_are.is
    (exchange_clear v v m h.now_are.map (attribute_blocks b.geometry m b.id) (attribute_blocks b.geometry h.now_are.map b.id) (exchange_of b v v m (remove (attributes_at (volume_at b.geometry m) b.id) name) told old new refl h.now_are) refl)

pub loses_one : (name old : List ℕ) (id : ℕ) (told : Option (ℕ → Option (List ℕ))) → HasSmall old name → IfSome told (λ map. items_of (drop 232 (contents map id)) ≡ option_map (without name) (items_of old)) → IfSome told (λ map. LosesItem name old (drop 232 (contents map id)))
loses_one name old id None small h = tt
loses_one name old id (Some map) small h = inr (small, h)

pub loses_none : (name old : List ℕ) (id : ℕ) (told : Option (ℕ → Option (List ℕ))) → IfSome told (λ map. drop 232 (contents map id) ≡ old) → IfSome told (λ map. LosesItem name old (drop 232 (contents map id)))
loses_none name old id None h = tt
loses_none name old id (Some map) h = inl (ap items_of h)
