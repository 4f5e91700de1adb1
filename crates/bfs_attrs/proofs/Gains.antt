-- What a call that puts an attribute keeps of small data and of what was given back.
use Rattle.std.proofs.Common.{◌≡◌, inl, inr, ℕ, List, Bool, true, Option, Some, None, drop, refl, sym, ap, subst}
use Rattle.std.specs.Prelude.{IfSome}
use Rattle.bfs_bitmap.specs.Runs.{Room}
use Rattle.bfs_node.specs.declared.fault.TreeFault.{TreeFault}
use Rattle.bfs_node.specs.declared.fault.TreeFault.TheVariants.{Absent}
use Rattle.bfs_smalldata.specs.Items.{Item, items_of}
use Rattle.bfs_stream.specs.Told.{contents}
use Rattle.bfs_stream.specs.declared.fault.GrowFault.{GrowFault}
use Rattle.bfs_tree.specs.Trees.{Attributes}
use Rattle.bfs_attr.specs.Bearers.{Bearer}
use Rattle.bfs_attr.specs.Changed.{attribute_blocks, AttributesNow}
use Rattle.bfs_attr.specs.Written.{items_put}
use Rattle.bfs_attr_write.specs.Removal.{KeepsClear}
use Rattle.bfs_attr_write.proofs.Brings.{rest_given}
use Rattle.bfs_attr_write.proofs.Clear.{exchange_clear, clear_twice, clear_told}
use Rattle.bfs_attr_write.proofs.Follows.{exchange_of}
use Rattle.bfs_attrs.specs.Put.{GainsItem}
use Rattle.bfs_attrs.specs.Removed.{IsUntouched, LosesItem}
use Rattle.bfs_attrs.specs.Replaced.{ExchangesItem}
use Rattle.bfs_attrs.proofs.Loses.{loses_none}

-- where nothing was given back
pub now_clear : (b : Bearer) (v now : Room) (m : ℕ → Option (List ℕ)) (attributes : Attributes) (told : Option (ℕ → Option (List ℕ))) (old new : ℕ → Bool) → now ≡ record v { tally = now.tally } → AttributesNow b v now m attributes told old new
    → IfSome told (KeepsClear v now m)
now_clear b v now m attributes told old new rest n =
    clear_told v now m n.map told n.is
    (exchange_clear v now m n.map (attribute_blocks b.geometry m b.id) (attribute_blocks b.geometry n.map b.id) (exchange_of b v now m attributes told old new (rest_given v now rest) n) (ap (λ (r : Room). r.given) rest))

-- an item that was put where it fits
pub gains_one : (item : Item) (old : List ℕ) (id : ℕ) (told : Option (ℕ → Option (List ℕ))) (fitted : Bool) → fitted ≡ true → IfSome told (λ map. items_of (drop 232 (contents map id)) ≡ items_put item (items_of old) fitted)
    → IfSome told (λ map. GainsItem item old (drop 232 (contents map id)))
gains_one item old id None fitted is h = tt
gains_one item old id (Some map) fitted is h = inl (subst (λ (t : Bool). items_of (drop 232 (contents map id)) ≡ items_put item (items_of old) t) is h)

-- small data that is as it was
pub gains_none : (item : Item) (old : List ℕ) (id : ℕ) (told : Option (ℕ → Option (List ℕ))) (map : ℕ → Option (List ℕ)) → told ≡ Some map → drop 232 (contents map id) ≡ old → IfSome told (λ map. GainsItem item old (drop 232 (contents map id)))
gains_none item old id told map is same = subst (λ (o : Option (ℕ → Option (List ℕ))). IfSome o (λ map. GainsItem item old (drop 232 (contents map id)))) (sym is) (inr (ap items_of same))

-- where there was none of the name
module _ (b : Bearer) (v now : Room) (m : ℕ → Option (List ℕ)) (told : Option (ℕ → Option (List ℕ))) (old new : ℕ → Bool) (fault : TreeFault GrowFault) (absent : fault ≡ Absent) (untouched : IsUntouched b v now m told old new fault) where
  is_same : IsUntouched b v now m told old new Absent
  is_same = subst (IsUntouched b v now m told old new) absent untouched

  pub absent_clear : IfSome told (KeepsClear v now m)
  absent_clear = clear_told v now m m told is_same.1 (subst (λ (x : Room). KeepsClear v x m m) (sym is_same.0) (record { holds = λ k r. r; clear = λ was. was }))

  pub absent_items : (name : List ℕ) → IfSome told (λ map. LosesItem name (drop 232 (contents m b.id)) (drop 232 (contents map b.id)))
  absent_items name =
      loses_none name (drop 232 (contents m b.id)) b.id told
      (subst (λ (o : Option (ℕ → Option (List ℕ))). IfSome o (λ map. drop 232 (contents map b.id) ≡ drop 232 (contents m b.id))) (sym is_same.1) refl)

-- what a step that takes and one that puts leave
pub clear_after : (v mid now : Room) (m half : ℕ → Option (List ℕ)) (told later : Option (ℕ → Option (List ℕ))) → mid ≡ record v { given = mid.given; tally = mid.tally } → told ≡ Some half → IfSome told (KeepsClear v mid m)
    → IfSome later (KeepsClear mid now half) → IfSome later (KeepsClear v now m)
clear_after v mid now m half told None rest is one two = tt
clear_after v mid now m half told (Some map) rest is one two = clear_twice v mid now m half map rest (subst (λ (o : Option (ℕ → Option (List ℕ))). IfSome o (KeepsClear v mid m)) is one) two

pub item_after : (item : Item) (old : List ℕ) (half : ℕ → Option (List ℕ)) (id : ℕ) (told later : Option (ℕ → Option (List ℕ))) → told ≡ Some half → IfSome told (λ map. LosesItem item.name old (drop 232 (contents map id)))
    → IfSome later (λ map. GainsItem item (drop 232 (contents half id)) (drop 232 (contents map id))) → IfSome later (λ map. ExchangesItem item old (drop 232 (contents map id)))
item_after item old half id told None is one two = tt
item_after item old half id told (Some map) is one two =
    (drop 232 (contents half id), subst (λ (o : Option (ℕ → Option (List ℕ))). IfSome o (λ map. LosesItem item.name old (drop 232 (contents map id)))) is one, two)
