-- An attribute that is put, whether or not there was one of its name, and why it was not.
use Rattle.std.specs.Prelude.{◌⊎◌, ℕ, List, drop, Bool, Option, IfSome}
use Rattle.std.specs.FinMap.{remove}
use Rattle.bfs_base.specs.Lists.{Has}
use Rattle.bfs_bitmap.specs.Runs.{Room}
use Rattle.bfs_node.specs.declared.fault.TreeFault.{TreeFault}
use Rattle.bfs_node.specs.declared.fault.TreeFault.TheVariants.{Exists, Absent, Damaged, Pages, NoMemory}
use Rattle.bfs_smalldata.specs.Items.{Item}
use Rattle.bfs_stream.specs.Told.{contents}
use Rattle.bfs_stream.specs.declared.fault.GrowFault.{GrowFault}
use Rattle.bfs_stream_pages.specs.Steps.{IsUndamaged}
use Rattle.bfs_tree.specs.Trees.{Attribute}
use Rattle.bfs_attr.specs.Bearers.{Bearer, volume_at, attributes_at}
use Rattle.bfs_attr.specs.Changed.{attribute_blocks, AttributesNow}
use Rattle.bfs_attrs.specs.Put.{IsNotPutNew, GainsItem}
use Rattle.bfs_attrs.specs.Removed.{FitAlike, LosesItem}

-- none of the blocks of the attributes has gone
abbrev pub HasAllBlocks : Bearer → (ℕ → Option (List ℕ)) → Option (ℕ → Option (List ℕ)) → Type 0
HasAllBlocks b m told = IfSome told (λ map. (k : ℕ) → Has (attribute_blocks b.geometry m b.id) k → Has (attribute_blocks b.geometry map b.id) k)

-- No attribute has this name since, the others are those before, and one of this name fits into small data just where it did.
pub record HasCleared (b : Bearer) (v now : Room) (m : ℕ → Option (List ℕ)) (name : List ℕ) (told : Option (ℕ → Option (List ℕ))) (old new : ℕ → Bool) : Type 0 where
  pub now_are : AttributesNow b v now m (remove (attributes_at (volume_at b.geometry m) b.id) name) told old new
  pub alike : FitAlike name (drop 232 (contents m b.id)) (drop 232 (contents now_are.map b.id))

-- The one of the name was taken, if there was one, and then the new one wasn't put, for a reason.
pub record HasNotCome (b : Bearer) (v : Room) (m : ℕ → Option (List ℕ)) (name : List ℕ) (attribute : Attribute) (blocks : ℕ) (fault : GrowFault) : Type 0 where
  pub now : Room
  pub told : Option (ℕ → Option (List ℕ))
  pub old : ℕ → Bool
  pub new : ℕ → Bool
  pub cleared : HasCleared b v now m name told old new
  pub failed : IsNotPutNew b now cleared.now_are.map attribute blocks (Pages fault)

-- Why it was not put: a block could not be had, and none is damaged; or it wasn't put after the one of its name was taken; or there is
-- no memory.
abbrev pub IsNotPut : Bearer → Room → (ℕ → Option (List ℕ)) → List ℕ → Attribute → ℕ → TreeFault GrowFault → Type 0
IsNotPut b v m name attribute blocks Exists = ⊥
IsNotPut b v m name attribute blocks Absent = ⊥
IsNotPut b v m name attribute blocks (Damaged page sort) = ⊥
IsNotPut b v m name attribute blocks (Pages fault) = IsUndamaged fault ⊎ HasNotCome b v m name attribute blocks fault
IsNotPut b v m name attribute blocks NoMemory = Unit {0}

-- The small data has the items that it had, without the attribute of the item's name if it was there, and then with this item, or not.
abbrev pub ExchangesItem : Item → List ℕ → List ℕ → Type 0
ExchangesItem item old new = (between : List ℕ) × LosesItem item.name old between × GainsItem item between new
