-- What a change of an inode's small data leaves.
use Rattle.std.specs.Prelude.{◌≡◌, ℕ, List, Bool, true, false, length, take, drop, Option, Some}
use Rattle.std.specs.Option.{option_map}
use Rattle.bfs_txn.specs.Told.{with_block}
use Rattle.bfs_smalldata.specs.Items.{Item, items_of}
use Rattle.bfs_smalldata.specs.Edits.{with_item, without, IsFitting}
use Rattle.bfs_stream.specs.Told.{contents}
use Rattle.bfs_attr.specs.SmallData.{HasSmall}

-- the inode's block is another: an item was put into its small data, and the bytes before that stayed
pub record PutsItem (m : ℕ → Option (List ℕ)) (id : ℕ) (new : Item) (told : Option (ℕ → Option (List ℕ))) : Type 0 where
  pub block : List ℕ
  pub is : told ≡ Some (with_block id block m)
  pub before : take 232 block ≡ take 232 (contents m id)
  pub items : items_of (drop 232 block) ≡ option_map (with_item new) (items_of (drop 232 (contents m id)))

-- an item was put where it fits, and else nothing was written
abbrev pub IsPutInto : (ℕ → Option (List ℕ)) → ℕ → Item → Option (ℕ → Option (List ℕ)) → Bool → Type 0
IsPutInto m id new told true = IsFitting (drop 232 (contents m id)) new.name (length new.bytes) × PutsItem m id new told
IsPutInto m id new told false = (¬ IsFitting (drop 232 (contents m id)) new.name (length new.bytes)) × (told ≡ Some m)

-- the items that there are where one was put in, or none was
abbrev pub items_put : Item → Option (List Item) → Bool → Option (List Item)
items_put new items true = option_map (with_item new) items
items_put new items false = items

-- the inode's block is another: the first item of a name was taken out of its small data, and the bytes before that stayed
pub record TakesItem (m : ℕ → Option (List ℕ)) (id : ℕ) (name : List ℕ) (told : Option (ℕ → Option (List ℕ))) : Type 0 where
  pub block : List ℕ
  pub is : told ≡ Some (with_block id block m)
  pub before : take 232 block ≡ take 232 (contents m id)
  pub items : items_of (drop 232 block) ≡ option_map (without name) (items_of (drop 232 (contents m id)))

-- the items that are left where one of a name was taken out, or none was
abbrev pub items_left : List ℕ → Option (List Item) → Bool → Option (List Item)
items_left name items true = option_map (without name) items
items_left name items false = items

-- an attribute was taken out where it was there, and else nothing was written; a node's own name is no attribute
abbrev pub IsTakenFrom : (ℕ → Option (List ℕ)) → ℕ → List ℕ → Option (ℕ → Option (List ℕ)) → Bool → Type 0
IsTakenFrom m id name told true = HasSmall (drop 232 (contents m id)) name × TakesItem m id name told
IsTakenFrom m id name told false = (¬ HasSmall (drop 232 (contents m id)) name) × (told ≡ Some m)
