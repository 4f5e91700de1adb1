-- What the calls that change attributes leave, over blocks that are told.
use Rattle.std.specs.Prelude.{true, false, ◌≡◌, ◌<◌, ◌↔◌, ℕ, ◌*◌, ◌-◌, ◌==◌, ◌&&◌, List, ◌∷◌, ◌++◌, length, drop, Bool, Option, Some, IsSome, IfSome, if◌then◌else◌}
use Rattle.std.specs.FinMap.{get, insert, remove}
use Rattle.std.specs.List.{flat_map}
use Rattle.std.specs.Option.{option_map}
use Rattle.bfs_base.specs.Lists.{times, Has, IsOnce}
use Rattle.bfs_bitmap.specs.Runs.{Room, Fits, IsCounted, per_block, is_free, marked}
use Rattle.bfs_super.specs.declared.geometry.Geometry.{Geometry}
use Rattle.bfs_inode.specs.Inode.{inode_at}
use Rattle.bfs_smalldata.specs.Items.{Item, items_of}
use Rattle.bfs_smalldata.specs.Edits.{named, with_item, IsFitting}
use Rattle.bfs_stream.specs.Grown.{IsOutside, AreWritten, is_new}
use Rattle.bfs_stream.specs.Places.{whole_at}
use Rattle.bfs_stream.specs.Trimmed.{AreMarked}
use Rattle.bfs_stream.specs.Told.{contents}
use Rattle.bfs_tree.specs.Trees.{Attribute, Attributes}
use Rattle.bfs_maps.specs.Mapped.{HasHeld}
use Rattle.bfs_sound.specs.Volumes.{Volume, sizes}
use Rattle.bfs_sound.specs.Owners.{In}
use Rattle.bfs_sound.specs.Attributes.{own_name, is_name_item, attribute_directory, attribute_inodes}
use Rattle.bfs_attr.specs.SmallData.{HasSmall}
use Rattle.bfs_attr.specs.Bearers.{Bearer, volume_at, origin, HasAttributes, attributes_at}

-- The blocks of attributes: the inode that bears them, and the inodes of the attribute directory and of its attributes, each with
-- its array blocks and those of its stream. Of the bearing inode they are the inode alone.
abbrev pub attribute_blocks : Geometry → (ℕ → Option (List ℕ)) → ℕ → List ℕ
attribute_blocks g m id = id ∷ flat_map (whole_at (sizes g) (contents m)) (attribute_inodes (volume_at g m) (attribute_directory (volume_at g m) id))

-- The attributes stand and are held: their inode is told and no block of the bitmap, the streams of the attribute directory and of
-- each attribute are held, no block is there twice, and none of them is free. The bitmap is told, and no block of it is free.
pub record Holds (b : Bearer) (v : Room) (m : ℕ → Option (List ℕ)) : Type 0 where
  pub stands : HasAttributes (volume_at b.geometry m) b.id
  pub inode : IsSome (m b.id)
  pub streams : (k : ℕ) → In k (attribute_inodes (volume_at b.geometry m) (attribute_directory (volume_at b.geometry m) b.id)) → HasHeld (origin b.geometry k) v m
  pub once : IsOnce (attribute_blocks b.geometry m b.id)
  pub taken : (k : ℕ) → Has (attribute_blocks b.geometry m b.id) k → is_free v m k ≡ false
  pub outside : IsOutside v b.id
  pub bits : (k : ℕ) → per_block v * (k - 1) < v.blocks → is_free v m k ≡ false
  pub fits : Fits v m

-- The attributes are these since, and are held. Blocks that they have now and had not were free, and are marked; those that they had
-- and have no more are marked no more, and are given back; no other bit changed; and where their blocks were marked, a right count
-- of the used blocks stays right. But for bits and their own blocks nothing changed, block 0 among the rest, and of the bearing
-- inode the address of the attribute directory and the small data alone. Each block that they have now and had not is changed since.
pub record AttributesNow (b : Bearer) (v now : Room) (m : ℕ → Option (List ℕ)) (attributes : Attributes) (told : Option (ℕ → Option (List ℕ))) (old new : ℕ → Bool) : Type 0 where
  pub map : ℕ → Option (List ℕ)
  pub is : told ≡ Some map
  pub holds : Holds b now map
  pub attributes_are : attributes_at (volume_at b.geometry map) b.id ≡ attributes
  pub were_free : (k : ℕ) → Has (attribute_blocks b.geometry map b.id) k → times k (attribute_blocks b.geometry m b.id) ≡ 0 → is_free v m k ≡ true
  pub free : (k : ℕ) → is_free now map k ≡ (is_free v m k && (times k (attribute_blocks b.geometry map b.id) == 0))
  pub marks : (k : ℕ) → k < v.blocks → marked (per_block v) map k ≡ (if is_new (attribute_blocks b.geometry m b.id) (attribute_blocks b.geometry map b.id) k then 1
      else (if is_new (attribute_blocks b.geometry map b.id) (attribute_blocks b.geometry m b.id) k then 0 else marked (per_block v) m k))
  pub others : (k : ℕ) → IsOutside v k → times k (attribute_blocks b.geometry m b.id ++ attribute_blocks b.geometry map b.id) ≡ 0 → map k ≡ m k
  pub first : times 0 (attribute_blocks b.geometry m b.id ++ attribute_blocks b.geometry map b.id) ≡ 0 → map 0 ≡ m 0
  pub kept : inode_at (contents map b.id) ≡ record (inode_at (contents m b.id)) { attributes = (inode_at (contents map b.id)).attributes; small_data = (inode_at (contents map b.id)).small_data }
  pub written : AreWritten v old new (attribute_blocks b.geometry m b.id ++ attribute_blocks b.geometry map b.id)
  pub counted : AreMarked v (attribute_blocks b.geometry m b.id) m → IsCounted v m → IsCounted now map
  pub entered : (k : ℕ) → Has (attribute_blocks b.geometry map b.id) k → times k (attribute_blocks b.geometry m b.id) ≡ 0 → new k ≡ true

-- an attribute of this name stands in small data
abbrev pub IsInSmallData : Volume → ℕ → List ℕ → Type 0
IsInSmallData v id name = HasSmall (drop 232 (v.blocks id)) name

-- the node's own name item has these bytes
abbrev pub IsNamedBy : Volume → ℕ → List ℕ → Type 0
IsNamedBy v id name = IfSome (items_of (drop 232 (v.blocks id))) (λ items. (item : Item) × (named own_name items ≡ Some item) × (is_name_item item ≡ true) × (item.bytes ≡ name))

-- the item with a node's own name
abbrev pub name_item : List ℕ → Item
name_item name = record { kind = 0x43535452; name = own_name; bytes = name }

-- an item that is named as a node's own name is it
abbrev pub HasOwnName : Volume → ℕ → Type 0
HasOwnName v id = IfSome (items_of (drop 232 (v.blocks id))) (λ items. IfSome (named own_name items) (λ item. is_name_item item ≡ true))

-- Named: the node's own name is this since, every other item is as it was, and the attributes are those before.
pub record HasNameSet (b : Bearer) (v now : Room) (m : ℕ → Option (List ℕ)) (name : List ℕ) (told : Option (ℕ → Option (List ℕ))) (old new : ℕ → Bool) : Type 0 where
  pub now_are : AttributesNow b v now m (attributes_at (volume_at b.geometry m) b.id) told old new
  pub items : items_of (drop 232 (contents now_are.map b.id)) ≡ option_map (with_item (name_item name)) (items_of (drop 232 (contents m b.id)))

-- A node's own name was put where it fits, and else nothing was written.
abbrev pub IsNamePut : Bearer → Room → (ℕ → Option (List ℕ)) → List ℕ → Option (ℕ → Option (List ℕ)) → (ℕ → Bool) → (ℕ → Bool) → Bool → Type 0
IsNamePut b v m name told old new true = IsFitting (drop 232 (contents m b.id)) own_name (length name) × HasNameSet b v v m name told old new
IsNamePut b v m name told old new false = (¬ IsFitting (drop 232 (contents m b.id)) own_name (length name)) × (told ≡ Some m)

-- Put: the map has the attribute, and it stands in small data exactly where it fits there.
pub record HasPut (b : Bearer) (v now : Room) (m : ℕ → Option (List ℕ)) (name : List ℕ) (attribute : Attribute) (told : Option (ℕ → Option (List ℕ))) (old new : ℕ → Bool) : Type 0 where
  pub now_are : AttributesNow b v now m (insert (attributes_at (volume_at b.geometry m) b.id) name attribute) told old new
  pub place : IsInSmallData (volume_at b.geometry now_are.map) b.id name ↔ IsFitting (drop 232 (contents m b.id)) name (length attribute.bytes)

-- Taken: the map has the name no more, and had it.
pub record HasTaken (b : Bearer) (v now : Room) (m : ℕ → Option (List ℕ)) (name : List ℕ) (told : Option (ℕ → Option (List ℕ))) (old new : ℕ → Bool) : Type 0 where
  pub now_are : AttributesNow b v now m (remove (attributes_at (volume_at b.geometry m) b.id) name) told old new
  pub there : IsSome (get (attributes_at (volume_at b.geometry m) b.id) name)
  -- where it stood in the attribute directory, that has a row since, or is none
  pub some : (IsInSmallData (volume_at b.geometry m) b.id name → ⊥) → (d : ℕ) → attribute_directory (volume_at b.geometry now_are.map) b.id ≡ Some d → (k : ℕ) × (In k (attribute_inodes (volume_at b.geometry now_are.map) (Some d)) × (k ≡ d → ⊥))

-- An attribute was put into small data, where it fits there, and else nothing was written.
abbrev pub IsPutInSmall : Bearer → Room → (ℕ → Option (List ℕ)) → List ℕ → Attribute → Option (ℕ → Option (List ℕ)) → (ℕ → Bool) → (ℕ → Bool) → Bool → Type 0
IsPutInSmall b v m name attribute told old new true = HasPut b v v m name attribute told old new
IsPutInSmall b v m name attribute told old new false = (¬ IsFitting (drop 232 (contents m b.id)) name (length attribute.bytes)) × (told ≡ Some m)

-- An attribute was taken out of small data, where it is there, and else nothing was written.
abbrev pub IsTakenFromSmall : Bearer → Room → (ℕ → Option (List ℕ)) → List ℕ → Option (ℕ → Option (List ℕ)) → (ℕ → Bool) → (ℕ → Bool) → Bool → Type 0
IsTakenFromSmall b v m name told old new true = HasTaken b v v m name told old new
IsTakenFromSmall b v m name told old new false = (¬ IsInSmallData (volume_at b.geometry m) b.id name) × (told ≡ Some m)
