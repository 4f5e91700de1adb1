-- A node's own name that is set, and the attributes that move out of small data for it.
use Rattle.std.specs.Prelude.{◌≡◌, ◌⊎◌, ◌≤◌, ℕ, List, [], ◌∷◌, ◌++◌, length, drop, not, Bool, true, false, Option, Some, None}
use Rattle.std.specs.List.{filter, AllByRecursion}
use Rattle.std.specs.Option.{option_map, option_and_then}
use Rattle.bfs_bitmap.specs.Runs.{Room}
use Rattle.bfs_node.specs.declared.fault.TreeFault.{TreeFault}
use Rattle.bfs_node.specs.declared.fault.TreeFault.TheVariants.{Exists, Absent, Damaged, Pages, NoMemory}
use Rattle.bfs_super.specs.Conditions.{ceil}
use Rattle.bfs_smalldata.specs.Items.{Item, Begins, items_of}
use Rattle.bfs_smalldata.specs.Edits.{with_item, without}
use Rattle.bfs_stream.specs.Told.{contents}
use Rattle.bfs_stream.specs.declared.fault.GrowFault.{GrowFault}
use Rattle.bfs_stream_pages.specs.Steps.{IsUndamaged}
use Rattle.bfs_sound.specs.Attributes.{is_name_item}
use Rattle.bfs_sound.specs.Need.{longest, moves}
use Rattle.bfs_attr.specs.Bearers.{Bearer, volume_at, attributes_at}
use Rattle.bfs_attr.specs.Changed.{Holds, AttributesNow, HasOwnName, HasNameSet, name_item}
use Rattle.bfs_attr.specs.SmallData.{attribute_in}
use Rattle.bfs_attrs.specs.Moved.{HasMovedOut, HasNotArrived}

-- the longest attribute in an area of small data, and among equals the last
abbrev pub longest_in : List ℕ → Option Item
longest_in area = option_and_then (λ items. longest (filter (λ item. not (is_name_item item)) items)) (items_of area)

-- the longest attribute in an inode's block begins at this place of the block, or it has none
abbrev pub IsPlaced : List ℕ → Option Item → Option ℕ → Type 0
IsPlaced block None None = Unit {0}
IsPlaced block None (Some at) = ⊥
IsPlaced block (Some item) None = ⊥
IsPlaced block (Some item) (Some at) = Begins (drop at block) item

-- the name of this item isn't longer than a row's can be
abbrev pub IsShortNamed : Item → Type 0
IsShortNamed item = length item.name ≤ 255

-- The attributes of an inode are held, and this is the longest in small data, whose name isn't too long for a row.
pub record IsNext (b : Bearer) (v : Room) (m : ℕ → Option (List ℕ)) (item : Item) : Type 0 where
  pub holds : Holds b v m
  pub first : longest_in (drop 232 (contents m b.id)) ≡ Some item
  pub short : IsShortNamed item

-- The attributes of an inode are held, an item that is named as the node's own name is it, and of the attributes that move out where
-- the node gets this name none has a name too long for a row.
pub record CanName (b : Bearer) (v : Room) (m : ℕ → Option (List ℕ)) (name : List ℕ) : Type 0 where
  pub holds : Holds b v m
  pub own : HasOwnName (volume_at b.geometry m) b.id
  pub short : AllByRecursion IsShortNamed (moves (volume_at b.geometry m) b.id name)

-- the items without the first of the name of each of these
abbrev pub without_each : List Item → List Item → List Item
without_each [] items = items
without_each (item ∷ more) items = without_each more (without item.name items)

-- These have moved out: the attributes are those before, and the small data has the items before without these.
pub record HaveMoved (b : Bearer) (v now : Room) (m : ℕ → Option (List ℕ)) (moved : List Item) (told : Option (ℕ → Option (List ℕ))) (old new : ℕ → Bool) : Type 0 where
  pub now_are : AttributesNow b v now m (attributes_at (volume_at b.geometry m) b.id) told old new
  pub items : items_of (drop 232 (contents now_are.map b.id)) ≡ option_map (without_each moved) (items_of (drop 232 (contents m b.id)))

-- Renamed: the attributes are those before, and the small data has the items before without those that move out for this name, with
-- the node's own name in the place of the old one.
pub record HasNewName (b : Bearer) (v now : Room) (m : ℕ → Option (List ℕ)) (name : List ℕ) (told : Option (ℕ → Option (List ℕ))) (old new : ℕ → Bool) : Type 0 where
  pub now_are : AttributesNow b v now m (attributes_at (volume_at b.geometry m) b.id) told old new
  pub items : items_of (drop 232 (contents now_are.map b.id)) ≡ option_map (λ items. with_item (name_item name) (without_each (moves (volume_at b.geometry m) b.id name) items)) (items_of (drop 232 (contents m b.id)))

-- Some of those that move out had moved, and the next of them didn't arrive, for a reason.
pub record HasStopped (b : Bearer) (v : Room) (m : ℕ → Option (List ℕ)) (name : List ℕ) (fault : GrowFault) : Type 0 where
  pub moved : List Item
  pub item : Item
  pub more : List Item
  pub order : moves (volume_at b.geometry m) b.id name ≡ moved ++ (item ∷ more)
  pub now : Room
  pub told : Option (ℕ → Option (List ℕ))
  pub old : ℕ → Bool
  pub new : ℕ → Bool
  pub so_far : HaveMoved b v now m moved told old new
  pub failed : HasNotArrived b now so_far.now_are.map item.name (attribute_in item) (ceil (length item.bytes) b.geometry.block_size) fault

-- Why the name was not set: a block could not be had, and none is damaged; or one of those that move out didn't arrive; or there is no
-- memory.
abbrev pub IsNotNamed : Bearer → Room → (ℕ → Option (List ℕ)) → List ℕ → TreeFault GrowFault → Type 0
IsNotNamed b v m name Exists = ⊥
IsNotNamed b v m name Absent = ⊥
IsNotNamed b v m name (Damaged page sort) = ⊥
IsNotNamed b v m name (Pages fault) = IsUndamaged fault ⊎ HasStopped b v m name fault
IsNotNamed b v m name NoMemory = Unit {0}

-- The first of those that move out has moved, and the others move out since.
pub record HasGone (b : Bearer) (v now : Room) (m : ℕ → Option (List ℕ)) (name : List ℕ) (told : Option (ℕ → Option (List ℕ))) (old new : ℕ → Bool) : Type 0 where
  pub item : Item
  pub more : List Item
  pub order : moves (volume_at b.geometry m) b.id name ≡ item ∷ more
  pub moved : HasMovedOut b v now m item.name told old new
  pub others : moves (volume_at b.geometry moved.now_are.map) b.id name ≡ more
  pub can : CanName b now moved.now_are.map name

-- In one step the name was set, where none moves out for it; or the first of those that do has moved.
abbrev pub IsStepped : Bearer → Room → Room → (ℕ → Option (List ℕ)) → List ℕ → Option (ℕ → Option (List ℕ)) → (ℕ → Bool) → (ℕ → Bool) → Bool → Type 0
IsStepped b v now m name told old new true = (moves (volume_at b.geometry m) b.id name ≡ []) × HasNameSet b v now m name told old new
IsStepped b v now m name told old new false = HasGone b v now m name told old new

-- The first of those that move out didn't arrive, for a reason.
pub record HasNotGone (b : Bearer) (v : Room) (m : ℕ → Option (List ℕ)) (name : List ℕ) (fault : GrowFault) : Type 0 where
  pub item : Item
  pub more : List Item
  pub order : moves (volume_at b.geometry m) b.id name ≡ item ∷ more
  pub failed : HasNotArrived b v m item.name (attribute_in item) (ceil (length item.bytes) b.geometry.block_size) fault

-- Why a step was not made: a block could not be had, and none is damaged; or the first didn't arrive; or there is no memory.
abbrev pub IsNotStepped : Bearer → Room → (ℕ → Option (List ℕ)) → List ℕ → TreeFault GrowFault → Type 0
IsNotStepped b v m name Exists = ⊥
IsNotStepped b v m name Absent = ⊥
IsNotStepped b v m name (Damaged page sort) = ⊥
IsNotStepped b v m name (Pages fault) = IsUndamaged fault ⊎ HasNotGone b v m name fault
IsNotStepped b v m name NoMemory = Unit {0}
