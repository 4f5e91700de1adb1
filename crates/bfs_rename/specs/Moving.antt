-- Attributes that move out of small data.
use Rattle.std.specs.Prelude.{◌≡◌, ℕ, List, [], ◌∷◌, length, sum_by, not, false, Option, Some, None}
use Rattle.std.specs.List.{filter}
use Rattle.std.specs.Option.{option_map_or}
use Rattle.bfs_super.specs.Conditions.{ceil}
use Rattle.bfs_smalldata.specs.Items.{Item, items_of}
use Rattle.bfs_smalldata.specs.Edits.{without}
use Rattle.bfs_sound.specs.Need.{longest}
use Rattle.bfs_sound.specs.Attributes.{is_name_item}
use Rattle.bfs_rename.specs.declared.moves.Moving.{Moving}

-- of some items, all but the ones with the node's own name
abbrev pub attributes : List Item → List Item
attributes items = filter (λ item. not (is_name_item item)) items

-- none of these items is the one with the node's own name
abbrev pub ArePlain : List Item → Type 0
ArePlain [] = Unit {0}
ArePlain (x ∷ xs) = (is_name_item x ≡ false) × ArePlain xs

-- how many items an area has, or 0 where one runs past it
abbrev pub count_in : List ℕ → ℕ
count_in area = option_map_or (λ (items : List Item). length items) (items_of area) 0

-- The longest attribute of these items was taken, and it has so many bytes; or there is none.
abbrev pub IsTakenFrom : List Item → Option (List Item) → Option ℕ → Type 0
IsTakenFrom items now None = (longest (attributes items) ≡ None) × (now ≡ Some items)
IsTakenFrom items now (Some n) = (item : Item) × (longest (attributes items) ≡ Some item) × (now ≡ Some (without item.name items)) × (n ≡ length item.bytes)

-- so many attributes are these, and their bytes fill so many blocks
pub record AreMoving (block_size : ℕ) (items : List Item) (m : Moving) : Type 0 where
  pub count : m.count ≡ length items
  pub blocks : m.blocks ≡ sum_by (λ (item : Item). ceil (length item.bytes) block_size) items
