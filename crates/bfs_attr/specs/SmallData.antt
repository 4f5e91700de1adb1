-- What the small data of an inode says of a name.
use Rattle.std.specs.Prelude.{◌≡◌, ℕ, List, [], ◌∷◌, true, false, Some, None, IfSome, if◌then◌else◌}
use Rattle.bfs_smalldata.specs.Items.{Item, items_of}
use Rattle.bfs_smalldata.specs.Edits.{named}
use Rattle.bfs_tree.specs.Trees.{Attribute}
use Rattle.bfs_tree.specs.declared.rows.AttributeRow.{AttributeRow}
use Rattle.bfs_sound.specs.Attributes.{is_name_item}
use Rattle.bfs_attr.specs.declared.small.Small.{Small}
use Rattle.bfs_attr.specs.declared.small.Small.TheVariants.{Found, Missing, Broken, NoMemory}

-- the attribute that an item is
abbrev pub attribute_in : Item → Attribute
attribute_in item = record { code = item.kind; bytes = item.bytes }

-- the row of an item, which is none for the node's own name
abbrev pub item_rows : Item → List AttributeRow
item_rows item = if is_name_item item then [] else record { kind = item.kind; name = item.name } ∷ []

-- among these items the first of a name is an attribute
abbrev pub HasAttribute : List ℕ → List Item → Type 0
HasAttribute name items = (item : Item) × (named name items ≡ Some item) × (is_name_item item ≡ false)

-- so it is among those of an area of small data
abbrev pub HasSmall : List ℕ → List ℕ → Type 0
HasSmall area name = IfSome (items_of area) (HasAttribute name)

-- The first item of this name is an attribute, with this type and these bytes; or there is none, or it is the node's own name;
-- or an item runs past the area.
abbrev pub IsSmall : List ℕ → List ℕ → Small → Type 0
IsSmall area name (Found found) = (items : List Item) × (item : Item) × (items_of area ≡ Some items) × (named name items ≡ Some item) × (is_name_item item ≡ false) × (found.kind ≡ item.kind) × (found.bytes ≡ item.bytes)
IsSmall area name Missing = (items : List Item) × (items_of area ≡ Some items) × IfSome (named name items) (λ item. is_name_item item ≡ true)
IsSmall area name Broken = items_of area ≡ None
IsSmall area name NoMemory = Unit {0}
