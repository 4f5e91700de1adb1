-- The attributes of an inode on a volume that is told.
use Rattle.std.specs.Prelude.{◌≡◌, ◌<◌, ℕ, List, [], ◌++◌, drop, Option, Some, IsSome, unwrap_or}
use Rattle.std.specs.FinMap.{from_entries, find}
use Rattle.bfs_base.specs.Keys.{text_cmp}
use Rattle.bfs_super.specs.Geometry.{geometry_of}
use Rattle.bfs_super.specs.declared.geometry.Geometry.{Geometry}
use Rattle.bfs_super.specs.declared.sup.Super.{Super}
use Rattle.bfs_smalldata.specs.Items.{Item, items_of}
use Rattle.bfs_smalldata.specs.Edits.{AreDistinct}
use Rattle.bfs_stream.specs.Sizes.{Origin}
use Rattle.bfs_stream.specs.Told.{contents}
use Rattle.bfs_tree.specs.Trees.{Attribute, Attributes}
use Rattle.bfs_maps.specs.Mapped.{HasReadable}
use Rattle.bfs_sound.specs.Volumes.{Volume, sizes}
use Rattle.bfs_sound.specs.Owners.{In}
use Rattle.bfs_sound.specs.Nodes.{AreApart}
use Rattle.bfs_sound.specs.Attributes.{Named, attributes_in, attributes_of, attribute_directory, attribute_inodes, HasDirectory}
use Rattle.bfs_attr.specs.declared.rows.AttrItem.{AttrItem}

-- an inode that bears attributes, and the layout of its volume
pub record Bearer : Type 0 where
  pub id : ℕ
  pub geometry : Geometry

abbrev pub bearer_of : ℕ → Super → Bearer
bearer_of id s = record { id = id; geometry = geometry_of s }

-- a volume of this layout, by what is told of its blocks
abbrev pub volume_at : Geometry → (ℕ → Option (List ℕ)) → Volume
volume_at g m = record { geometry = g; blocks = contents m }

-- the stream of an inode of such a volume
abbrev pub origin : Geometry → ℕ → Origin
origin g id = record { id = id; sizes = sizes g }

-- the items in the small data of an inode, or nothing where one runs past it
abbrev pub items_at : Volume → ℕ → Option (List Item)
items_at v id = items_of (drop 232 (v.blocks id))

-- the attributes of an inode whose small data has these items: those among the items, and then those of the attribute
-- directory
abbrev pub entries_with : Volume → ℕ → List Item → List Named
entries_with v id items = attributes_in items ++ attributes_of v (attribute_directory v id)

-- The attributes of an inode stand: its small data is a list of items, whose names are distinct; where it names an attribute
-- directory, it is one; no name is in both; and the inodes of the attribute directory and of its attributes are blocks of
-- the volume.
pub record HasAttributes (v : Volume) (id : ℕ) : Type 0 where
  pub items : List Item
  pub area : items_of (drop 232 (v.blocks id)) ≡ Some items
  pub distinct : AreDistinct items
  pub directory : HasDirectory v id (attribute_directory v id)
  pub apart : AreApart (attributes_in items ++ attributes_of v (attribute_directory v id))
  pub inside : (k : ℕ) → In k (attribute_inodes v (attribute_directory v id)) → k < v.geometry.blocks

-- the attributes of an inode, as a list and as a map
abbrev pub entries_at : Volume → ℕ → List Named
entries_at v id = entries_with v id (unwrap_or (items_of (drop 232 (v.blocks id))) [])

abbrev pub attributes_at : Volume → ℕ → Attributes
attributes_at v id = from_entries (entries_at v id)

-- What a call that only reads may ask for is told: the inode, and the streams of its attribute directory and of each
-- attribute there.
pub record CanRead (b : Bearer) (m : ℕ → Option (List ℕ)) : Type 0 where
  pub inode : IsSome (m b.id)
  pub streams : (k : ℕ) → In k (attribute_inodes (volume_at b.geometry m) (attribute_directory (volume_at b.geometry m) b.id)) → HasReadable (origin b.geometry k) m

-- an attribute that was read
abbrev pub shown : AttrItem → Attribute
shown item = record { code = item.kind; bytes = item.bytes }

-- the attribute of a name, the first of that name
abbrev pub value_at : List Named → List ℕ → Option Attribute
value_at entries name = find text_cmp name entries
