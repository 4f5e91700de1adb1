-- The attributes of a node: items of its small data, and rows of its attribute directory.
use Rattle.std.specs.Prelude.{◌≡◌, ℕ, ℤ, pos, negsuc, false, List, [], ◌∷◌, Option, Some, None, Bool, not, ◌&&◌, ◌==◌, if◌then◌else◌, map}
use Rattle.std.specs.List.{filter, AllByRecursion}
use Rattle.std.specs.Str.{bytes_eq}
use Rattle.bfs_base.specs.declared.kind.KeyKind.TheVariants.{Text}
use Rattle.bfs_bytes.specs.declared.Run.{Run}
use Rattle.bfs_bytes.specs.Fields.{unsigned_at, run_in}
use Rattle.bfs_inode.specs.Refusals.{Names}
use Rattle.bfs_node.specs.Page.{Row}
use Rattle.bfs_smalldata.specs.Items.{Item}
use Rattle.bfs_stream.specs.Sizes.{first_block}
use Rattle.bfs_tree.specs.Trees.{Attribute}
use Rattle.bfs_values.specs.Reached.{IsWholeTree}
use Rattle.bfs_sound.specs.Volumes.{Volume, sizes}
use Rattle.bfs_sound.specs.Inodes.{HasBit, mode_bits, content, IsOwner, proper_rows, id_of, rows_of, inodes_of}

-- the one byte that names the item with a node's own name
abbrev pub own_name : List ℕ
own_name = 19 ∷ []

-- the item with a node's own name has this name and the type CSTR
abbrev pub is_name_item : Item → Bool
is_name_item item = (item.kind == 0x43535452) && bytes_eq item.name own_name

abbrev pub Named : Type 0
Named = List ℕ × Attribute

-- the attributes among items: all but the node's own name
abbrev pub attributes_in : List Item → List Named
attributes_in items = map (λ item. (item.name, record { code = item.kind; bytes = item.bytes })) (filter (λ item. not (is_name_item item)) items)

-- the zero run, whose eight bytes are zero
abbrev pub is_nothing : ℤ → Bool
is_nothing (pos n) = n == 0
is_nothing (negsuc n) = false

abbrev pub is_zero : Run → Bool
is_zero run = is_nothing run.group && ((run.start == 0) && (run.len == 0))

-- the inode of the attribute directory, or none where its address is the zero run
abbrev pub attribute_directory : Volume → ℕ → Option ℕ
attribute_directory v id = if is_zero (run_in (v.blocks id) 52) then None else Some (first_block (sizes v.geometry) (run_in (v.blocks id) 52))

-- a row names the inode of an attribute
pub record IsAttributeRow (v : Volume) (row : Row) : Type 0 where
  pub number : row.1 ≡ pos (id_of row)
  pub owner : IsOwner v (id_of row)
  pub mode : HasBit (mode_bits v (id_of row)) 28

-- at this block stands the attribute directory that an inode names, and each of its rows names an attribute
pub record IsAttributeDirectory (v : Volume) (id d : ℕ) : Type 0 where
  pub address : Names (run_in (v.blocks id) 52) d v.geometry.shift
  pub owner : IsOwner v d
  pub mode : HasBit (mode_bits v d) 27
  pub tree : IsWholeTree Text (content v d)
  pub rows : AllByRecursion (IsAttributeRow v) (proper_rows v d)

-- where the inode names an attribute directory, it is one
abbrev pub HasDirectory : Volume → ℕ → Option ℕ → Type 0
HasDirectory v id None = Unit {0}
HasDirectory v id (Some d) = IsAttributeDirectory v id d

-- an attribute with an inode of its own: the inode's type is the attribute's, and its stream has the attribute's bytes
abbrev pub attribute_at : Volume → ℕ → Attribute
attribute_at v id = record { code = unsigned_at 4 (v.blocks id) 60; bytes = content v id }

abbrev pub attributes_of : Volume → Option ℕ → List Named
attributes_of v o = map (λ row. (row.0, attribute_at v (id_of row))) (rows_of v o)

-- the inodes of the attribute directory and of its attributes
abbrev pub attribute_inodes : Volume → Option ℕ → List ℕ
attribute_inodes v o = inodes_of v o
