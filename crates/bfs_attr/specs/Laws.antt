-- The attributes of a node are those of its inode.
use Rattle.std.specs.Prelude.{◌≡◌, ◌<◌, ℕ, List, ◌++◌, false, drop, Some}
use Rattle.std.specs.FinMap.{from_entries, insert, remove}
use Rattle.std.specs.List.{AllByRecursion, flat_map}
use Rattle.std.specs.Str.{bytes_eq}
use Rattle.bfs_base.specs.Keys.{text_cmp}
use Rattle.bfs_base.specs.Lists.{Agree}
use Rattle.bfs_bytes.specs.Fields.{run_in}
use Rattle.bfs_smalldata.specs.Items.{Item, items_of}
use Rattle.bfs_smalldata.specs.Edits.{AreDistinct, with_item, without}
use Rattle.bfs_tree.specs.Trees.{Node}
use Rattle.bfs_sound.specs.Volumes.{Volume}
use Rattle.bfs_sound.specs.Owners.{In}
use Rattle.bfs_sound.specs.Inodes.{inode_blocks}
use Rattle.bfs_sound.specs.Nodes.{HasNode, AreApart}
use Rattle.bfs_sound.specs.Attributes.{Named, own_name, attributes_in, attributes_of, attribute_directory, attribute_inodes}
use Rattle.bfs_attr.specs.SmallData.{HasAttribute}
use Rattle.bfs_attr.specs.Bearers.{HasAttributes, attributes_at, entries_at, entries_with}

-- Where a node stands, and the inodes of its attribute directory and of its attributes are blocks of the volume, its attributes
-- stand, and are those of its record.
abbrev pub NodesBearAttributes : Type 0
NodesBearAttributes = (v : Volume) (id : ℕ) (n : Node) → HasNode v id n → ((k : ℕ) → In k (attribute_inodes v (attribute_directory v id)) → k < v.geometry.blocks) → HasAttributes v id × (n.attributes ≡ attributes_at v id)

-- No attribute has this name.
abbrev pub HasNone : List Named → List ℕ → Type 0
HasNone entries name = AllByRecursion (λ e. bytes_eq e.0 name ≡ false) entries

-- the attribute directory has none of this name
abbrev pub HasNoRow : Volume → ℕ → List ℕ → Type 0
HasNoRow v id name = HasNone (attributes_of v (attribute_directory v id)) name

-- Where an item that isn't a node's own name is put among items, the map has it since, and at every other name what it had.
abbrev pub PutsAttribute : Type 0
PutsAttribute = (new : Item) (items : List Item) (more : List Named) → bytes_eq new.name own_name ≡ false
    → from_entries {R = text_cmp} (attributes_in (with_item new items) ++ more) ≡ insert (from_entries (attributes_in items ++ more)) new.name (record { code = new.kind; bytes = new.bytes })

-- Where an attribute is taken from items with distinct names, and none behind them has its name, the map has none of that name since.
abbrev pub TakesAttribute : Type 0
TakesAttribute = (name : List ℕ) (items : List Item) (more : List Named) → AreDistinct items → HasAttribute name items → HasNone more name
    → from_entries {R = text_cmp} (attributes_in (without name items) ++ more) ≡ remove (from_entries (attributes_in items ++ more)) name

-- Where an inode's small data changes, and neither the address of the attribute directory nor a block of that and of its attributes
-- does, the attributes stand with the new items, and are those among them and the old ones of the attribute directory.
abbrev pub SmallDataChanges : Type 0
SmallDataChanges = (v : Volume) (id : ℕ) (new : ℕ → List ℕ) (items : List Item) → HasAttributes v id → run_in (new id) 52 ≡ run_in (v.blocks id) 52
    → Agree v.blocks new (flat_map (inode_blocks v) (attribute_inodes v (attribute_directory v id)))
    → items_of (drop 232 (new id)) ≡ Some items → AreDistinct items → AreApart (entries_with v id items)
    → HasAttributes (record v { blocks = new }) id × (entries_at (record v { blocks = new }) id ≡ entries_with v id items)
