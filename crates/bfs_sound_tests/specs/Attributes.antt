-- A volume with an empty file `f` and a short link `l`. Each has an attribute directory, with rows `.` and `..`, which are passed
-- over, and one attribute without bytes.
use Rattle.std.specs.Prelude.{ℕ, pos, List, [], ◌∷◌, ◌++◌, codes}
use Rattle.std.specs.FinMap.{from_entries}
use Rattle.bfs_base.specs.declared.kind.KeyKind.TheVariants.{Text, I64}
use Rattle.bfs_bytes.specs.Fields.{unsigned_bytes}
use Rattle.bfs_node.specs.Page.{Row}
use Rattle.bfs_tree.specs.declared.call.Kind.TheVariants.{File, Link}
use Rattle.bfs_tree.specs.Trees.{Node, Attribute, new_node}
use Rattle.bfs_sound_tests.specs.Bytes.{padded, no_run, address, stream_bytes, inode_block, leaf_block, bitmap_block}
use Rattle.bfs_sound_tests.specs.Worked.{blocks_in, with_block, name_item, tree_blocks, long_mode, first_blocks, root_node, tree_of, IsWorked, IsBroken}
use Rattle.bfs_sound_tests.specs.Links.{link_mode, file_mode, attributes_mode, attribute_mode}

abbrev pub root_rows : List Row
root_rows = (codes ".", pos 4) ∷ (codes "..", pos 4) ∷ (codes "f", pos 19) ∷ (codes "l", pos 20) ∷ []

abbrev pub name_rows : List Row
name_rows = (codes "f", pos 19) ∷ (codes "l", pos 20) ∷ []

abbrev pub size_rows : List Row
size_rows = (unsigned_bytes 8 0, pos 19) ∷ []

abbrev pub time_rows : List Row
time_rows = (unsigned_bytes 8 1000, pos 19) ∷ []

-- the stream without blocks
abbrev pub no_stream : List ℕ
no_stream = stream_bytes [] 0 no_run 0 0

-- the file, with its attribute directory in block 21, and the short link, with its one in block 25
abbrev pub file : List ℕ
file = inode_block 19 (record { mode = file_mode; flags = 1; modified = 1000; parent = 4; attributes = address 21; code = 0; stream = no_stream; items = name_item (codes "f") })

abbrev pub link : List ℕ
link = inode_block 20 (record { mode = link_mode; flags = 1; modified = 1000; parent = 4; attributes = address 25; code = 0; stream = padded 144 (codes "f"); items = name_item (codes "l") })

-- the rows of an attribute directory of a node: itself, the node, and one attribute
abbrev pub attribute_rows : ℕ → ℕ → List ℕ → ℕ → List Row
attribute_rows self node name id = (codes ".", pos self) ∷ (codes "..", pos node) ∷ (name, pos id) ∷ []

-- the inode of an attribute
abbrev pub attribute_inode : ℕ → ℕ → List ℕ
attribute_inode id parent = inode_block id (record { mode = attribute_mode; flags = 5; modified = 1000; parent = parent; attributes = no_run; code = 0x4c4f4e47; stream = no_stream; items = [] })

-- blocks 19 to 28: the file and the link, the file's attribute directory with its attribute `b`, and the link's with `c`
abbrev pub block_list : List (List ℕ)
block_list =
    first_blocks 29 root_rows name_rows size_rows ++ tree_blocks 16 long_mode I64 7 [] time_rows ++ file ∷ link ∷ []
    ++ tree_blocks 21 attributes_mode Text 19 [] (attribute_rows 21 19 (codes "b") 24) ++ attribute_inode 24 21 ∷ []
    ++ tree_blocks 25 attributes_mode Text 20 [] (attribute_rows 25 20 (codes "c") 28) ++ attribute_inode 28 25 ∷ []

unfoldable pub blocks : ℕ → List ℕ
blocks = blocks_in block_list

-- an attribute of this name, without bytes
abbrev pub one_attribute : List ℕ → List (List ℕ × Attribute)
one_attribute name = (name, record { code = 0x4c4f4e47; bytes = [] }) ∷ []

abbrev pub file_node : Node
file_node = record (new_node File (codes "f") 4 420 0 [] (pos 1000)) { attributes = from_entries (one_attribute (codes "b")) }

abbrev pub link_node : Node
link_node = record (new_node Link (codes "l") 4 511 1 (codes "f") (pos 1000)) { attributes = from_entries (one_attribute (codes "c")) }

abbrev pub nodes : List (ℕ × Node)
nodes = (4, root_node) ∷ (19, file_node) ∷ (20, link_node) ∷ []

abbrev pub AttributesAreWhole : Type 0
AttributesAreWhole = IsWorked 29 blocks (tree_of nodes)

-- The link's attribute directory names the attribute that the file's names too. Its own one, in block 28, isn't marked any more, so
-- that the bitmap has exactly the blocks that are reached, and the count is right where that one counts twice.
abbrev pub claimed : ℕ → List ℕ
claimed = with_block 1 (bitmap_block 28) (with_block 27 (leaf_block (attribute_rows 25 20 (codes "c") 24)) blocks)

abbrev pub ClaimedIsBroken : Type 0
ClaimedIsBroken = IsBroken 29 claimed
