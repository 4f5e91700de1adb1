-- A volume with a short link `l`, a long link `m`, and a file `f` that has an attribute in its small data and one in an attribute
-- directory.
use Rattle.std.specs.Prelude.{ℕ, pos, List, [], ◌∷◌, ◌++◌, codes, replicate}
use Rattle.std.specs.FinMap.{from_entries}
use Rattle.bfs_base.specs.declared.kind.KeyKind.TheVariants.{Text, I64}
use Rattle.bfs_bytes.specs.Fields.{unsigned_bytes}
use Rattle.bfs_node.specs.Page.{Row}
use Rattle.bfs_smalldata.specs.Items.{Item, bytes_of}
use Rattle.bfs_tree.specs.declared.call.Kind.TheVariants.{File, Link}
use Rattle.bfs_tree.specs.Trees.{Node, Attribute, new_node}
use Rattle.bfs_sound_tests.specs.Bytes.{padded, no_run, address, run, stream_bytes, inode_block, leaf_block}
use Rattle.bfs_sound_tests.specs.Worked.{blocks_in, with_block, name_item, tree_blocks, long_mode, first_blocks, root_node, tree_of, IsWorked, IsBroken}

abbrev pub root_rows : List Row
root_rows = (codes ".", pos 4) ∷ (codes "..", pos 4) ∷ (codes "f", pos 22) ∷ (codes "l", pos 19) ∷ (codes "m", pos 20) ∷ []

abbrev pub name_rows : List Row
name_rows = (codes "f", pos 22) ∷ (codes "l", pos 19) ∷ (codes "m", pos 20) ∷ []

-- the file has 5 bytes, and the stamp of its last change is 1000
abbrev pub size_rows : List Row
size_rows = (unsigned_bytes 8 5, pos 22) ∷ []

abbrev pub time_rows : List Row
time_rows = (unsigned_bytes 8 1000, pos 22) ∷ []

-- modes, in octal: a link 0120777, a file 0100644, an attribute directory 01000040700, an attribute 02000100644
abbrev pub link_mode : ℕ
link_mode = 0xa1ff

abbrev pub file_mode : ℕ
file_mode = 0x81a4

abbrev pub attributes_mode : ℕ
attributes_mode = 0x80041c0

abbrev pub attribute_mode : ℕ
attribute_mode = 0x100081a4

-- the stream of so many bytes in one block
abbrev pub block_stream : ℕ → ℕ → List ℕ
block_stream block size = stream_bytes (run block 1 ∷ []) 1024 no_run 0 size

-- a short link, whose target stands in these 144 bytes
abbrev pub short_link : List ℕ → List ℕ
short_link bytes = inode_block 19 (record { mode = link_mode; flags = 1; modified = 1000; parent = 4; attributes = no_run; code = 0; stream = bytes; items = name_item (codes "l") })

-- a long link, with its target in a stream
abbrev pub long_link : List ℕ → List ℕ
long_link stream = inode_block 20 (record { mode = link_mode; flags = 0x41; modified = 1000; parent = 4; attributes = no_run; code = 0; stream = stream; items = name_item (codes "m") })

abbrev pub long_target : List ℕ
long_target = replicate 150 120

-- the attribute `a` in small data
abbrev pub small_attribute : Item
small_attribute = record { kind = 0x43535452; name = codes "a"; bytes = codes "red" }

-- the file, with these items behind its own name, and its attribute directory in block 24
abbrev pub file_with : List ℕ → List ℕ
file_with items = inode_block 22 (record { mode = file_mode; flags = 1; modified = 1000; parent = 4; attributes = address 24; code = 0; stream = block_stream 23 5; items = name_item (codes "f") ++ items })

-- the attribute directory's rows: `b` in block 27
abbrev pub attribute_rows : List Row
attribute_rows = (codes "b", pos 27) ∷ []

-- its inode, which is marked as one of an attribute, and whose stream has the attribute's 4 bytes
abbrev pub attribute_inode : ℕ → List ℕ
attribute_inode mode = inode_block 27 (record { mode = mode; flags = 5; modified = 1000; parent = 24; attributes = no_run; code = 0x4c4f4e47; stream = block_stream 28 4; items = [] })

-- blocks 19 to 28: the short link; the long link and its target; the file and its bytes; the attribute directory's tree; the
-- attribute and its bytes
abbrev pub block_list : List (List ℕ)
block_list =
    first_blocks 29 root_rows name_rows size_rows ++ tree_blocks 16 long_mode I64 7 [] time_rows
    ++ short_link (padded 144 (codes "f")) ∷ long_link (block_stream 21 150) ∷ padded 1024 long_target ∷ file_with (bytes_of small_attribute) ∷ padded 1024 (codes "hello") ∷ []
    ++ tree_blocks 24 attributes_mode Text 22 [] attribute_rows
    ++ attribute_inode attribute_mode ∷ padded 1024 (unsigned_bytes 4 7) ∷ []

unfoldable pub blocks : ℕ → List ℕ
blocks = blocks_in block_list

abbrev pub attributes : List (List ℕ × Attribute)
attributes = (codes "a", record { code = 0x43535452; bytes = codes "red" }) ∷ (codes "b", record { code = 0x4c4f4e47; bytes = unsigned_bytes 4 7 }) ∷ []

abbrev pub short_node : Node
short_node = new_node Link (codes "l") 4 511 1 (codes "f") (pos 1000)

abbrev pub long_node : Node
long_node = new_node Link (codes "m") 4 511 150 long_target (pos 1000)

abbrev pub file_node : Node
file_node = record (new_node File (codes "f") 4 420 5 [] (pos 1000)) { attributes = from_entries attributes }

abbrev pub nodes : List (ℕ × Node)
nodes = (4, root_node) ∷ (19, short_node) ∷ (20, long_node) ∷ (22, file_node) ∷ []

abbrev pub LinksAreWhole : Type 0
LinksAreWhole = IsWorked 29 blocks (tree_of nodes)

-- no zero ends the short link's target
abbrev pub unended : ℕ → List ℕ
unended = with_block 19 (short_link (replicate 144 120)) blocks

abbrev pub UnendedIsBroken : Type 0
UnendedIsBroken = IsBroken 29 unended

-- the long link's stream lies past the volume's end
abbrev pub outside : ℕ → List ℕ
outside = with_block 20 (long_link (block_stream 64 150)) blocks

abbrev pub OutsideIsBroken : Type 0
OutsideIsBroken = IsBroken 29 outside

-- the attribute `a` is there twice in small data
abbrev pub repeated : ℕ → List ℕ
repeated = with_block 22 (file_with (bytes_of small_attribute ++ bytes_of small_attribute)) blocks

abbrev pub RepeatedIsBroken : Type 0
RepeatedIsBroken = IsBroken 29 repeated

-- the attribute directory has a row of the name that small data has too
abbrev pub clashing : ℕ → List ℕ
clashing = with_block 26 (leaf_block ((codes "a", pos 27) ∷ [])) blocks

abbrev pub ClashingIsBroken : Type 0
ClashingIsBroken = IsBroken 29 clashing

-- the attribute's inode isn't marked as one of an attribute
abbrev pub untyped : ℕ → List ℕ
untyped = with_block 27 (attribute_inode file_mode) blocks

abbrev pub UntypedIsBroken : Type 0
UntypedIsBroken = IsBroken 29 untyped
