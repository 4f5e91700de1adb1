-- A volume with three files, `a` and `b` of one stamp and `c` of another. The index `last_modified` has two leaves below an interior
-- page, a page of duplicates for `a` and `b`, and a free page.
use Rattle.std.specs.Prelude.{ℕ, ◌+◌, ◌*◌, ◌^◌, ℤ, pos, negsuc, List, [], ◌∷◌, ◌++◌, codes}
use Rattle.std.specs.List.{flat_map}
use Rattle.std.specs.Int.{w64, cast_signed}
use Rattle.bfs_base.specs.declared.kind.KeyKind.TheVariants.{I64}
use Rattle.bfs_bytes.specs.Fields.{unsigned_bytes, signed64_bytes}
use Rattle.bfs_node.specs.Header.{header_bytes}
use Rattle.bfs_node.specs.declared.header.Header.{Header}
use Rattle.bfs_node.specs.Page.{Row}
use Rattle.bfs_tree.specs.declared.call.Kind.TheVariants.{File}
use Rattle.bfs_tree.specs.Trees.{Node, new_node}
use Rattle.bfs_sound_tests.specs.Bytes.{padded, zero_block, no_run, run, stream_bytes, inode_block, tree_header, page_bytes, linked, none}
use Rattle.bfs_sound_tests.specs.Worked.{blocks_in, with_block, name_item, paged_inode, long_mode, first_blocks, root_node, tree_of, IsWorked, IsBroken}

abbrev pub root_rows : List Row
root_rows = (codes ".", pos 4) ∷ (codes "..", pos 4) ∷ (codes "a", pos 23) ∷ (codes "b", pos 24) ∷ (codes "c", pos 26) ∷ []

abbrev pub name_rows : List Row
name_rows = (codes "a", pos 23) ∷ (codes "b", pos 24) ∷ (codes "c", pos 26) ∷ []

abbrev pub size_rows : List Row
size_rows = (unsigned_bytes 8 0, pos 23) ∷ (unsigned_bytes 8 5, pos 24) ∷ (unsigned_bytes 8 7, pos 26) ∷ []

-- a link of type 2: the page of duplicates at byte 4,096 of the index's stream
abbrev pub chain_link : ℤ
chain_link = cast_signed w64 (2 * 2 ^ 62 + 4096)

-- the rows of the two leaves, at bytes 2,048 and 3,072, and the row of the interior page before them, whose overflow link is its
-- last child
abbrev pub first_rows : List Row
first_rows = (unsigned_bytes 8 1000, chain_link) ∷ []

abbrev pub last_rows : List Row
last_rows = (unsigned_bytes 8 2000, pos 26) ∷ []

abbrev pub inner_rows : List Row
inner_rows = (unsigned_bytes 8 1000, pos 2048) ∷ []

-- the header of a tree of two levels, whose root is at byte 1,024 and whose first free page at byte 5,120
abbrev pub time_header : ℕ → Header
time_header size = record (tree_header 2 I64 size) { free_pointer = pos 5120 }

-- a page of duplicates with these two numbers, and this right link
abbrev pub duplicates : ℤ → ℕ → ℕ → List ℕ
duplicates right one two = padded 1024 (signed64_bytes none ++ (signed64_bytes right ++ flat_map (unsigned_bytes 8) (2 ∷ one ∷ two ∷ [])))

-- the index `last_modified`: inode, header, interior page, two leaves, the page of duplicates, and the free page
abbrev pub time_blocks : List (List ℕ)
time_blocks =
    paged_inode 6 16 long_mode 7 []
    ∷ padded 1024 (header_bytes (time_header 6144)) ∷ page_bytes (linked none none (pos 3072)) inner_rows
    ∷ page_bytes (linked none (pos 3072) none) first_rows ∷ page_bytes (linked (pos 2048) none none) last_rows
    ∷ duplicates none 23 24 ∷ page_bytes (linked none none (negsuc 1)) [] ∷ []

-- a file's inode, with the stamp of its last change and its stream
abbrev pub file : ℕ → List ℕ → ℕ → List ℕ → List ℕ
file id name stamp stream = inode_block id (record { mode = 0x81a4; flags = 1; modified = stamp; parent = 4; attributes = no_run; code = 0; stream = stream; items = name_item name })

-- blocks 23 to 27: `a`, which is empty, `b` and its bytes, `c` and its bytes
abbrev pub block_list : List (List ℕ)
block_list =
    first_blocks 28 root_rows name_rows size_rows ++ time_blocks
    ++ file 23 (codes "a") 1000 (stream_bytes [] 0 no_run 0 0) ∷ file 24 (codes "b") 1000 (stream_bytes (run 25 1 ∷ []) 1024 no_run 0 5) ∷ zero_block
    ∷ file 26 (codes "c") 2000 (stream_bytes (run 27 1 ∷ []) 1024 no_run 0 7) ∷ zero_block ∷ []

unfoldable pub blocks : ℕ → List ℕ
blocks = blocks_in block_list

abbrev pub a_node : Node
a_node = new_node File (codes "a") 4 420 0 [] (pos 1000)

abbrev pub b_node : Node
b_node = new_node File (codes "b") 4 420 5 [] (pos 1000)

abbrev pub c_node : Node
c_node = record (new_node File (codes "c") 4 420 7 [] (pos 1000)) { modified = pos 2000 }

abbrev pub nodes : List (ℕ × Node)
nodes = (4, root_node) ∷ (23, a_node) ∷ (24, b_node) ∷ (26, c_node) ∷ []

abbrev pub PagesAreWhole : Type 0
PagesAreWhole = IsWorked 28 blocks (tree_of nodes)

-- the header says another size than the stream's
abbrev pub mismeasured : ℕ → List ℕ
mismeasured = with_block 17 (padded 1024 (header_bytes (time_header 5120))) blocks

abbrev pub MismeasuredIsBroken : Type 0
MismeasuredIsBroken = IsBroken 28 mismeasured

-- the page of duplicates leads to itself
abbrev pub looped : ℕ → List ℕ
looped = with_block 21 (duplicates (pos 4096) 23 24) blocks

abbrev pub LoopedIsBroken : Type 0
LoopedIsBroken = IsBroken 28 looped

-- the header names no free page, so that nothing reaches the page at byte 5,120
abbrev pub unreached : ℕ → List ℕ
unreached = with_block 17 (padded 1024 (header_bytes (tree_header 2 I64 6144))) blocks

abbrev pub UnreachedIsBroken : Type 0
UnreachedIsBroken = IsBroken 28 unreached
