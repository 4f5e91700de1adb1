-- A volume with a file `a`, whose last block is in an indirect table, and an empty file `b`. Both have the same stamp, so that the
-- index `last_modified` has one row for them, whose value names a fragment.
use Rattle.std.specs.Prelude.{ℕ, ◌+◌, ◌*◌, ◌^◌, ℤ, pos, List, [], ◌∷◌, ◌++◌, codes, replicate, map}
use Rattle.std.specs.List.{flat_map}
use Rattle.std.specs.Int.{w64, cast_signed}
use Rattle.bfs_base.specs.Lists.{counted_from}
use Rattle.bfs_base.specs.declared.kind.KeyKind.TheVariants.{I64}
use Rattle.bfs_bytes.specs.declared.Run.{Run}
use Rattle.bfs_bytes.specs.Fields.{unsigned_bytes, run_bytes}
use Rattle.bfs_node.specs.Page.{Row}
use Rattle.bfs_tree.specs.declared.call.Kind.TheVariants.{File}
use Rattle.bfs_tree.specs.Trees.{Node, new_node}
use Rattle.bfs_sound_tests.specs.Bytes.{padded, zero_block, no_run, run, stream_bytes, inode_block, header_block, leaf_block}
use Rattle.bfs_sound_tests.specs.Worked.{blocks_in, with_block, name_item, paged_inode, long_mode, first_blocks, root_node, tree_of, IsWorked, IsBroken}

abbrev pub root_rows : List Row
root_rows = (codes ".", pos 4) ∷ (codes "..", pos 4) ∷ (codes "a", pos 20) ∷ (codes "b", pos 35) ∷ []

abbrev pub name_rows : List Row
name_rows = (codes "a", pos 20) ∷ (codes "b", pos 35) ∷ []

-- `b` has no bytes, and `a` has 13,000
abbrev pub size_rows : List Row
size_rows = (unsigned_bytes 8 0, pos 35) ∷ (unsigned_bytes 8 13000, pos 20) ∷ []

-- a link of type 3: the first fragment of the page at byte 2,048 of the index's stream
abbrev pub fragment_link : ℤ
fragment_link = cast_signed w64 (3 * 2 ^ 62 + 2048)

abbrev pub time_rows : List Row
time_rows = (unsigned_bytes 8 1000, fragment_link) ∷ []

-- a fragment of two numbers
abbrev pub fragment : ℕ → ℕ → List ℕ
fragment one two = padded 64 (flat_map (unsigned_bytes 8) (2 ∷ one ∷ two ∷ []))

-- the index `last_modified`, with a page of fragments behind its leaf
abbrev pub time_blocks : List (List ℕ)
time_blocks =
    paged_inode 3 16 long_mode 7 []
    ∷ header_block I64 3072 ∷ leaf_block time_rows ∷ padded 1024 (fragment 20 35) ∷ []

-- a file's inode
abbrev pub file : ℕ → List ℕ → List ℕ → List ℕ
file id name stream = inode_block id (record { mode = 0x81a4; flags = 1; modified = 1000; parent = 4; attributes = no_run; code = 0; stream = stream; items = name_item name })

-- the stream of `a`: 12 blocks by these direct runs, and one by the table in block 33
abbrev pub table_stream : List Run → List ℕ
table_stream direct = stream_bytes direct 12288 (run 33 1) 13312 13000

-- so many runs of one block, from a block on
abbrev pub single_runs : ℕ → ℕ → List Run
single_runs first n = map (λ b. run b 1) (counted_from first n)

-- blocks 20 to 35: the file `a`, its 12 blocks, its table, its last block, and the file `b`
abbrev pub block_list : List (List ℕ)
block_list =
    first_blocks 36 root_rows name_rows size_rows ++ time_blocks
    ++ file 20 (codes "a") (table_stream (single_runs 21 12)) ∷ replicate 12 zero_block
    ++ padded 1024 (run_bytes (run 34 1)) ∷ zero_block ∷ file 35 (codes "b") (stream_bytes [] 0 no_run 0 0) ∷ []

unfoldable pub blocks : ℕ → List ℕ
blocks = blocks_in block_list

abbrev pub large_node : Node
large_node = new_node File (codes "a") 4 420 13000 [] (pos 1000)

abbrev pub empty_node : Node
empty_node = new_node File (codes "b") 4 420 0 [] (pos 1000)

abbrev pub nodes : List (ℕ × Node)
nodes = (4, root_node) ∷ (20, large_node) ∷ (35, empty_node) ∷ []

abbrev pub FilesAreWhole : Type 0
FilesAreWhole = IsWorked 36 blocks (tree_of nodes)

-- `a` has its table although its 12 blocks are in 11 direct runs, so that there is room for one more
abbrev pub unfilled : ℕ → List ℕ
unfilled = with_block 20 (file 20 (codes "a") (table_stream (run 21 2 ∷ single_runs 23 10))) blocks

abbrev pub UnfilledIsBroken : Type 0
UnfilledIsBroken = IsBroken 36 unfilled

-- the second fragment is in use, and no row names it
abbrev pub unnamed : ℕ → List ℕ
unnamed = with_block 19 (padded 1024 (fragment 20 35 ++ fragment 20 35)) blocks

abbrev pub UnnamedIsBroken : Type 0
UnnamedIsBroken = IsBroken 36 unnamed

-- the fragment's numbers don't ascend
abbrev pub descending : ℕ → List ℕ
descending = with_block 19 (padded 1024 (fragment 35 20)) blocks

abbrev pub DescendingIsBroken : Type 0
DescendingIsBroken = IsBroken 36 descending

-- the index `last_modified` and its header say a stream of 2,560 bytes, which is no number of whole pages
abbrev pub uneven_inode : List ℕ
uneven_inode = inode_block 16 (record { mode = long_mode; flags = 1; modified = 1000; parent = 7; attributes = no_run; code = 0; stream = stream_bytes (run 17 3 ∷ []) 3072 no_run 0 2560; items = [] })

abbrev pub uneven : ℕ → List ℕ
uneven = with_block 16 uneven_inode (with_block 17 (header_block I64 2560) blocks)

abbrev pub UnevenIsBroken : Type 0
UnevenIsBroken = IsBroken 36 uneven
