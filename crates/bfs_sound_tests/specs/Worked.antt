-- What the worked volumes share: their superblock, their first blocks, and how one block of a volume is broken.
use Rattle.std.specs.Prelude.{ℕ, ◌==◌, pos, List, [], ◌∷◌, ◌++◌, get_or, replicate, codes, if◌then◌else◌}
use Rattle.std.specs.List.{flat_map}
use Rattle.std.specs.Int.{w32, cast_signed}
use Rattle.std.specs.FinMap.{from_sorted}
use Rattle.bfs_base.specs.Lists.{counted_from}
use Rattle.bfs_base.specs.declared.kind.KeyKind.{KeyKind}
use Rattle.bfs_base.specs.declared.kind.KeyKind.TheVariants.{Text, I64}
use Rattle.bfs_bytes.specs.declared.Run.{Run}
use Rattle.bfs_node.specs.Page.{Row}
use Rattle.bfs_super.specs.Layout.{sector_of}
use Rattle.bfs_super.specs.declared.sup.Super.{Super}
use Rattle.bfs_tree.specs.declared.call.Kind.TheVariants.{Dir}
use Rattle.bfs_tree.specs.Trees.{Node, Tree, new_node}
use Rattle.bfs_smalldata.specs.Items.{bytes_of}
use Rattle.bfs_sound.specs.Whole.{IsWhole}
use Rattle.bfs_sound_tests.specs.Bytes.{padded, zero_block, run, address, no_run, tree_stream, inode_block, header_block, leaf_block, bitmap_block}

-- 64 blocks of 1,024 bytes in one allocation group: the index directory's run, the log's run, where its entries start and end, and
-- how many blocks are used. The root directory's inode is in block 4.
abbrev pub super_indexed : Run → Run → ℕ → ℕ → ℕ → Super
super_indexed indices log start end used = record {
  name = padded 32 (codes "worked");
  magic1 = cast_signed w32 0x42465331;
  fs_byte_order = cast_signed w32 0x42494745;
  block_size = 1024;
  block_shift = 10;
  num_blocks = pos 64;
  used_blocks = pos used;
  inode_size = pos 1024;
  magic2 = cast_signed w32 0xdd121031;
  blocks_per_ag = pos 1;
  ag_shift = pos 13;
  num_ags = pos 1;
  flags = cast_signed w32 0x434c454e;
  log_blocks = log;
  log_start = pos start;
  log_end = pos end;
  magic3 = cast_signed w32 0x15b6830e;
  root_dir = address 4;
  indices = indices;
  rest = replicate 380 0;
}

-- the same with the index directory's inode in block 7
abbrev pub super_with : Run → ℕ → ℕ → ℕ → Super
super_with log start end used = super_indexed (address 7) log start end used

-- the same with an empty log in blocks 2 and 3
abbrev pub super_of_used : ℕ → Super
super_of_used used = super_with (run 2 2) 0 0 used

-- the blocks of a list, from block 0 on, and zeros behind them
abbrev pub blocks_in : List (List ℕ) → ℕ → List ℕ
blocks_in blocks k = get_or blocks k zero_block

-- the same blocks but for one
abbrev pub with_block : ℕ → List ℕ → (ℕ → List ℕ) → ℕ → List ℕ
with_block at bytes blocks k = if k == at then bytes else blocks k

-- an inode with a tree of so many pages, without attributes
abbrev pub paged_inode : ℕ → ℕ → ℕ → ℕ → List ℕ → List ℕ
paged_inode pages id mode parent items =
    inode_block id (record { mode = mode; flags = 1; modified = 1000; parent = parent; attributes = no_run; code = 0; stream = tree_stream id pages; items = items })

-- the same with two pages
abbrev pub tree_inode : ℕ → ℕ → ℕ → List ℕ → List ℕ
tree_inode id mode parent items = paged_inode 2 id mode parent items

-- the item with a node's own name
abbrev pub name_item : List ℕ → List ℕ
name_item name = bytes_of (record { kind = 0x43535452; name = 19 ∷ []; bytes = name })

-- the inode, the header and the leaf of a tree, one after the other
abbrev pub tree_blocks : ℕ → ℕ → KeyKind → ℕ → List ℕ → List Row → List (List ℕ)
tree_blocks id mode kind parent items rows = tree_inode id mode parent items ∷ header_block kind 2048 ∷ leaf_block rows ∷ []

-- modes, in octal: a directory 040755; the index directory and an index of text 04100040700, of 64 bit numbers 04010040700
abbrev pub directory_mode : ℕ
directory_mode = 0x41ed

abbrev pub text_mode : ℕ
text_mode = 0x210041c0

abbrev pub long_mode : ℕ
long_mode = 0x202041c0

abbrev pub index_rows : List Row
index_rows = (codes "last_modified", pos 16) ∷ (codes "name", pos 10) ∷ (codes "size", pos 13) ∷ []

-- The first 16 blocks: block 0, the bitmap, two blocks of the log, and four trees: the root directory with its rows, the index
-- directory, and the indices `name`, in block 10, and `size`, in block 13. The index `last_modified` comes in block 16.
abbrev pub first_blocks_with : List ℕ → List Row → List Row → List Row → List (List ℕ)
first_blocks_with bitmap rows names sizes =
    zero_block ∷ bitmap ∷ zero_block ∷ zero_block ∷ []
    ++ tree_blocks 4 directory_mode Text 4 [] rows
    ++ tree_blocks 7 text_mode Text 4 [] index_rows
    ++ tree_blocks 10 text_mode Text 7 [] names
    ++ tree_blocks 13 long_mode I64 7 [] sizes

-- the same where so many blocks are marked, the first ones
abbrev pub first_blocks : ℕ → List Row → List Row → List Row → List (List ℕ)
first_blocks used rows names sizes = first_blocks_with (bitmap_block used) rows names sizes

-- the kinds of the indices, by name
abbrev pub index_kinds : List (List ℕ × KeyKind)
index_kinds = (codes "last_modified", I64) ∷ (codes "name", Text) ∷ (codes "size", I64) ∷ []

-- the root directory's record, a tree of these nodes with these indices, and one with the three indices
abbrev pub root_node : Node
root_node = new_node Dir [] 4 493 0 [] (pos 1000)

abbrev pub tree_with : List (List ℕ × KeyKind) → List (ℕ × Node) → Tree
tree_with indices nodes = record { root = 4; nodes = from_sorted nodes; indices = from_sorted indices }

abbrev pub tree_of : List (ℕ × Node) → Tree
tree_of nodes = tree_with index_kinds nodes

-- the image of 64 blocks: block 0 has the superblock behind 512 zeros, and the others stand behind it
unfoldable pub image_of : Super → (ℕ → List ℕ) → List ℕ
image_of s blocks = replicate 512 0 ++ (sector_of s ++ flat_map blocks (counted_from 1 63))

-- the image of these blocks, of which so many are used, is whole with the tree; or it is whole with no tree
abbrev pub IsWorked : ℕ → (ℕ → List ℕ) → Tree → Type 0
IsWorked used blocks tree = IsWhole (image_of (super_of_used used) blocks) tree

abbrev pub IsBroken : ℕ → (ℕ → List ℕ) → Type 0
IsBroken used blocks = (tree : Tree) → ¬ IsWorked used blocks tree
