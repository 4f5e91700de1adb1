-- A volume whose root directory has one directory, `d`, which is empty.
use Rattle.std.specs.Prelude.{ℕ, pos, List, [], ◌∷◌, ◌++◌, codes, take}
use Rattle.bfs_base.specs.declared.kind.KeyKind.TheVariants.{Text, I64}
use Rattle.bfs_node.specs.Page.{Row}
use Rattle.bfs_tree.specs.declared.call.Kind.TheVariants.{Dir}
use Rattle.bfs_tree.specs.Trees.{Node, Tree, new_node}
use Rattle.bfs_sound.specs.Whole.{IsWhole}
use Rattle.bfs_super.specs.declared.sup.Super.{Super}
use Rattle.bfs_sound_tests.specs.Bytes.{padded, no_run, stream_bytes, run, inode_block, leaf_block, bitmap_block}
use Rattle.bfs_sound_tests.specs.Worked.{super_of_used, image_of, blocks_in, with_block, name_item, tree_inode, tree_blocks, directory_mode, long_mode, first_blocks, root_node, tree_of, IsWorked, IsBroken}

abbrev pub root_rows : List Row
root_rows = (codes ".", pos 4) ∷ (codes "..", pos 4) ∷ (codes "d", pos 19) ∷ []

-- the directory's inode is block 19, and its tree stands in blocks 20 and 21
abbrev pub block_list : List (List ℕ)
block_list =
    first_blocks 22 root_rows ((codes "d", pos 19) ∷ []) [] ++ tree_blocks 16 long_mode I64 7 [] []
    ++ tree_blocks 19 directory_mode Text 4 (name_item (codes "d")) ((codes ".", pos 19) ∷ (codes "..", pos 4) ∷ [])

unfoldable pub blocks : ℕ → List ℕ
blocks = blocks_in block_list

abbrev pub nodes : List (ℕ × Node)
nodes = (4, root_node) ∷ (19, new_node Dir (codes "d") 4 493 0 [] (pos 1000)) ∷ []

abbrev pub DirectoryIsWhole : Type 0
DirectoryIsWhole = IsWorked 22 blocks (tree_of nodes)

-- the bit of block 19 is clear
abbrev pub unmarked : ℕ → List ℕ
unmarked = with_block 1 (padded 1024 (255 ∷ 255 ∷ 55 ∷ [])) blocks

abbrev pub UnmarkedIsBroken : Type 0
UnmarkedIsBroken = IsBroken 22 unmarked

-- the root directory's leaf has no row `d`
abbrev pub unlisted : ℕ → List ℕ
unlisted = with_block 6 (leaf_block ((codes ".", pos 4) ∷ (codes "..", pos 4) ∷ [])) blocks

abbrev pub UnlistedIsBroken : Type 0
UnlistedIsBroken = IsBroken 22 unlisted

-- the directory's row `.` names the root directory
abbrev pub astray_rows : List Row
astray_rows = (codes ".", pos 4) ∷ (codes "..", pos 4) ∷ []

abbrev pub astray : ℕ → List ℕ
astray = with_block 21 (leaf_block astray_rows) blocks

abbrev pub AstrayIsBroken : Type 0
AstrayIsBroken = IsBroken 22 astray

-- the directory's inode, with these items in its small data
abbrev pub directory_with : List ℕ → List ℕ
directory_with items = tree_inode 19 directory_mode 4 items

-- it has no item with its own name
abbrev pub nameless : ℕ → List ℕ
nameless = with_block 19 (directory_with []) blocks

abbrev pub NamelessIsBroken : Type 0
NamelessIsBroken = IsBroken 22 nameless

-- it has that item twice
abbrev pub renamed : ℕ → List ℕ
renamed = with_block 19 (directory_with (name_item (codes "d") ++ name_item (codes "d"))) blocks

abbrev pub RenamedIsBroken : Type 0
RenamedIsBroken = IsBroken 22 renamed

-- the index `last_modified` has its stream in the blocks of that of `size`
abbrev pub shared : ℕ → List ℕ
shared = with_block 16 (inode_block 16 (record { mode = long_mode; flags = 1; modified = 1000; parent = 7; attributes = no_run; code = 0; stream = stream_bytes (run 14 2 ∷ []) 2048 no_run 0 2048; items = [] })) blocks

abbrev pub SharedIsBroken : Type 0
SharedIsBroken = IsBroken 22 shared

-- the index `name` has no row
abbrev pub unindexed : ℕ → List ℕ
unindexed = with_block 12 (leaf_block []) blocks

abbrev pub UnindexedIsBroken : Type 0
UnindexedIsBroken = IsBroken 22 unindexed

-- the superblock counts one used block more
abbrev pub MiscountedIsBroken : Type 0
MiscountedIsBroken = IsBroken 23 blocks

-- the bit of block 22 is set, which nothing reaches
abbrev pub overmarked : ℕ → List ℕ
overmarked = with_block 1 (bitmap_block 23) blocks

abbrev pub OvermarkedIsBroken : Type 0
OvermarkedIsBroken = IsBroken 22 overmarked

-- the log isn't empty
abbrev pub logged_super : Super
logged_super = record (super_of_used 22) { log_end = pos 1 }

abbrev pub LoggedIsBroken : Type 0
LoggedIsBroken = (tree : Tree) → ¬ IsWhole (image_of logged_super blocks) tree

-- the image lacks its last byte
abbrev pub TruncatedIsBroken : Type 0
TruncatedIsBroken = (tree : Tree) → ¬ IsWhole (take 65535 (image_of (super_of_used 22) blocks)) tree
