-- The volume with one directory `d`, with a log of 8 blocks in block 40 and behind it: the leaf of the directory's tree hasn't come
-- home yet, but an entry of the log has it.
use Rattle.std.specs.Prelude.{ℕ, pos, List, [], ◌∷◌, ◌++◌, codes, replicate}
use Rattle.bfs_base.specs.declared.kind.KeyKind.TheVariants.{Text, I64}
use Rattle.bfs_bytes.specs.Fields.{signed32_bytes, run_bytes}
use Rattle.bfs_node.specs.Page.{Row}
use Rattle.bfs_super.specs.declared.sup.Super.{Super}
use Rattle.bfs_tree.specs.Trees.{Tree}
use Rattle.bfs_sound.specs.Whole.{IsWhole, Recovers}
use Rattle.bfs_sound_tests.specs.Bytes.{padded, zero_block, run, leaf_block}
use Rattle.bfs_sound_tests.specs.Worked.{super_with, blocks_in, with_block, image_of, name_item, tree_blocks, directory_mode, long_mode, first_blocks_with, tree_of}
use Rattle.bfs_sound_tests.specs.Directory.{root_rows, nodes}

-- the entry is at the log's first two blocks; replay empties the log behind them
abbrev pub super_before : Super
super_before = super_with (run 40 8) 0 2 28

abbrev pub super_after : Super
super_after = super_with (run 40 8) 2 2 28

abbrev pub child_rows : List Row
child_rows = (codes ".", pos 19) ∷ (codes "..", pos 4) ∷ []

abbrev pub name_rows : List Row
name_rows = (codes "d", pos 19) ∷ []

-- marked are blocks 0, 1, 4 to 21, and 40 to 47
abbrev pub bitmap : List ℕ
bitmap = padded 1024 (243 ∷ 255 ∷ 63 ∷ 0 ∷ 0 ∷ 255 ∷ [])

-- an array block that lists one run, block 21
abbrev pub array_block : List ℕ
array_block = padded 1024 (signed32_bytes (pos 1) ++ (signed32_bytes (pos 127) ++ run_bytes (run 21 1)))

-- the blocks after replay
abbrev pub block_list : List (List ℕ)
block_list =
    first_blocks_with bitmap root_rows name_rows [] ++ tree_blocks 16 long_mode I64 7 [] []
    ++ tree_blocks 19 directory_mode Text 4 (name_item (codes "d")) child_rows
    ++ replicate 18 zero_block ++ array_block ∷ leaf_block child_rows ∷ []

unfoldable pub blocks : ℕ → List ℕ
blocks = blocks_in block_list

-- and before it
abbrev pub before : ℕ → List ℕ
before = with_block 21 zero_block blocks

abbrev pub LoggedRecovers : Type 0
LoggedRecovers = Recovers (image_of super_before before) (tree_of nodes)

abbrev pub UnreplayedIsBroken : Type 0
UnreplayedIsBroken = (tree : Tree) → ¬ IsWhole (image_of super_before before) tree
