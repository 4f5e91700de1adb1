-- A volume without an index directory: the run of the superblock's index directory is zero. Its root directory has one directory,
-- `d`, which is empty.
use Rattle.std.specs.Prelude.{ℕ, pos, List, [], ◌∷◌, ◌++◌, codes}
use Rattle.bfs_base.specs.declared.kind.KeyKind.TheVariants.{Text}
use Rattle.bfs_node.specs.Page.{Row}
use Rattle.bfs_super.specs.declared.sup.Super.{Super}
use Rattle.bfs_tree.specs.declared.call.Kind.TheVariants.{Dir}
use Rattle.bfs_tree.specs.Trees.{Node, new_node}
use Rattle.bfs_sound.specs.Whole.{IsWhole}
use Rattle.bfs_sound_tests.specs.Bytes.{zero_block, run, no_run, bitmap_block}
use Rattle.bfs_sound_tests.specs.Worked.{super_indexed, image_of, blocks_in, name_item, tree_blocks, directory_mode, root_node, tree_with}

abbrev pub bare_super : Super
bare_super = super_indexed no_run (run 2 2) 0 0 10

abbrev pub root_rows : List Row
root_rows = (codes ".", pos 4) ∷ (codes "..", pos 4) ∷ (codes "d", pos 7) ∷ []

abbrev pub child_rows : List Row
child_rows = (codes ".", pos 7) ∷ (codes "..", pos 4) ∷ []

-- block 0, the bitmap, two blocks of the log, the root directory's tree from block 4 on, and the directory's from block 7 on
abbrev pub block_list : List (List ℕ)
block_list =
    zero_block ∷ bitmap_block 10 ∷ zero_block ∷ zero_block ∷ []
    ++ tree_blocks 4 directory_mode Text 4 [] root_rows ++ tree_blocks 7 directory_mode Text 4 (name_item (codes "d")) child_rows

unfoldable pub blocks : ℕ → List ℕ
blocks = blocks_in block_list

abbrev pub nodes : List (ℕ × Node)
nodes = (4, root_node) ∷ (7, new_node Dir (codes "d") 4 493 0 [] (pos 1000)) ∷ []

-- with a tree that has no indices
abbrev pub BareIsWhole : Type 0
BareIsWhole = IsWhole (image_of bare_super blocks) (tree_with [] nodes)
