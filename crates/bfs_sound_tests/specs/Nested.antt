-- A volume with a directory `d` in the root directory, and an empty directory `e` in `d`.
use Rattle.std.specs.Prelude.{ℕ, pos, List, [], ◌∷◌, ◌++◌, codes}
use Rattle.bfs_base.specs.declared.kind.KeyKind.TheVariants.{Text, I64}
use Rattle.bfs_node.specs.Page.{Row}
use Rattle.bfs_tree.specs.declared.call.Kind.TheVariants.{Dir}
use Rattle.bfs_tree.specs.Trees.{Node, new_node}
use Rattle.bfs_sound_tests.specs.Bytes.{leaf_block}
use Rattle.bfs_sound_tests.specs.Worked.{blocks_in, with_block, name_item, tree_inode, tree_blocks, directory_mode, long_mode, first_blocks, root_node, tree_of, IsWorked, IsBroken}

abbrev pub root_rows : List Row
root_rows = (codes ".", pos 4) ∷ (codes "..", pos 4) ∷ (codes "d", pos 19) ∷ []

abbrev pub outer_rows : List Row
outer_rows = (codes ".", pos 19) ∷ (codes "..", pos 4) ∷ (codes "e", pos 22) ∷ []

abbrev pub inner_rows : List Row
inner_rows = (codes ".", pos 22) ∷ (codes "..", pos 19) ∷ []

abbrev pub name_rows : List Row
name_rows = (codes "d", pos 19) ∷ (codes "e", pos 22) ∷ []

-- the inodes are blocks 19 and 22, and each tree stands in the two blocks behind
abbrev pub block_list : List (List ℕ)
block_list =
    first_blocks 25 root_rows name_rows [] ++ tree_blocks 16 long_mode I64 7 [] []
    ++ tree_blocks 19 directory_mode Text 4 (name_item (codes "d")) outer_rows
    ++ tree_blocks 22 directory_mode Text 19 (name_item (codes "e")) inner_rows

unfoldable pub blocks : ℕ → List ℕ
blocks = blocks_in block_list

abbrev pub outer_node : Node
outer_node = new_node Dir (codes "d") 4 493 0 [] (pos 1000)

abbrev pub inner_node : Node
inner_node = new_node Dir (codes "e") 19 493 0 [] (pos 1000)

abbrev pub nodes : List (ℕ × Node)
nodes = (4, root_node) ∷ (19, outer_node) ∷ (22, inner_node) ∷ []

abbrev pub NestedIsWhole : Type 0
NestedIsWhole = IsWorked 25 blocks (tree_of nodes)

-- the inner directory's inode names the root directory as its parent
abbrev pub misplaced : ℕ → List ℕ
misplaced = with_block 22 (tree_inode 22 directory_mode 4 (name_item (codes "e"))) blocks

abbrev pub MisplacedIsBroken : Type 0
MisplacedIsBroken = IsBroken 25 misplaced

-- the root directory has a row for the inner directory too
abbrev pub doubled : ℕ → List ℕ
doubled = with_block 6 (leaf_block ((codes ".", pos 4) ∷ (codes "..", pos 4) ∷ (codes "d", pos 19) ∷ (codes "e", pos 22) ∷ [])) blocks

abbrev pub DoubledIsBroken : Type 0
DoubledIsBroken = IsBroken 25 doubled

-- the two directories are each other's parents, in their inodes, in their rows `..` and as each other's row, and the root directory
-- has a row for neither
abbrev pub no_child_rows : List Row
no_child_rows = (codes ".", pos 4) ∷ (codes "..", pos 4) ∷ []

abbrev pub outer_circled : List Row
outer_circled = (codes ".", pos 19) ∷ (codes "..", pos 22) ∷ (codes "e", pos 22) ∷ []

abbrev pub inner_circled : List Row
inner_circled = (codes ".", pos 22) ∷ (codes "..", pos 19) ∷ (codes "d", pos 19) ∷ []

abbrev pub circle : ℕ → List ℕ
circle =
    with_block 19 (tree_inode 19 directory_mode 22 (name_item (codes "d")))
    (with_block 21 (leaf_block outer_circled) (with_block 24 (leaf_block inner_circled) blocks))

abbrev pub circled : ℕ → List ℕ
circled = with_block 6 (leaf_block no_child_rows) circle

abbrev pub CircledIsBroken : Type 0
CircledIsBroken = IsBroken 25 circled

-- the same where the root directory has its row for one of them
abbrev pub EnteredIsBroken : Type 0
EnteredIsBroken = IsBroken 25 circle
