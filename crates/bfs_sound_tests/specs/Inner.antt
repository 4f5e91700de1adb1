-- The volume with one directory, where that directory's tree has an interior page: one without keys, one over a leaf without rows,
-- and one whose two keys are the same.
use Rattle.std.specs.Prelude.{ℕ, ◌+◌, ◌*◌, pos, List, [], ◌∷◌, ◌++◌, codes, length}
use Rattle.bfs_base.specs.declared.kind.KeyKind.TheVariants.{Text, I64}
use Rattle.bfs_node.specs.Header.{header_bytes}
use Rattle.bfs_node.specs.Page.{Row}
use Rattle.bfs_sound_tests.specs.Bytes.{padded, tree_header, page_bytes, leaf_block, linked, none}
use Rattle.bfs_sound_tests.specs.Worked.{blocks_in, name_item, paged_inode, tree_blocks, directory_mode, long_mode, first_blocks, tree_of, IsWorked}
use Rattle.bfs_sound_tests.specs.Directory.{root_rows, nodes}

abbrev pub name_rows : List Row
name_rows = (codes "d", pos 19) ∷ []

-- the directory's inode is block 19, and the pages of its tree stand behind it
abbrev pub block_list : List (List ℕ) → List (List ℕ)
block_list pages =
    first_blocks (20 + length pages) root_rows name_rows [] ++ tree_blocks 16 long_mode I64 7 [] []
    ++ paged_inode (length pages) 19 directory_mode 4 (name_item (codes "d")) ∷ pages

unfoldable pub blocks : List (List ℕ) → ℕ → List ℕ
blocks pages = blocks_in (block_list pages)

-- the directory's two rows
abbrev pub self_row : Row
self_row = (codes ".", pos 19)

abbrev pub parent_row : Row
parent_row = (codes "..", pos 4)

-- the header of a tree of two levels with so many pages
abbrev pub two_levels : ℕ → List ℕ
two_levels pages = padded 1024 (header_bytes (tree_header 2 Text (1024 * pages)))

-- the interior page has no keys, and one child at byte 2,048
unfoldable pub keyless_pages : List (List ℕ)
keyless_pages = two_levels 3 ∷ page_bytes (linked none none (pos 2048)) [] ∷ leaf_block (self_row ∷ parent_row ∷ []) ∷ []

abbrev pub KeylessIsWhole : Type 0
KeylessIsWhole = IsWorked 23 (blocks keyless_pages) (tree_of nodes)

-- of the two leaves, the last one has no rows
unfoldable pub vacant_pages : List (List ℕ)
vacant_pages =
    two_levels 4 ∷ page_bytes (linked none none (pos 3072)) ((codes "..", pos 2048) ∷ [])
    ∷ page_bytes (linked none (pos 3072) none) (self_row ∷ parent_row ∷ []) ∷ page_bytes (linked (pos 2048) none none) [] ∷ []

abbrev pub VacantIsWhole : Type 0
VacantIsWhole = IsWorked 24 (blocks vacant_pages) (tree_of nodes)

-- the interior page has the key `.` twice, so that the leaf between the two has no rows
unfoldable pub twin_pages : List (List ℕ)
twin_pages =
    two_levels 5 ∷ page_bytes (linked none none (pos 4096)) ((codes ".", pos 2048) ∷ (codes ".", pos 3072) ∷ [])
    ∷ page_bytes (linked none (pos 3072) none) (self_row ∷ []) ∷ page_bytes (linked (pos 2048) (pos 4096) none) []
    ∷ page_bytes (linked (pos 3072) none none) (parent_row ∷ []) ∷ []

abbrev pub TwinIsWhole : Type 0
TwinIsWhole = IsWorked 25 (blocks twin_pages) (tree_of nodes)
