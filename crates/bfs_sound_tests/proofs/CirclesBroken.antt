-- The volume with a directory in a directory is whole with no tree where the two are each other's parents.
use Rattle.std.proofs.Common.{◌≡◌, ℕ, pos, [], ◌∷◌, ◌++◌, length, Bool, true, false, cond, refl, ap, arith}
use Rattle.std.specs.Prelude.{codes}
use Rattle.std.specs.List.{flat_map, AllByRecursion}
use Rattle.std.specs.Str.{is_utf8, chars}
use Rattle.std.specs.Char.{encode_utf8}
use Rattle.bfs_base.specs.Lists.{times}
use Rattle.bfs_base.specs.declared.kind.KeyKind.TheVariants.{Text}
use Rattle.bfs_bitmap.specs.Bits.{bit_of}
use Rattle.bfs_bytes.specs.Fields.{unsigned_at, signed32_at, signed64_at, run_in, unsigned_bytes, signed32_bytes, signed64_bytes, run_bytes}
use Rattle.bfs_inode.specs.Inode.{runs_in}
use Rattle.bfs_node.specs.Header.{header_bytes}
use Rattle.bfs_node.specs.Page.{Row, rows_of, head_bytes}
use Rattle.bfs_smalldata.specs.Items.{bytes_of}
use Rattle.bfs_stream.specs.Places.{array_runs, level_blocks, arrays_of, bytes_at}
use Rattle.bfs_tree.specs.Names.{is_bad_name}
use Rattle.bfs_super.specs.Conditions.{natural}
use Rattle.bfs_inode.specs.Refusals.{Names}
use Rattle.bfs_tree.specs.Trees.{Tree, Node}
use Rattle.bfs_values.specs.Rows.{rows_in}
use Rattle.bfs_sound.specs.Volumes.{Volume, IsMarked}
use Rattle.bfs_sound.specs.Inodes.{content, inode_blocks}
use Rattle.bfs_sound.specs.Attributes.{attribute_directory, attribute_inodes}
use Rattle.bfs_sound.specs.Nodes.{HasNode}
use Rattle.bfs_sound.specs.Listings.{IsChild}
use Rattle.bfs_sound.specs.Owners.{index_blocks}
use Rattle.bfs_sound.specs.Whole.{volume_of, Whole}
use Rattle.bfs_sound_tests.specs.Bytes.{address, level_bytes, inode_block, header_block, leaf_block, bitmap_block}
use Rattle.bfs_sound_tests.specs.Worked.{super_of_used, IsBroken}
use Rattle.bfs_sound_tests.specs.Nested.{blocks, root_rows, no_child_rows, circle, circled}
use Rattle.bfs_sound_tests.proofs.Finite.{low}
use Rattle.bfs_sound_tests.proofs.Standing.{apart_by}
use Rattle.bfs_sound_tests.proofs.NestedNodes.{blocks_long}
use Rattle.bfs_sound_tests.proofs.Supers.{reads_25, full_25}
use Rattle.bfs_sound_tests.proofs.Images.{broken, with_long}
use Rattle.bfs_sound_tests.proofs.Broken.{child_of, has_node, not_reached}

abbrev circled_volume : Volume
circled_volume = volume_of (super_of_used 25) circled

circled_rows : rows_in Text (content circled_volume 4) ≡ no_child_rows
unfolding unsigned_at signed32_at signed64_at run_in runs_in unsigned_bytes signed32_bytes signed64_bytes run_bytes array_runs level_blocks bytes_at rows_of header_bytes head_bytes bytes_of level_bytes inode_block header_block leaf_block blocks rows_in
circled_rows = refl

circled_index : times 19 (index_blocks circled_volume) ≡ 0
unfolding unsigned_at signed32_at signed64_at run_in runs_in unsigned_bytes signed32_bytes signed64_bytes run_bytes array_runs level_blocks bytes_at rows_of header_bytes head_bytes bytes_of level_bytes inode_block header_block leaf_block blocks arrays_of rows_in index_blocks
circled_index = refl

circled_root : (b : Bool) → times 19 (cond b (4 ∷ []) (inode_blocks circled_volume 4) ++ flat_map (inode_blocks circled_volume) (attribute_inodes circled_volume (attribute_directory circled_volume 4))) ≡ 0
unfolding unsigned_at signed32_at signed64_at run_in runs_in unsigned_bytes signed32_bytes signed64_bytes run_bytes array_runs level_blocks bytes_at rows_of header_bytes head_bytes bytes_of level_bytes inode_block header_block leaf_block blocks arrays_of
circled_root true = refl
circled_root false = refl

circled_marked : IsMarked circled_volume 19
unfolding unsigned_at bit_of bitmap_block blocks
circled_marked = (low 19 64 refl, refl)

no_names : AllByRecursion (λ (r : Row). is_bad_name r.0 ≡ true) no_child_rows
unfolding is_utf8 chars encode_utf8
no_names = (refl, (refl, tt))

-- the root directory is the only node, so that nothing reaches block 19, which is marked
circled_not_whole : (tree : Tree) → Whole (super_of_used 25) circled tree → ⊥
circled_not_whole tree w = not_reached (super_of_used 25) circled tree w no_child_rows circled_rows no_names 19 refl refl circled_index circled_root circled_marked

circle_long : (k : ℕ) → length (circle k) ≡ 1024
unfolding unsigned_bytes signed32_bytes signed64_bytes run_bytes header_bytes head_bytes bytes_of level_bytes inode_block header_block leaf_block bitmap_block
circle_long = with_long _ _ _ refl (with_long _ _ _ refl (with_long _ _ blocks refl blocks_long))

pub circled_broken : IsBroken 25 circled
unfolding unsigned_bytes signed32_bytes signed64_bytes run_bytes header_bytes head_bytes bytes_of level_bytes inode_block header_block leaf_block bitmap_block
circled_broken = broken 25 circled (with_long _ _ circle refl circle_long) reads_25 full_25 circled_not_whole

abbrev entered_volume : Volume
entered_volume = volume_of (super_of_used 25) circle

entered_rows : rows_in Text (content entered_volume 4) ≡ root_rows
unfolding unsigned_at signed32_at signed64_at run_in runs_in unsigned_bytes signed32_bytes signed64_bytes run_bytes array_runs level_blocks bytes_at rows_of header_bytes head_bytes bytes_of level_bytes inode_block header_block leaf_block blocks rows_in
entered_rows = refl

-- the root directory is its parent by the row, and the other directory by the inode
entered_no_node : (n : Node) → HasNode entered_volume 19 n → n.parent ≡ 4 → ⊥
unfolding unsigned_at signed32_at signed64_at run_in runs_in unsigned_bytes signed32_bytes signed64_bytes run_bytes array_runs level_blocks bytes_at rows_of header_bytes head_bytes bytes_of level_bytes inode_block header_block leaf_block blocks
entered_no_node n h parent =
    let names : Names (address 22) n.parent 13 = h.called.parent (apart_by 19 4 refl) in
    let number : pos 22 ≡ pos n.parent = names.block in
    let bad : 22 ≡ n.parent = ap natural number in
    omega (arith, bad, parent)

entered_not_whole : (tree : Tree) → Whole (super_of_used 25) circle tree → ⊥
entered_not_whole tree w =
    let c : IsChild tree 4 (codes "d") 19 = child_of (super_of_used 25) circle tree w root_rows entered_rows (codes "d") 19 refl refl refl in
    entered_no_node c.node (has_node (super_of_used 25) circle tree w 19 c.node c.there) c.parent

pub entered_broken : IsBroken 25 circle
entered_broken = broken 25 circle circle_long reads_25 full_25 entered_not_whole
