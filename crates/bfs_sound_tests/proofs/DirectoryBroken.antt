-- The volume with one directory is whole with no tree once one thing in it is broken.
use Rattle.std.proofs.Common.{subst, ◌≤◌, length, ap, ◌∙◌, ◌≡◌, pos, List, [], ◌∷◌, ◌++◌, Bool, true, false, cond, refl, arith}
use Rattle.std.specs.Prelude.{codes}
use Rattle.std.specs.List.{flat_map, AllByRecursion}
use Rattle.std.specs.Str.{is_utf8, chars}
use Rattle.std.specs.Char.{encode_utf8}
use Rattle.bfs_base.specs.Lists.{times}
use Rattle.bfs_base.specs.declared.kind.KeyKind.TheVariants.{Text}
use Rattle.bfs_bitmap.specs.Bits.{bit_of}
use Rattle.bfs_bytes.specs.Fields.{unsigned_at, signed32_at, signed64_at, run_in, unsigned_bytes, signed32_bytes, signed64_bytes, run_bytes}
use Rattle.bfs_inode.specs.Inode.{runs_in}
use Rattle.bfs_node.specs.Header.{header_bytes}
use Rattle.bfs_node.specs.Page.{Row, rows_of, head_bytes}
use Rattle.bfs_smalldata.specs.Items.{bytes_of}
use Rattle.bfs_stream.specs.Places.{array_runs, level_blocks, arrays_of, bytes_at}
use Rattle.bfs_super.specs.Conditions.{natural}
use Rattle.bfs_super.specs.Layout.{super_at, sector_of, sizes_of, groups_of, places_of}
use Rattle.bfs_super.specs.declared.sup.Super.{Super}
use Rattle.bfs_tree.specs.Names.{is_bad_name}
use Rattle.bfs_tree.specs.Trees.{Tree}
use Rattle.bfs_values.specs.Rows.{rows_in}
use Rattle.bfs_values.specs.Reached.{pairs_of}
use Rattle.bfs_tree.specs.Listings.{listed}
use Rattle.bfs_sound.specs.Volumes.{Volume, IsMarked}
use Rattle.bfs_sound.specs.Inodes.{content, inode_blocks}
use Rattle.bfs_sound.specs.Attributes.{attribute_directory, attribute_inodes}
use Rattle.bfs_sound.specs.Owners.{index_blocks}
use Rattle.bfs_sound.specs.Listings.{IsChild, IsIndexRow}
use Rattle.bfs_sound.specs.Whole.{volume_of, Whole}
use Rattle.bfs_sound_tests.specs.Bytes.{level_bytes, inode_block, header_block, leaf_block, bitmap_block}
use Rattle.bfs_sound_tests.specs.Worked.{image_of, super_of_used, IsBroken}
use Rattle.bfs_sound_tests.specs.Directory.{blocks, root_rows, overmarked, unmarked, unlisted, shared, unindexed, logged_super, LoggedIsBroken, TruncatedIsBroken}
use Rattle.bfs_sound_tests.proofs.Finite.{low}
use Rattle.bfs_sound_tests.proofs.Standing.{bit}
use Rattle.bfs_sound_tests.proofs.DirectoryNodes.{blocks_long}
use Rattle.bfs_sound_tests.proofs.Supers.{reads_22, full_22, reads_23, full_23}
use Rattle.bfs_sound_tests.proofs.Images.{from_image, broken, with_long, super_is_made}
use Rattle.bfs_sound_tests.proofs.Tallies.{ones, used_is, named_listed}
use Rattle.bfs_sound_tests.proofs.Broken.{built_in, child_of, inode_reached, bit_set, index_once, not_reached}

abbrev unmarked_volume : Volume
unmarked_volume = volume_of (super_of_used 22) unmarked

unmarked_rows : rows_in Text (content unmarked_volume 4) ≡ root_rows
unfolding unsigned_at signed32_at signed64_at run_in runs_in unsigned_bytes signed32_bytes signed64_bytes run_bytes array_runs level_blocks bytes_at rows_of rows_in header_bytes head_bytes bytes_of level_bytes inode_block header_block leaf_block blocks
unmarked_rows = refl

bit_clear : bit unmarked_volume 19 ≡ 0
unfolding unsigned_at bit_of
bit_clear = refl

unmarked_not_whole : (tree : Tree) → Whole (super_of_used 22) unmarked tree → ⊥
unmarked_not_whole tree w =
    let c : IsChild tree 4 (codes "d") 19 = child_of (super_of_used 22) unmarked tree w root_rows unmarked_rows (codes "d") 19 refl refl refl in
    let set : bit unmarked_volume 19 ≡ 1 = bit_set (super_of_used 22) unmarked tree w 19 (inode_reached (super_of_used 22) unmarked tree w 19 c.node c.there) in
    let clear = bit_clear in
    omega (arith, set, clear)

abbrev shared_volume : Volume
shared_volume = volume_of (super_of_used 22) shared

twice : times 14 (index_blocks shared_volume) ≡ 2
unfolding unsigned_at signed32_at signed64_at run_in runs_in unsigned_bytes signed32_bytes signed64_bytes run_bytes array_runs level_blocks arrays_of bytes_at rows_of rows_in index_blocks header_bytes head_bytes bytes_of level_bytes inode_block header_block leaf_block blocks
twice = refl

shared_not_whole : (tree : Tree) → Whole (super_of_used 22) shared tree → ⊥
shared_not_whole tree w = let most = index_once (super_of_used 22) shared tree w 14 in let two = twice in omega (arith, most, two)

abbrev unlisted_volume : Volume
unlisted_volume = volume_of (super_of_used 22) unlisted

abbrev few_rows : List Row
few_rows = (codes ".", pos 4) ∷ (codes "..", pos 4) ∷ []

unlisted_rows : rows_in Text (content unlisted_volume 4) ≡ few_rows
unfolding unsigned_at signed32_at signed64_at run_in runs_in unsigned_bytes signed32_bytes signed64_bytes run_bytes array_runs level_blocks bytes_at rows_of rows_in header_bytes head_bytes bytes_of level_bytes inode_block header_block leaf_block blocks
unlisted_rows = refl

unlisted_index : times 19 (index_blocks unlisted_volume) ≡ 0
unfolding unsigned_at signed32_at signed64_at run_in runs_in unsigned_bytes signed32_bytes signed64_bytes run_bytes array_runs level_blocks arrays_of bytes_at rows_of rows_in index_blocks header_bytes head_bytes bytes_of level_bytes inode_block header_block leaf_block blocks
unlisted_index = refl

unlisted_root : (b : Bool) → times 19 (cond b (4 ∷ []) (inode_blocks unlisted_volume 4) ++ flat_map (inode_blocks unlisted_volume) (attribute_inodes unlisted_volume (attribute_directory unlisted_volume 4))) ≡ 0
unfolding unsigned_at signed32_at signed64_at run_in runs_in unsigned_bytes signed32_bytes signed64_bytes run_bytes array_runs level_blocks arrays_of bytes_at level_bytes inode_block bytes_of blocks header_block leaf_block
unlisted_root true = refl
unlisted_root false = refl

still_marked : IsMarked unlisted_volume 19
unfolding unsigned_at bit_of bitmap_block blocks
still_marked = (low 19 64 refl, refl)

are_bad : AllByRecursion (λ (r : Row). is_bad_name r.0 ≡ true) few_rows
unfolding is_utf8 chars encode_utf8
are_bad = (refl, (refl, tt))

unlisted_not_whole : (tree : Tree) → Whole (super_of_used 22) unlisted tree → ⊥
unlisted_not_whole tree w = not_reached (super_of_used 22) unlisted tree w few_rows unlisted_rows are_bad 19 refl refl unlisted_index unlisted_root still_marked

pub unmarked_broken : IsBroken 22 unmarked
unfolding unsigned_bytes signed32_bytes signed64_bytes run_bytes header_bytes head_bytes bytes_of level_bytes inode_block header_block leaf_block bitmap_block
unmarked_broken = broken 22 unmarked (with_long _ _ blocks refl blocks_long) reads_22 full_22 unmarked_not_whole

pub shared_broken : IsBroken 22 shared
unfolding unsigned_bytes signed32_bytes signed64_bytes run_bytes header_bytes head_bytes bytes_of level_bytes inode_block header_block leaf_block bitmap_block
shared_broken = broken 22 shared (with_long _ _ blocks refl blocks_long) reads_22 full_22 shared_not_whole

pub unlisted_broken : IsBroken 22 unlisted
unfolding unsigned_bytes signed32_bytes signed64_bytes run_bytes header_bytes head_bytes bytes_of level_bytes inode_block header_block leaf_block bitmap_block
unlisted_broken = broken 22 unlisted (with_long _ _ blocks refl blocks_long) reads_22 full_22 unlisted_not_whole

abbrev unindexed_volume : Volume
unindexed_volume = volume_of (super_of_used 22) unindexed

unindexed_rows : rows_in Text (content unindexed_volume 4) ≡ root_rows
unfolding unsigned_at signed32_at signed64_at run_in runs_in unsigned_bytes signed32_bytes signed64_bytes run_bytes array_runs level_blocks bytes_at rows_of header_bytes head_bytes bytes_of level_bytes inode_block header_block leaf_block blocks rows_in
unindexed_rows = refl

unindexed_row : IsIndexRow unindexed_volume (codes "name") (pos 10)
unfolding unsigned_at signed32_at signed64_at run_in runs_in unsigned_bytes signed32_bytes signed64_bytes run_bytes array_runs level_blocks bytes_at rows_of header_bytes head_bytes bytes_of level_bytes inode_block header_block leaf_block blocks rows_in
unindexed_row = refl

none_written : flat_map (pairs_of (content unindexed_volume 10)) (rows_in Text (content unindexed_volume 10)) ≡ []
unfolding unsigned_at signed32_at signed64_at run_in runs_in unsigned_bytes signed32_bytes signed64_bytes run_bytes array_runs level_blocks bytes_at rows_of header_bytes head_bytes bytes_of level_bytes inode_block header_block leaf_block blocks rows_in
none_written = refl

unindexed_not_whole : (tree : Tree) → Whole (super_of_used 22) unindexed tree → ⊥
unindexed_not_whole tree w =
    let c : IsChild tree 4 (codes "d") 19 = child_of (super_of_used 22) unindexed tree w root_rows unindexed_rows (codes "d") 19 refl refl refl in
    let some : 1 ≤ length (listed tree (codes "name") Text) = named_listed tree 19 c.node c.there c.not_root in
    let none : length (listed tree (codes "name") Text) ≡ 0 = ap length ((w.sound.indices.listed (codes "name") (pos 10) Text unindexed_row (built_in (super_of_used 22) unindexed tree w (codes "name") (pos 10) unindexed_row).by_name).are ∙ none_written) in
    omega (arith, some, none)

pub unindexed_broken : IsBroken 22 unindexed
unfolding unsigned_bytes signed32_bytes signed64_bytes run_bytes header_bytes head_bytes bytes_of level_bytes inode_block header_block leaf_block bitmap_block
unindexed_broken = broken 22 unindexed (with_long _ _ blocks refl blocks_long) reads_22 full_22 unindexed_not_whole

abbrev miscounted_volume : Volume
miscounted_volume = volume_of (super_of_used 23) blocks

marked_blocks : ones miscounted_volume 64 ≡ 22
unfolding ones unsigned_at bit_of bitmap_block blocks
marked_blocks = refl

pub miscounted_broken : IsBroken 23 blocks
miscounted_broken tree image =
    let used : 23 ≡ ones miscounted_volume 64 = used_is (super_of_used 23) blocks tree (from_image 23 blocks blocks_long reads_23 full_23 tree image) in
    let marks = marked_blocks in
    omega (arith, used, marks)

abbrev overmarked_volume : Volume
overmarked_volume = volume_of (super_of_used 22) overmarked

overmarked_blocks : ones overmarked_volume 64 ≡ 23
unfolding ones unsigned_at bit_of bitmap_block
overmarked_blocks = refl

pub overmarked_broken : IsBroken 22 overmarked
unfolding unsigned_bytes signed32_bytes signed64_bytes run_bytes header_bytes head_bytes bytes_of level_bytes inode_block header_block leaf_block bitmap_block
overmarked_broken tree image =
    let used : 22 ≡ ones overmarked_volume 64 = used_is (super_of_used 22) overmarked tree (from_image 22 overmarked (with_long _ _ blocks refl blocks_long) reads_22 full_22 tree image) in
    let marks = overmarked_blocks in
    omega (arith, used, marks)

logged_reads : super_at (sector_of logged_super) ≡ logged_super
unfolding unsigned_at signed32_at signed64_at run_in unsigned_bytes signed32_bytes signed64_bytes run_bytes sizes_of groups_of places_of
logged_reads = refl

logged_full : length (sector_of logged_super) ≡ 512
unfolding unsigned_bytes signed32_bytes signed64_bytes run_bytes sizes_of groups_of places_of
logged_full = refl

pub logged_broken : LoggedIsBroken
logged_broken tree image =
    let empty : logged_super.log_start ≡ logged_super.log_end = subst (λ (s : Super). s.log_start ≡ s.log_end) (super_is_made logged_super blocks logged_reads logged_full) image.whole.emptied in
    let bad : 0 ≡ 1 = ap natural empty in
    omega (arith, bad)

pub truncated_broken : TruncatedIsBroken
unfolding unsigned_at signed32_at signed64_at run_in unsigned_bytes signed32_bytes signed64_bytes run_bytes header_bytes head_bytes bytes_of level_bytes inode_block header_block leaf_block bitmap_block blocks image_of sizes_of groups_of places_of
truncated_broken tree image = let bad : 65536 ≤ 65535 = image.valid.blocks in omega (arith, bad)
