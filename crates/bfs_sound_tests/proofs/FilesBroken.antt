-- The volume with an indirect table and a fragment is whole with no tree once one thing in it is broken.
use Rattle.std.proofs.Common.{◌≡◌, ◌<◌, inl, inr, pos, true, false, refl, subst, arith}
use Rattle.std.specs.Prelude.{codes}
use Rattle.std.specs.List.{AllByRecursion}
use Rattle.bfs_base.specs.declared.kind.KeyKind.TheVariants.{Text, I64}
use Rattle.bfs_bytes.specs.Fields.{unsigned_at, signed32_at, signed64_at, run_in, unsigned_bytes, signed32_bytes, signed64_bytes, run_bytes}
use Rattle.bfs_inode.specs.Inode.{runs_in}
use Rattle.bfs_node.specs.Header.{header_bytes}
use Rattle.bfs_node.specs.Page.{Row, rows_of, head_bytes}
use Rattle.bfs_smalldata.specs.Items.{bytes_of}
use Rattle.bfs_stream.specs.Places.{array_runs, level_blocks, bytes_at, HasStream}
use Rattle.bfs_tree.specs.declared.call.Kind.{Kind}
use Rattle.bfs_tree.specs.declared.call.Kind.TheVariants.{File, Dir, Link}
use Rattle.bfs_tree.specs.Trees.{Tree, Node}
use Rattle.bfs_values.specs.Rows.{rows_in}
use Rattle.bfs_values.specs.Reached.{AreReached, IsWholeTree, times_named}
use Rattle.bfs_values.specs.Links.{link_in}
use Rattle.bfs_values.specs.Values.{HasValues, IsFragment, fragment_count}
use Rattle.bfs_pages.specs.Trees.{page_in}
use Rattle.bfs_base.specs.Lists.{Has}
use Rattle.bfs_sound.specs.Volumes.{Volume, sizes}
use Rattle.bfs_sound.specs.Inodes.{content, kind_bits}
use Rattle.bfs_sound.specs.Nodes.{HasNode, HasContent}
use Rattle.bfs_sound.specs.Listings.{IsChild, IsIndexRow}
use Rattle.bfs_sound.specs.Whole.{volume_of, Whole}
use Rattle.bfs_sound_tests.specs.Bytes.{level_bytes, inode_block, header_block, leaf_block, bitmap_block}
use Rattle.bfs_sound_tests.specs.Worked.{super_of_used, IsBroken}
use Rattle.bfs_sound_tests.specs.Files.{blocks, root_rows, time_rows, unfilled, unnamed, descending, uneven}
use Rattle.bfs_sound_tests.proofs.Finite.{low}
use Rattle.bfs_sound_tests.proofs.FileNodes.{blocks_long}
use Rattle.bfs_sound_tests.proofs.Supers.{reads_36, full_36}
use Rattle.bfs_sound_tests.proofs.Images.{broken, with_long}
use Rattle.bfs_sound_tests.proofs.Broken.{child_of, has_node, time_tree, time_values}

file_kind : (k : Kind) → 8 ≡ kind_bits k → k ≡ File
file_kind File e = refl
file_kind Dir e = let bad : 8 ≡ 4 = e in absurd (omega (arith, bad))
file_kind Link e = let bad : 8 ≡ 10 = e in absurd (omega (arith, bad))

abbrev unfilled_volume : Volume
unfilled_volume = volume_of (super_of_used 36) unfilled

unfilled_rows : rows_in Text (content unfilled_volume 4) ≡ root_rows
unfolding unsigned_at signed32_at signed64_at run_in runs_in unsigned_bytes signed32_bytes signed64_bytes run_bytes array_runs level_blocks bytes_at rows_of header_bytes head_bytes bytes_of level_bytes inode_block header_block leaf_block blocks rows_in
unfilled_rows = refl

unfilled_no_node : (n : Node) → HasNode unfilled_volume 20 n → ⊥
unfolding unsigned_at signed32_at signed64_at run_in runs_in unsigned_bytes signed32_bytes signed64_bytes run_bytes array_runs level_blocks bytes_at rows_of header_bytes head_bytes bytes_of level_bytes inode_block header_block leaf_block blocks
unfilled_no_node n h =
    let k : n.kind ≡ File = file_kind n.kind h.kind in
    let stream : HasStream (sizes unfilled_volume.geometry) unfilled 20 = (subst (HasContent unfilled_volume 20 n) k h.content_is).0 in
    elim stream.indirect as (λ _. ⊥) [ inl e ↦ (let bad : 1 ≡ 0 = e in omega (arith, bad)) | inr p ↦ (let bad : 11 ≡ 12 = p.1 in omega (arith, bad)) ]

unfilled_not_whole : (tree : Tree) → Whole (super_of_used 36) unfilled tree → ⊥
unfilled_not_whole tree w =
    let c : IsChild tree 4 (codes "a") 20 = child_of (super_of_used 36) unfilled tree w root_rows unfilled_rows (codes "a") 20 refl refl refl in
    unfilled_no_node c.node (has_node (super_of_used 36) unfilled tree w 20 c.node c.there)

abbrev unnamed_volume : Volume
unnamed_volume = volume_of (super_of_used 36) unnamed

unnamed_row : IsIndexRow unnamed_volume (codes "last_modified") (pos 16)
unfolding unsigned_at signed32_at signed64_at run_in runs_in unsigned_bytes signed32_bytes signed64_bytes run_bytes array_runs level_blocks bytes_at rows_of header_bytes head_bytes bytes_of level_bytes inode_block header_block leaf_block blocks rows_in
unnamed_row = refl

-- the page is reached by the first fragment, and the second is in use
unnamed_no_tree : IsWholeTree I64 (content unnamed_volume 16) → ⊥
unfolding unsigned_at signed32_at signed64_at run_in runs_in unsigned_bytes signed32_bytes signed64_bytes run_bytes array_runs level_blocks bytes_at rows_of header_bytes head_bytes bytes_of level_bytes inode_block header_block leaf_block blocks rows_in link_in
unnamed_no_tree t =
    let values : AreReached (content unnamed_volume 16) time_rows t.reached = t.values in
    let first : 0 < times_named 2048 0 time_rows = low 0 1 refl in
    let has : Has values.fragments 2048 = (values.named 2048).1 (0, first) in
    let used : 0 < fragment_count (page_in (content unnamed_volume 16) 2048) 1 = low 0 2 refl in
    let bad : 0 ≡ 1 = values.each 2048 1 has (low 1 16 refl) used in
    omega (arith, bad)

unnamed_not_whole : (tree : Tree) → Whole (super_of_used 36) unnamed tree → ⊥
unnamed_not_whole tree w = unnamed_no_tree (time_tree (super_of_used 36) unnamed tree w 16 unnamed_row)

abbrev descending_volume : Volume
descending_volume = volume_of (super_of_used 36) descending

descending_row : IsIndexRow descending_volume (codes "last_modified") (pos 16)
unfolding unsigned_at signed32_at signed64_at run_in runs_in unsigned_bytes signed32_bytes signed64_bytes run_bytes array_runs level_blocks bytes_at rows_of header_bytes head_bytes bytes_of level_bytes inode_block header_block leaf_block blocks rows_in
descending_row = refl

descending_no_values : AllByRecursion (λ (r : Row). HasValues (content descending_volume 16) r.1) (rows_in I64 (content descending_volume 16)) → ⊥
unfolding unsigned_at signed32_at signed64_at run_in runs_in unsigned_bytes signed32_bytes signed64_bytes run_bytes array_runs level_blocks bytes_at rows_of header_bytes head_bytes bytes_of level_bytes inode_block header_block leaf_block blocks rows_in link_in
descending_no_values all =
    let f : IsFragment (page_in (content descending_volume 16) 2048) 0 = all.0.1 in
    let bad : false ≡ true = f.ascend in
    cc

descending_not_whole : (tree : Tree) → Whole (super_of_used 36) descending tree → ⊥
descending_not_whole tree w = descending_no_values (time_values (super_of_used 36) descending tree w 16 descending_row)

pub unfilled_broken : IsBroken 36 unfilled
unfolding unsigned_bytes signed32_bytes signed64_bytes run_bytes header_bytes head_bytes bytes_of level_bytes inode_block header_block leaf_block bitmap_block
unfilled_broken = broken 36 unfilled (with_long _ _ blocks refl blocks_long) reads_36 full_36 unfilled_not_whole

pub unnamed_broken : IsBroken 36 unnamed
unfolding unsigned_bytes signed32_bytes signed64_bytes run_bytes header_bytes head_bytes bytes_of level_bytes inode_block header_block leaf_block bitmap_block
unnamed_broken = broken 36 unnamed (with_long _ _ blocks refl blocks_long) reads_36 full_36 unnamed_not_whole

pub descending_broken : IsBroken 36 descending
unfolding unsigned_bytes signed32_bytes signed64_bytes run_bytes header_bytes head_bytes bytes_of level_bytes inode_block header_block leaf_block bitmap_block
descending_broken = broken 36 descending (with_long _ _ blocks refl blocks_long) reads_36 full_36 descending_not_whole

abbrev uneven_volume : Volume
uneven_volume = volume_of (super_of_used 36) uneven

uneven_row : IsIndexRow uneven_volume (codes "last_modified") (pos 16)
unfolding unsigned_at signed32_at signed64_at run_in runs_in unsigned_bytes signed32_bytes signed64_bytes run_bytes array_runs level_blocks bytes_at rows_of header_bytes head_bytes bytes_of level_bytes inode_block header_block leaf_block blocks rows_in
uneven_row = refl

uneven_no_tree : IsWholeTree I64 (content uneven_volume 16) → ⊥
unfolding unsigned_at signed32_at signed64_at run_in runs_in unsigned_bytes signed32_bytes signed64_bytes run_bytes array_runs level_blocks bytes_at rows_of header_bytes head_bytes bytes_of level_bytes inode_block header_block leaf_block blocks
uneven_no_tree t = let bad : 512 ≡ 0 = t.whole in omega (arith, bad)

uneven_not_whole : (tree : Tree) → Whole (super_of_used 36) uneven tree → ⊥
uneven_not_whole tree w = uneven_no_tree (time_tree (super_of_used 36) uneven tree w 16 uneven_row)

pub uneven_broken : IsBroken 36 uneven
unfolding unsigned_bytes signed32_bytes signed64_bytes run_bytes header_bytes head_bytes bytes_of level_bytes inode_block header_block leaf_block bitmap_block
uneven_broken = broken 36 uneven (with_long _ _ _ refl (with_long _ _ blocks refl blocks_long)) reads_36 full_36 uneven_not_whole
