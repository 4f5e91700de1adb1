-- The volume with an interior page, duplicates and a free page is whole with no tree once one thing in it is broken.
use Rattle.std.proofs.Common.{◌≡◌, ◌≤◌, ℕ, zero, suc, pos, List, refl, ap, subst, arith}
use Rattle.std.specs.Prelude.{codes}
use Rattle.std.specs.List.{AllByRecursion}
use Rattle.bfs_base.specs.declared.kind.KeyKind.TheVariants.{I64}
use Rattle.bfs_bytes.specs.Fields.{unsigned_at, signed32_at, signed64_at, run_in, unsigned_bytes, signed32_bytes, signed64_bytes, run_bytes}
use Rattle.bfs_inode.specs.Inode.{runs_in}
use Rattle.bfs_node.specs.Header.{header_bytes}
use Rattle.bfs_node.specs.Page.{Row, rows_of, head_bytes}
use Rattle.bfs_smalldata.specs.Items.{bytes_of}
use Rattle.bfs_stream.specs.Places.{array_runs, level_blocks, bytes_at}
use Rattle.bfs_tree.specs.Trees.{Tree}
use Rattle.bfs_super.specs.Conditions.{natural}
use Rattle.bfs_values.specs.declared.link.Link.TheVariants.{Chain}
use Rattle.bfs_values.specs.Rows.{rows_in}
use Rattle.bfs_values.specs.Reached.{IsWholeTree}
use Rattle.bfs_values.specs.Links.{link_in}
use Rattle.bfs_values.specs.Values.{next_of, EndsAfter, HasNumbers, HasValues}
use Rattle.bfs_sound.specs.Volumes.{Volume}
use Rattle.bfs_sound.specs.Inodes.{content}
use Rattle.bfs_sound.specs.Listings.{IsIndexRow}
use Rattle.bfs_sound.specs.Whole.{volume_of, Whole}
use Rattle.bfs_sound_tests.specs.Bytes.{level_bytes, inode_block, header_block, leaf_block, bitmap_block}
use Rattle.bfs_sound_tests.specs.Worked.{super_of_used, IsBroken}
use Rattle.bfs_sound_tests.specs.Pages.{blocks, mismeasured, looped}
use Rattle.bfs_sound_tests.proofs.Finite.{most}
use Rattle.bfs_sound_tests.proofs.PageNodes.{blocks_long}
use Rattle.bfs_sound_tests.proofs.Supers.{reads_28, full_28}
use Rattle.bfs_sound_tests.proofs.Images.{broken, with_long}
use Rattle.bfs_sound_tests.proofs.Broken.{time_tree, time_values}

abbrev mismeasured_volume : Volume
mismeasured_volume = volume_of (super_of_used 28) mismeasured

mismeasured_row : IsIndexRow mismeasured_volume (codes "last_modified") (pos 16)
unfolding unsigned_at signed32_at signed64_at run_in runs_in unsigned_bytes signed32_bytes signed64_bytes run_bytes array_runs level_blocks bytes_at rows_of header_bytes head_bytes bytes_of level_bytes inode_block header_block leaf_block blocks rows_in
mismeasured_row = refl

mismeasured_no_tree : IsWholeTree I64 (content mismeasured_volume 16) → ⊥
unfolding unsigned_at signed32_at signed64_at run_in runs_in unsigned_bytes signed32_bytes signed64_bytes run_bytes array_runs level_blocks bytes_at rows_of header_bytes head_bytes bytes_of level_bytes inode_block header_block leaf_block blocks
mismeasured_no_tree t =
    let same : pos 5120 ≡ pos 6144 = t.tree.header.maximum in
    let bad : 5120 ≡ 6144 = ap natural same in
    omega (arith, bad)

mismeasured_not_whole : (tree : Tree) → Whole (super_of_used 28) mismeasured tree → ⊥
mismeasured_not_whole tree w = mismeasured_no_tree (time_tree (super_of_used 28) mismeasured tree w 16 mismeasured_row)

pub mismeasured_broken : IsBroken 28 mismeasured
unfolding unsigned_bytes signed32_bytes signed64_bytes run_bytes header_bytes head_bytes bytes_of level_bytes inode_block header_block leaf_block bitmap_block
mismeasured_broken = broken 28 mismeasured (with_long _ _ blocks refl blocks_long) reads_28 full_28 mismeasured_not_whole

abbrev looped_volume : Volume
looped_volume = volume_of (super_of_used 28) looped

looped_row : IsIndexRow looped_volume (codes "last_modified") (pos 16)
unfolding unsigned_at signed32_at signed64_at run_in runs_in unsigned_bytes signed32_bytes signed64_bytes run_bytes array_runs level_blocks bytes_at rows_of header_bytes head_bytes bytes_of level_bytes inode_block header_block leaf_block blocks rows_in
looped_row = refl

-- a page that leads to itself comes to no end
no_end : (bytes : List ℕ) (at n : ℕ) → next_of bytes at ≡ at → 1 ≤ at → EndsAfter bytes n at → ⊥
no_end bytes at zero same some e = let none : next_of bytes at ≡ 0 = e in omega (arith, same, some, none)
no_end bytes at (suc n) same some e = no_end bytes at n same some (subst (EndsAfter bytes n) same e.1)

looped_next : next_of (content looped_volume 16) 4096 ≡ 4096
unfolding unsigned_at signed32_at signed64_at run_in runs_in unsigned_bytes signed32_bytes signed64_bytes run_bytes array_runs level_blocks bytes_at rows_of header_bytes head_bytes bytes_of level_bytes inode_block header_block leaf_block blocks
looped_next = refl

looped_no_values : AllByRecursion (λ (r : Row). HasValues (content looped_volume 16) r.1) (rows_in I64 (content looped_volume 16)) → ⊥
unfolding unsigned_at signed32_at signed64_at run_in runs_in unsigned_bytes signed32_bytes signed64_bytes run_bytes array_runs level_blocks bytes_at rows_of header_bytes head_bytes bytes_of level_bytes inode_block header_block leaf_block blocks rows_in link_in
looped_no_values all =
    let values : HasNumbers (content looped_volume 16) (Chain 4096) = all.0 in
    no_end (content looped_volume 16) 4096 values.1.0 looped_next (most 1 4096 refl) values.1.1

looped_not_whole : (tree : Tree) → Whole (super_of_used 28) looped tree → ⊥
looped_not_whole tree w = looped_no_values (time_values (super_of_used 28) looped tree w 16 looped_row)

pub looped_broken : IsBroken 28 looped
unfolding unsigned_bytes signed32_bytes signed64_bytes run_bytes header_bytes head_bytes bytes_of level_bytes inode_block header_block leaf_block bitmap_block
looped_broken = broken 28 looped (with_long _ _ blocks refl blocks_long) reads_28 full_28 looped_not_whole
