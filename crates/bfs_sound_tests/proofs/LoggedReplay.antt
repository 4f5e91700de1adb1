-- An image whose log isn't empty recovers to the tree.
use Rattle.std.proofs.Common.{inr, ◌≡◌, ◌<◌, inl, ℕ, pos, List, [], ◌∷◌, length, refl, ap, subst, arith}
use Rattle.std.proofs.lemmas.Int.{ints}
use Rattle.std.proofs.lemmas.List.Elements.{All-cons, All-nil}
use Rattle.bfs_bytes.specs.Fields.{unsigned_at, signed32_at, signed64_at, run_in, unsigned_bytes, signed32_bytes, signed64_bytes, run_bytes}
use Rattle.bfs_log.specs.Entry.{AreCounts, HasPlace, IsEntry}
use Rattle.bfs_log.specs.Replay.{Home, place_in, Valid, Replayed}
use Rattle.bfs_node.specs.Header.{header_bytes}
use Rattle.bfs_node.specs.Page.{head_bytes}
use Rattle.bfs_smalldata.specs.Items.{bytes_of}
use Rattle.bfs_super.specs.Conditions.{natural, IsValid, IsInodeRun}
use Rattle.bfs_super.specs.Geometry.{geometry_of}
use Rattle.bfs_super.specs.Layout.{super_at, sector_of, sizes_of, groups_of, places_of}
use Rattle.bfs_super.specs.declared.sup.Super.{Super}
use Rattle.bfs_sound.specs.Whole.{IsWhole}
use Rattle.bfs_sound_tests.specs.Bytes.{zero_block, run, address, level_bytes, inode_block, header_block, leaf_block}
use Rattle.bfs_sound_tests.specs.Worked.{super_with, image_of, tree_of}
use Rattle.bfs_sound_tests.specs.Directory.{nodes}
use Rattle.bfs_sound_tests.specs.Logged.{super_before, super_after, child_rows, block_list, blocks, before, LoggedRecovers, UnreplayedIsBroken}
use Rattle.bfs_sound_tests.proofs.Finite.{low, most, all_long}
use Rattle.bfs_sound_tests.proofs.Images.{with_long, image_valid, image_whole, super_is_made}
use Rattle.bfs_sound_tests.proofs.LoggedNodes.{is_sound}

-- the superblock is valid with this log, wherever its entries start and end
module _ (start end : ℕ) (some : start < 8) (more : end < 8) where
  root_run : IsInodeRun (super_with (run 40 8) start end 28) (address 4)
  root_run = ((omega (arith, ints), omega (arith, ints)), refl, low 1 4 refl, low 4 64 refl, inl (low 4 40 refl))

  indices_run : IsInodeRun (super_with (run 40 8) start end 28) (address 7)
  indices_run = ((omega (arith, ints), omega (arith, ints)), refl, low 1 7 refl, low 7 64 refl, inl (low 7 40 refl))

  valid : IsValid (super_with (run 40 8) start end 28)
  valid = record {
    magic1 = refl;
    magic2 = refl;
    magic3 = refl;
    order = refl;
    block_size = (most 10 10 refl, most 10 13 refl, refl);
    inode_size = refl;
    length = (omega (arith, ints), omega (arith, ints));
    groups = ((omega (arith, ints), omega (arith, ints), omega (arith, ints)), refl, refl);
    log = ((omega (arith, ints), omega (arith, ints)), most 48 8192 refl, most 2 8 refl, low 1 40 refl, most 48 64 refl);
    log_start = (omega (arith, ints), omega (arith, ints, some));
    log_end = (omega (arith, ints), omega (arith, ints, more));
    root = root_run;
    indices = inr (indices_run, λ e. let bad : 7 ≡ 4 = e in omega (arith, bad));
  }

reads_before : super_at (sector_of super_before) ≡ super_before
unfolding unsigned_at signed32_at signed64_at run_in unsigned_bytes signed32_bytes signed64_bytes run_bytes sizes_of groups_of places_of
reads_before = refl

full_before : length (sector_of super_before) ≡ 512
unfolding unsigned_bytes signed32_bytes signed64_bytes run_bytes sizes_of groups_of places_of
full_before = refl

reads_after : super_at (sector_of super_after) ≡ super_after
unfolding unsigned_at signed32_at signed64_at run_in unsigned_bytes signed32_bytes signed64_bytes run_bytes sizes_of groups_of places_of
reads_after = refl

full_after : length (sector_of super_after) ≡ 512
unfolding unsigned_bytes signed32_bytes signed64_bytes run_bytes sizes_of groups_of places_of
full_after = refl

blocks_long : (k : ℕ) → length (blocks k) ≡ 1024
unfolding unsigned_bytes signed32_bytes signed64_bytes run_bytes header_bytes head_bytes bytes_of level_bytes inode_block header_block leaf_block blocks
blocks_long k = all_long 1024 block_list zero_block refl refl k

before_long : (k : ℕ) → length (before k) ≡ 1024
before_long = with_long 21 zero_block blocks refl blocks_long

after : IsWhole (image_of super_after blocks) (tree_of nodes)
after = image_whole (address 7) (run 40 8) 2 2 28 blocks blocks_long (valid 2 2 (low 2 8 refl) (low 2 8 refl)) reads_after full_after (tree_of nodes)
    (record { valid = record { super = valid 2 2 (low 2 8 refl) (low 2 8 refl); long = λ k _. blocks_long k }; emptied = refl; sound = is_sound })

abbrev image : List ℕ
image = image_of super_before before

image_is_valid : Valid image
image_is_valid = image_valid (address 7) (run 40 8) 0 2 28 before before_long (valid 0 2 (low 0 8 refl) (low 2 8 refl)) reads_before full_before

-- the entry has one run, and the leaf's bytes behind its array block
abbrev home : Home
home = record { place = 21; bytes = leaf_block child_rows }

counts : AreCounts (pos 1) (pos 127)
counts = (omega (arith, ints), omega (arith, ints), omega (arith, ints), omega (arith, ints))

home_place : HasPlace (geometry_of super_before) (run 21 1)
home_place = record { some = low 0 1 refl; group_low = omega (arith, ints); group_high = omega (arith, ints); inside = most 22 8192 refl; volume = most 22 64 refl; not_zero = low 0 21 refl; apart = inl (most 22 40 refl) }

entry : IsEntry (place_in (geometry_of super_before) before 0 2) (before 40)
unfolding unsigned_at signed32_at signed64_at run_in unsigned_bytes signed32_bytes signed64_bytes run_bytes header_bytes head_bytes bytes_of level_bytes inode_block header_block leaf_block blocks sizes_of groups_of places_of image_of
entry = record { count = counts; places = All-cons (HasPlace (geometry_of super_before)) (run 21 1) [] home_place (All-nil (HasPlace (geometry_of super_before))); end = most 2 2 refl }

replayed : Replayed image (image_of super_after blocks)
unfolding unsigned_at signed32_at signed64_at run_in unsigned_bytes signed32_bytes signed64_bytes run_bytes header_bytes head_bytes bytes_of level_bytes inode_block header_block leaf_block blocks sizes_of groups_of places_of image_of
replayed = record { valid = image_is_valid; entries = (home ∷ []) ∷ []; log = (entry, refl, refl); same = refl }

pub logged_recovers : LoggedRecovers
logged_recovers = record { result = image_of super_after blocks; replayed = replayed; whole = after }

pub unreplayed_broken : UnreplayedIsBroken
unreplayed_broken tree w =
    let empty : super_before.log_start ≡ super_before.log_end = subst (λ (s : Super). s.log_start ≡ s.log_end) (super_is_made super_before before reads_before full_before) w.whole.emptied in
    let bad : 0 ≡ 2 = ap natural empty in
    omega (arith, bad)
