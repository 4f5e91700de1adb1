-- The superblock of the worked volumes is valid, and each of their blocks is as long as a block.
use Rattle.std.proofs.Common.{◌≡◌, ℕ, List, length, refl, inr, arith}
use Rattle.std.proofs.lemmas.Int.{ints}
use Rattle.bfs_bytes.specs.Fields.{unsigned_at, signed32_at, signed64_at, run_in, unsigned_bytes, signed32_bytes, signed64_bytes, run_bytes}
use Rattle.bfs_super.specs.Layout.{super_at, sector_of, sizes_of, groups_of, places_of}
use Rattle.bfs_super.specs.Conditions.{IsValid, IsInodeRun}
use Rattle.bfs_sound.specs.Whole.{IsSound, volume_of, Whole}
use Rattle.bfs_tree.specs.Trees.{Tree}
use Rattle.bfs_sound_tests.specs.Bytes.{address}
use Rattle.bfs_sound_tests.specs.Worked.{super_of_used}
use Rattle.bfs_sound_tests.proofs.Finite.{low, most}

module _ (used : ℕ) where
  root_run : IsInodeRun (super_of_used used) (address 4)
  root_run = ((omega (arith, ints), omega (arith, ints)), refl, low 1 4 refl, low 4 64 refl, inr (most 4 4 refl))

  indices_run : IsInodeRun (super_of_used used) (address 7)
  indices_run = ((omega (arith, ints), omega (arith, ints)), refl, low 1 7 refl, low 7 64 refl, inr (most 4 7 refl))

  pub valid : IsValid (super_of_used used)
  valid = record {
    magic1 = refl;
    magic2 = refl;
    magic3 = refl;
    order = refl;
    block_size = (most 10 10 refl, most 10 13 refl, refl);
    inode_size = refl;
    length = (omega (arith, ints), omega (arith, ints));
    groups = ((omega (arith, ints), omega (arith, ints), omega (arith, ints)), refl, refl);
    log = ((omega (arith, ints), omega (arith, ints)), most 4 8192 refl, most 2 2 refl, low 1 2 refl, most 4 64 refl);
    log_start = (omega (arith, ints), omega (arith, ints));
    log_end = (omega (arith, ints), omega (arith, ints));
    root = root_run;
    indices = inr (indices_run, λ e. let bad : 7 ≡ 4 = e in omega (arith, bad));
  }

-- the volume is whole where it is sound
pub whole : (used : ℕ) (blocks : ℕ → List ℕ) (tree : Tree) → ((k : ℕ) → length (blocks k) ≡ 1024) → IsSound (volume_of (super_of_used used) blocks) tree → Whole (super_of_used used) blocks tree
whole used blocks tree long sound = record { valid = record { super = valid used; long = λ k _. long k }; emptied = refl; sound = sound }

-- the superblocks fill a sector, and read as they are written

pub reads_22 : super_at (sector_of (super_of_used 22)) ≡ super_of_used 22
unfolding unsigned_at signed32_at signed64_at run_in unsigned_bytes signed32_bytes signed64_bytes run_bytes sizes_of groups_of places_of
reads_22 = refl

pub full_22 : length (sector_of (super_of_used 22)) ≡ 512
unfolding unsigned_bytes signed32_bytes signed64_bytes run_bytes sizes_of groups_of places_of
full_22 = refl

pub reads_29 : super_at (sector_of (super_of_used 29)) ≡ super_of_used 29
unfolding unsigned_at signed32_at signed64_at run_in unsigned_bytes signed32_bytes signed64_bytes run_bytes sizes_of groups_of places_of
reads_29 = refl

pub full_29 : length (sector_of (super_of_used 29)) ≡ 512
unfolding unsigned_bytes signed32_bytes signed64_bytes run_bytes sizes_of groups_of places_of
full_29 = refl

pub reads_36 : super_at (sector_of (super_of_used 36)) ≡ super_of_used 36
unfolding unsigned_at signed32_at signed64_at run_in unsigned_bytes signed32_bytes signed64_bytes run_bytes sizes_of groups_of places_of
reads_36 = refl

pub full_36 : length (sector_of (super_of_used 36)) ≡ 512
unfolding unsigned_bytes signed32_bytes signed64_bytes run_bytes sizes_of groups_of places_of
full_36 = refl

pub reads_23 : super_at (sector_of (super_of_used 23)) ≡ super_of_used 23
unfolding unsigned_at signed32_at signed64_at run_in unsigned_bytes signed32_bytes signed64_bytes run_bytes sizes_of groups_of places_of
reads_23 = refl

pub full_23 : length (sector_of (super_of_used 23)) ≡ 512
unfolding unsigned_bytes signed32_bytes signed64_bytes run_bytes sizes_of groups_of places_of
full_23 = refl

pub reads_28 : super_at (sector_of (super_of_used 28)) ≡ super_of_used 28
unfolding unsigned_at signed32_at signed64_at run_in unsigned_bytes signed32_bytes signed64_bytes run_bytes sizes_of groups_of places_of
reads_28 = refl

pub full_28 : length (sector_of (super_of_used 28)) ≡ 512
unfolding unsigned_bytes signed32_bytes signed64_bytes run_bytes sizes_of groups_of places_of
full_28 = refl

pub reads_25 : super_at (sector_of (super_of_used 25)) ≡ super_of_used 25
unfolding unsigned_at signed32_at signed64_at run_in unsigned_bytes signed32_bytes signed64_bytes run_bytes sizes_of groups_of places_of
reads_25 = refl

pub full_25 : length (sector_of (super_of_used 25)) ≡ 512
unfolding unsigned_bytes signed32_bytes signed64_bytes run_bytes sizes_of groups_of places_of
full_25 = refl

pub reads_24 : super_at (sector_of (super_of_used 24)) ≡ super_of_used 24
unfolding unsigned_at signed32_at signed64_at run_in unsigned_bytes signed32_bytes signed64_bytes run_bytes sizes_of groups_of places_of
reads_24 = refl

pub full_24 : length (sector_of (super_of_used 24)) ≡ 512
unfolding unsigned_bytes signed32_bytes signed64_bytes run_bytes sizes_of groups_of places_of
full_24 = refl
