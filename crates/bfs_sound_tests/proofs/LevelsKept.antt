-- The stream with all three levels keeps its format.
use Rattle.std.proofs.Common.{◌≡◌, [], inr, refl, arith}
use Rattle.std.proofs.lemmas.Int.{ints}
use Rattle.std.proofs.lemmas.List.Elements.{All-cons, All-nil, All-head}
use Rattle.bfs_bytes.specs.Fields.{unsigned_at, signed32_at, signed64_at, run_in, unsigned_bytes, signed32_bytes, signed64_bytes, run_bytes}
use Rattle.bfs_inode.specs.Inode.{runs_in}
use Rattle.bfs_stream.specs.Sizes.{IsWhole}
use Rattle.bfs_stream.specs.Places.{array_runs, level_blocks, arrays_of, HasStream}
use Rattle.bfs_sound_tests.specs.Bytes.{run, level_bytes, inode_block}
use Rattle.bfs_sound_tests.specs.Files.{single_runs}
use Rattle.bfs_sound_tests.specs.Levels.{volume_sizes, blocks, LevelsAreKept, ShortRunIsBroken}
use Rattle.bfs_sound_tests.proofs.Finite.{low, most}
use Rattle.bfs_sound_tests.proofs.Streams.{in_volume, all_in_volume}

array_whole : IsWhole volume_sizes (run 162 4)
array_whole = record { inside = in_volume volume_sizes (run 162 4) refl; long = refl }

second_whole : IsWhole volume_sizes (run 166 4)
second_whole = record { inside = in_volume volume_sizes (run 166 4) refl; long = refl }

data_whole : IsWhole volume_sizes (run 170 4)
data_whole = record { inside = in_volume volume_sizes (run 170 4) refl; long = refl }

kept : HasStream volume_sizes (blocks 4) 20
unfolding unsigned_at signed32_at signed64_at run_in runs_in unsigned_bytes signed32_bytes signed64_bytes run_bytes array_runs level_blocks level_bytes inode_block blocks
kept = record {
  direct = all_in_volume volume_sizes (single_runs 21 12) refl;
  indirect = inr (in_volume volume_sizes (run 33 1) refl, refl);
  in_indirect = all_in_volume volume_sizes (single_runs 34 128) refl;
  double = inr (array_whole, low 0 128 refl, refl);
  arrays = All-cons (IsWhole volume_sizes) (run 166 4) [] second_whole (All-nil (IsWhole volume_sizes));
  in_double = All-cons (IsWhole volume_sizes) (run 170 4) [] data_whole (All-nil (IsWhole volume_sizes));
  direct_range = refl;
  indirect_range = refl;
  double_range = refl;
  size_low = omega (arith, ints);
  size_high = most 143400 147456 refl;
}

pub levels_kept : LevelsAreKept
unfolding unsigned_at signed32_at signed64_at run_in runs_in unsigned_bytes signed32_bytes signed64_bytes run_bytes array_runs level_blocks arrays_of level_bytes inode_block blocks
levels_kept = (kept, refl, refl)

pub short_run_broken : ShortRunIsBroken
unfolding unsigned_at signed32_at signed64_at run_in runs_in unsigned_bytes signed32_bytes signed64_bytes run_bytes array_runs level_blocks level_bytes inode_block blocks
short_run_broken h =
    let first : IsWhole volume_sizes (run 170 3) = All-head (IsWhole volume_sizes) (run 170 3) [] h.in_double in
    let bad : 3 ≡ 4 = first.long in
    omega (arith, bad)
