-- A stream with all three levels, in a volume of 256 blocks of 1,024 bytes: 12 direct runs, a full indirect table of 128 runs, and
-- one data run of 4 blocks under the double indirect level.
use Rattle.std.specs.Prelude.{◌≡◌, ℕ, ◌+◌, ◌*◌, List, [], ◌∷◌, ◌++◌, replicate}
use Rattle.std.specs.List.{flat_map}
use Rattle.bfs_base.specs.Lists.{counted_from}
use Rattle.bfs_bytes.specs.declared.Run.{Run}
use Rattle.bfs_bytes.specs.Fields.{run_bytes}
use Rattle.bfs_stream.specs.Sizes.{Sizes}
use Rattle.bfs_stream.specs.Places.{HasStream, places_at, arrays_at}
use Rattle.bfs_sound_tests.specs.Bytes.{padded, zero_block, no_run, run, level_bytes, inode_block}
use Rattle.bfs_sound_tests.specs.Worked.{blocks_in}
use Rattle.bfs_sound_tests.specs.Files.{single_runs}

abbrev pub volume_sizes : Sizes
volume_sizes = record { block_size = 1024; blocks = 256; group_blocks = 8192 }

-- the inode is block 20. Its table is in block 33, the array of the double indirect level in blocks 162 to 165, and an array that this
-- lists in blocks 166 to 169. So many blocks of data stand from block 170 on.
abbrev pub inode : ℕ → List ℕ
inode count = inode_block 20 (record {
  mode = 0x81a4;
  flags = 1;
  modified = 1000;
  parent = 4;
  attributes = no_run;
  code = 0;
  stream = level_bytes (single_runs 21 12) 12288 (record { table = run 33 1; range = 143360 }) (record { table = run 162 4; range = 143360 + 1024 * count }) 143400;
  items = [];
})

-- the first block of an array with one run
abbrev pub array_block : Run → List ℕ
array_block one = padded 1024 (run_bytes one)

abbrev pub block_list : ℕ → List (List ℕ)
block_list count =
    replicate 20 zero_block ++ inode count ∷ replicate 12 zero_block ++ flat_map run_bytes (single_runs 34 128) ∷ replicate 128 zero_block
    ++ array_block (run 166 4) ∷ replicate 3 zero_block ++ array_block (run 170 count) ∷ []

unfoldable pub blocks : ℕ → ℕ → List ℕ
blocks count = blocks_in (block_list count)

-- with four blocks of data the stream keeps its format, and has these blocks and array blocks
abbrev pub LevelsAreKept : Type 0
LevelsAreKept =
    HasStream volume_sizes (blocks 4) 20
    × (places_at volume_sizes (blocks 4) 20 ≡ counted_from 21 12 ++ (counted_from 34 128 ++ counted_from 170 4))
    × (arrays_at volume_sizes (blocks 4) 20 ≡ counted_from 33 1 ++ counted_from 162 8)

-- with three it doesn't: a data run under the double indirect level has four blocks
abbrev pub ShortRunIsBroken : Type 0
ShortRunIsBroken = ¬ HasStream volume_sizes (blocks 3) 20
