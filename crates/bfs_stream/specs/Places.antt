-- The blocks of a stream, its array blocks and its bytes, by the bytes of all blocks.
use Rattle.std.specs.Prelude.{◌≡◌, ◌<◌, ◌≤◌, ◌⊎◌, ◌≤ℤ◌, ℕ, pos, ◌+◌, ◌*◌, List, [], ◌∷◌, ◌++◌, length, take, ◌==◌, if◌then◌else◌, All}
use Rattle.std.specs.List.{flat_map}
use Rattle.bfs_base.specs.Lists.{counted_from}
use Rattle.bfs_bytes.specs.declared.Run.{Run}
use Rattle.bfs_super.specs.Conditions.{natural}
use Rattle.bfs_inode.specs.Inode.{Stream, stream_at, runs_in}
use Rattle.bfs_stream.specs.Sizes.{Sizes, runs_per_block, first_block, IsInVolume, IsWhole}

-- the blocks of a run, and of runs one after the other
abbrev pub run_blocks : Sizes → Run → List ℕ
run_blocks s run = counted_from (first_block s run) run.len

abbrev pub blocks_of : Sizes → List Run → List ℕ
blocks_of s runs = flat_map (run_blocks s) runs

-- a level's runs end at the first of length 0
abbrev pub used_runs : List Run → List Run
used_runs [] = []
used_runs (r ∷ rs) = if r.len == 0 then [] else r ∷ used_runs rs

-- all runs that stand in the blocks of an array, used or not
unfoldable pub array_runs : Sizes → (ℕ → List ℕ) → Run → List Run
array_runs s blocks array = flat_map (λ b. runs_in (runs_per_block s) (blocks b) 0) (run_blocks s array)

-- what a stream's blocks follow from: the fields in the inode, all runs that stand in the array of the indirect level and
-- in that of the double indirect level, and all that stand in the arrays that the last lists
pub record Levels : Type 0 where
  pub stream : Stream
  pub table : List Run
  pub arrays : List Run
  pub runs : List Run

-- the blocks of a level
unfoldable pub level_blocks : Sizes → List Run → List ℕ
level_blocks s runs = blocks_of s (used_runs runs)

-- the blocks of the stream, in order: those of the three levels
abbrev pub places_of : Sizes → Levels → List ℕ
places_of s l = level_blocks s l.stream.direct ++ (level_blocks s l.table ++ level_blocks s l.runs)

-- its array blocks
unfoldable pub arrays_of : Sizes → Levels → List ℕ
arrays_of s l = run_blocks s l.stream.indirect ++ (run_blocks s l.stream.double_indirect ++ blocks_of s (used_runs l.arrays))

-- up to which block a level of so many blocks behind others reaches: 0 where it is empty
abbrev pub level_end : ℕ → ℕ → ℕ
level_end before own = if own == 0 then 0 else before + own

-- Each level is used only where the one before it is full, its arrays and runs lie in the volume, those of the double
-- indirect level are whole, each range is the byte up to which its level reaches, and the size is at most the last.
pub record HasLevels (s : Sizes) (l : Levels) : Type 0 where
  pub direct : All (IsInVolume s) (used_runs l.stream.direct)
  pub indirect : (l.stream.indirect.len ≡ 0) ⊎ (IsInVolume s l.stream.indirect × (length (used_runs l.stream.direct) ≡ 12))
  pub in_indirect : All (IsInVolume s) (used_runs l.table)
  pub double : (l.stream.double_indirect.len ≡ 0) ⊎ (IsWhole s l.stream.double_indirect × (0 < length (used_runs l.table)) × (length (used_runs l.table) ≡ length l.table))
  pub arrays : All (IsWhole s) (used_runs l.arrays)
  pub in_double : All (IsWhole s) (used_runs l.runs)
  pub direct_range : l.stream.max_direct_range ≡ pos (s.block_size * length (level_blocks s l.stream.direct))
  pub indirect_range : l.stream.max_indirect_range ≡ pos (s.block_size * level_end (length (level_blocks s l.stream.direct)) (length (level_blocks s l.table)))
  pub double_range : l.stream.max_double_indirect_range ≡ pos (s.block_size * level_end (length (level_blocks s l.stream.direct) + length (level_blocks s l.table)) (length (level_blocks s l.runs)))
  pub size_low : pos 0 ≤ℤ l.stream.size
  pub size_high : natural l.stream.size ≤ s.block_size * length (places_of s l)

module _ (s : Sizes) (blocks : ℕ → List ℕ) (id : ℕ) where
  -- the stream's fields in the inode's block
  abbrev pub fields : Stream
  fields = stream_at (blocks id)

  -- the arrays under double indirect
  abbrev pub second_arrays : List Run
  second_arrays = used_runs (array_runs s blocks fields.double_indirect)

  -- the levels of the stream of this inode
  abbrev pub levels_at : Levels
  levels_at = record {
    stream = stream_at (blocks id);
    table = array_runs s blocks fields.indirect;
    arrays = array_runs s blocks fields.double_indirect;
    runs = flat_map (array_runs s blocks) second_arrays;
  }

  -- its blocks, in order
  abbrev pub places_at : List ℕ
  places_at = places_of s levels_at

  -- its array blocks
  abbrev pub arrays_at : List ℕ
  arrays_at = arrays_of s levels_at

  -- the inode and the array blocks, which say what the stream's blocks are
  abbrev pub frame_at : List ℕ
  frame_at = id ∷ arrays_at

  -- all blocks of the inode and its stream
  abbrev pub whole_at : List ℕ
  whole_at = frame_at ++ places_at

  -- the contents of the stream's blocks, cut to the size
  unfoldable pub bytes_at : List ℕ
  bytes_at = take (natural fields.size) (flat_map blocks places_at)

  -- the stream keeps its format
  abbrev pub HasStream : Type 0
  HasStream = HasLevels s levels_at
