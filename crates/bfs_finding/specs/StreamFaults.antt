-- What is wrong with a stream: what was found, and what was wanted there.
use Rattle.std.specs.Prelude.{◌≡◌, ◌≢◌, ◌≤◌, ◌<◌, ◌<ℤ◌, ◌⊎◌, ℕ, ℤ, pos, ◌+◌, ◌*◌, length, false}
use Rattle.bfs_bytes.specs.declared.Run.{Run}
use Rattle.bfs_bytes.specs.Fields.{run_in}
use Rattle.bfs_sound.specs.Sizes.{Sizes, first_block, array_length}
use Rattle.bfs_sound.specs.Places.{Levels, used_runs, level_blocks, level_end, places_of, levels_at}
use Rattle.bfs_sound.specs.Volumes.{Volume, sizes}
use Rattle.bfs_sound.specs.Attributes.{is_zero}
use Rattle.bfs_sound.specs.Owners.{In}
use Rattle.bfs_finding.specs.Ways.{IsReached, IsStreamed}

-- a run leaves the volume: by its group, past the end of its group, or past the last block
pub data LeavesBy (s : Sizes) (run : Run) (found wanted : ℤ) : Type 0 where
  by_group : run.group <ℤ pos 0 → found ≡ run.group → wanted ≡ pos 0 → LeavesBy s run found wanted
  by_end : s.group_blocks < run.start + run.len → found ≡ pos (run.start + run.len) → wanted ≡ pos s.group_blocks → LeavesBy s run found wanted
  by_blocks : s.blocks < first_block s run + run.len → found ≡ pos (first_block s run + run.len) → wanted ≡ pos s.blocks → LeavesBy s run found wanted

-- a run that the double indirect level uses: its array, an array that this lists, or a run of blocks
abbrev pub IsDoubleIn : Levels → Run → Type 0
IsDoubleIn l run = ((run ≡ l.stream.double_indirect) × (run.len ≢ 0)) ⊎ In run (used_runs l.arrays) ⊎ In run (used_runs l.runs)

-- a run that the stream uses for its blocks or as an array
abbrev pub IsUsedIn : Levels → Run → Type 0
IsUsedIn l run = In run (used_runs l.stream.direct) ⊎ ((run ≡ l.stream.indirect) × (run.len ≢ 0)) ⊎ In run (used_runs l.table) ⊎ IsDoubleIn l run

-- the blocks of the direct and of the indirect level, and of all three
abbrev pub direct_count : Sizes → Levels → ℕ
direct_count s l = length (level_blocks s l.stream.direct)

abbrev pub indirect_count : Sizes → Levels → ℕ
indirect_count s l = length (level_blocks s l.table)

abbrev pub double_count : Sizes → Levels → ℕ
double_count s l = length (level_blocks s l.runs)

-- A run leaves the volume; a run of the double indirect level isn't as long as an array; a level is used where the one before
-- it isn't full; a range isn't the byte up to which its level reaches; the size is below 0, or above the bytes of all blocks.
pub data IsLevelFault (s : Sizes) (l : Levels) (found wanted : ℤ) : Type 0 where
  leaves : (run : Run) → IsUsedIn l run → LeavesBy s run found wanted → IsLevelFault s l found wanted
  wrong_length : (run : Run) → IsDoubleIn l run → found ≡ pos run.len → wanted ≡ pos (array_length s) → found ≢ wanted → IsLevelFault s l found wanted
  early_indirect : l.stream.indirect.len ≢ 0 → length (used_runs l.stream.direct) ≢ 12 → found ≡ pos l.stream.indirect.len → wanted ≡ pos 0 → IsLevelFault s l found wanted
  early_double : l.stream.double_indirect.len ≢ 0 → (length (used_runs l.table) ≡ 0) ⊎ (length (used_runs l.table) ≢ length l.table) → found ≡ pos l.stream.double_indirect.len → wanted ≡ pos 0 → IsLevelFault s l found wanted
  direct_range : found ≡ l.stream.max_direct_range → wanted ≡ pos (s.block_size * direct_count s l) → found ≢ wanted → IsLevelFault s l found wanted
  indirect_range : found ≡ l.stream.max_indirect_range → wanted ≡ pos (s.block_size * level_end (direct_count s l) (indirect_count s l)) → found ≢ wanted → IsLevelFault s l found wanted
  double_range : found ≡ l.stream.max_double_indirect_range → wanted ≡ pos (s.block_size * level_end (direct_count s l + indirect_count s l) (double_count s l)) → found ≢ wanted → IsLevelFault s l found wanted
  wrong_size : found ≡ l.stream.size → wanted ≡ pos (s.block_size * length (places_of s l)) → (found <ℤ pos 0) ⊎ (wanted <ℤ found) → IsLevelFault s l found wanted

-- The address of an attribute directory isn't that of an inode of the volume: it isn't one block long, has a group below 0,
-- begins past the end of its group, or names no block below num_blocks.
pub data IsAddressFault (s : Sizes) (run : Run) (found wanted : ℤ) : Type 0 where
  not_one : run.len ≢ 1 → found ≡ pos run.len → wanted ≡ pos 1 → IsAddressFault s run found wanted
  in_no_group : run.group <ℤ pos 0 → found ≡ run.group → wanted ≡ pos 0 → IsAddressFault s run found wanted
  past_group : s.group_blocks ≤ run.start → found ≡ pos run.start → wanted ≡ pos s.group_blocks → IsAddressFault s run found wanted
  past_end : s.blocks ≤ first_block s run → found ≡ pos (first_block s run) → wanted ≡ pos s.blocks → IsAddressFault s run found wanted

-- stream: of an inode that has a stream, or the address of a node's attribute directory, which isn't the zero run
pub data IsStreamFault (v : Volume) (owner : ℕ) (found wanted : ℤ) : Type 0 where
  of_levels : IsStreamed v owner → IsLevelFault (sizes v.geometry) (levels_at (sizes v.geometry) v.blocks owner) found wanted → IsStreamFault v owner found wanted
  of_address : IsReached v owner → is_zero (run_in (v.blocks owner) 52) ≡ false → IsAddressFault (sizes v.geometry) (run_in (v.blocks owner) 52) found wanted → IsStreamFault v owner found wanted
