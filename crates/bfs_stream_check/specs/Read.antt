-- What the parts of the reader answer.
use Rattle.std.specs.Prelude.{◌≡◌, ◌≢◌, ◌≤◌, ◌<ℤ◌, ◌≤ℤ◌, ◌⊎◌, ◌↔◌, IsTrue, ℕ, ℤ, pos, ◌+◌, ◌*◌, List, [], ◌∷◌, ◌++◌, length, ◌==◌, if◌then◌else◌, All, Bool, true, false}
use Rattle.bfs_bytes.specs.declared.Run.{Run}
use Rattle.bfs_super.specs.Conditions.{natural}
use Rattle.bfs_inode.specs.Inode.{Stream}
use Rattle.bfs_txn.specs.Faults.{Counts, IsCauseOf}
use Rattle.bfs_stream.specs.Sizes.{Sizes, IsInVolume, IsWhole, array_length}
use Rattle.bfs_stream.specs.Places.{Levels, used_runs, level_end}
use Rattle.bfs_sound.specs.Owners.{In}
use Rattle.bfs_finding.specs.StreamFaults.{LeavesBy, IsLevelFault}
use Rattle.bfs_stream_check.specs.declared.bounds.Bounds.{Bounds}
use Rattle.bfs_stream_check.specs.declared.stream.LevelRuns.{LevelRuns}
use Rattle.bfs_stream_check.specs.declared.fault.ReadFault.{ReadFault}
use Rattle.bfs_stream_check.specs.declared.fault.ReadFault.TheVariants.{Wrong, Block}

-- what a stream takes from its volume
abbrev pub sizes_in : Bounds → Sizes
sizes_in b = record { block_size = b.block_size; blocks = b.blocks; group_blocks = b.group_blocks }

-- a run that lies in the volume and, where that is asked, is as long as an array
pub record IsRunOf (s : Sizes) (whole : Bool) (run : Run) : Type 0 where
  pub inside : IsInVolume s run
  pub long : whole ≡ true → run.len ≡ array_length s

-- one that doesn't
abbrev pub IsRunFault : Sizes → Bool → Run → ℤ → ℤ → Type 0
IsRunFault s whole run found wanted = LeavesBy s run found wanted ⊎ ((whole ≡ true) × (found ≡ pos run.len) × (wanted ≡ pos (array_length s)) × (found ≢ wanted))

-- among these runs is a wrong one
abbrev pub IsRunsFault : Sizes → Bool → List Run → ReadFault → Type 0
IsRunsFault s whole runs (Wrong w) = (run : Run) × In run runs × IsRunFault s whole run w.found w.wanted
IsRunsFault s whole runs (Block fault) = Unit {0}

-- a value breaks the format of a stream with these levels
abbrev pub IsLevelsFault : Sizes → Levels → ReadFault → Type 0
IsLevelsFault s l (Wrong w) = IsLevelFault s l w.found w.wanted
IsLevelsFault s l (Block fault) = Unit {0}

-- a block that couldn't be had has its cause
abbrev pub IsReadCause : Counts → Counts → ReadFault → Type 0
IsReadCause old new (Wrong w) = Unit {0}
IsReadCause old new (Block fault) = IsCauseOf old new fault

-- the answer is of a block, and says nothing of the format
abbrev pub IsOfBlock : ReadFault → Type 0
IsOfBlock (Wrong w) = ⊥
IsOfBlock (Block fault) = Unit {0}

-- Of some runs those that are used were put behind what was there, and it is said whether all are.
pub record IsTaken (runs before after : List Run) (full : Bool) : Type 0 where
  pub items : after ≡ before ++ used_runs runs
  pub ends : IsTrue full ↔ (length (used_runs runs) ≡ length runs)

-- an array with runs behind it is used only where the level before it is full, and lies in the volume
abbrev pub IsArray : Sizes → Bool → Bool → Run → Type 0
IsArray s whole before array = (array.len ≡ 0) ⊎ (IsRunOf s whole array × IsTrue before)

-- each range is the byte up to which its level reaches, by how many blocks each level has, and the size is at most the last
pub record HasRanges (s : Sizes) (t : Stream) (direct indirect double : ℕ) : Type 0 where
  pub direct_range : t.max_direct_range ≡ pos (s.block_size * direct)
  pub indirect_range : t.max_indirect_range ≡ pos (s.block_size * level_end direct indirect)
  pub double_range : t.max_double_indirect_range ≡ pos (s.block_size * level_end (direct + indirect) double)
  pub size_low : pos 0 ≤ℤ t.size
  pub size_high : natural t.size ≤ s.block_size * (direct + indirect + double)

-- one of them isn't so
pub data IsRangeFault (s : Sizes) (t : Stream) (direct indirect double : ℕ) (found wanted : ℤ) : Type 0 where
  direct_range : found ≡ t.max_direct_range → wanted ≡ pos (s.block_size * direct) → found ≢ wanted → IsRangeFault s t direct indirect double found wanted
  indirect_range : found ≡ t.max_indirect_range → wanted ≡ pos (s.block_size * level_end direct indirect) → found ≢ wanted → IsRangeFault s t direct indirect double found wanted
  double_range : found ≡ t.max_double_indirect_range → wanted ≡ pos (s.block_size * level_end (direct + indirect) double) → found ≢ wanted → IsRangeFault s t direct indirect double found wanted
  wrong_size : found ≡ t.size → wanted ≡ pos (s.block_size * (direct + indirect + double)) → (found <ℤ pos 0) ⊎ (wanted <ℤ found) → IsRangeFault s t direct indirect double found wanted

-- the runs of each level were read
pub record AreRead (l : Levels) (r : LevelRuns) : Type 0 where
  pub direct : r.direct.items ≡ used_runs l.stream.direct
  pub indirect : r.indirect.items ≡ used_runs l.table
  pub arrays : r.arrays.items ≡ used_runs l.arrays
  pub double : r.double.items ≡ used_runs l.runs

-- they lie in the volume, and so do the arrays that the inode names
pub record AreRunsIn (s : Sizes) (t : Stream) (r : LevelRuns) : Type 0 where
  pub own : (t.indirect.len ≡ 0) ⊎ IsInVolume s t.indirect
  pub second : (t.double_indirect.len ≡ 0) ⊎ IsInVolume s t.double_indirect
  pub direct : All (IsInVolume s) r.direct.items
  pub indirect : All (IsInVolume s) r.indirect.items
  pub arrays : All (IsInVolume s) r.arrays.items
  pub double : All (IsInVolume s) r.double.items

-- a run, unless it has no blocks
abbrev pub own_run : Run → List Run
own_run run = if run.len == 0 then [] else run ∷ []
