-- What a stream takes from the superblock of its volume.
use Rattle.std.specs.Prelude.{◌≡◌, ◌<◌, ◌≤◌, ◌≤ℤ◌, ℕ, ◌+◌, ◌*◌, ◌/◌, pos, max}
use Rattle.bfs_bytes.specs.declared.Run.{Run}
use Rattle.bfs_super.specs.declared.sup.Super.{Super}
use Rattle.bfs_super.specs.Conditions.{natural, group_blocks}
use Rattle.bfs_super.specs.Geometry.{IsBlockSize}

-- the bytes of a block, and the blocks of the volume and of a whole group
pub record Sizes : Type 0 where
  pub block_size : ℕ
  pub blocks : ℕ
  pub group_blocks : ℕ

abbrev pub sizes_of : Super → Sizes
sizes_of s = record { block_size = s.block_size; blocks = natural s.num_blocks; group_blocks = group_blocks s }

-- sizes that a valid superblock may have
pub record HasSizes (s : Sizes) : Type 0 where
  pub block_size : IsBlockSize s.block_size
  pub few_blocks : s.blocks ≤ 4194304
  pub some_group : 0 < s.group_blocks
  pub few_group : s.group_blocks ≤ 65536

-- a stream: the number of its inode, and the sizes of its volume
pub record Origin : Type 0 where
  pub id : ℕ
  pub sizes : Sizes

-- the runs that stand in a block of an array
abbrev pub runs_per_block : Sizes → ℕ
runs_per_block s = s.block_size / 8

-- the blocks of an array that is written, and of each run under double indirect
abbrev pub array_length : Sizes → ℕ
array_length s = max 1 (4096 / s.block_size)

-- the runs that an array has room for
abbrev pub table_length : Sizes → ℕ
table_length s = array_length s * runs_per_block s

-- the first block of a run
abbrev pub first_block : Sizes → Run → ℕ
first_block s run = natural run.group * s.group_blocks + run.start

-- a run that lies in one group of the volume
pub record IsInVolume (s : Sizes) (run : Run) : Type 0 where
  pub group : pos 0 ≤ℤ run.group
  pub one_group : run.start + run.len ≤ s.group_blocks
  pub inside : first_block s run + run.len ≤ s.blocks

-- a run in the volume that is as long as an array
pub record IsWhole (s : Sizes) (run : Run) : Type 0 where
  pub inside : IsInVolume s run
  pub long : run.len ≡ array_length s
