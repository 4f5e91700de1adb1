-- How a new volume is laid out, by its number of blocks and their size.
use Rattle.std.specs.Prelude.{◌≡◌, ◌⊎◌, ◌<◌, ◌≤◌, ℕ, pos, ◌+◌, ◌*◌, ◌^◌, nat_le, if◌then◌else◌}
use Rattle.bfs_super.specs.Conditions.{natural, ceil, block_of_run}
use Rattle.bfs_super.specs.declared.sup.Super.{Super}
use Rattle.bfs_super.specs.declared.geometry.Geometry.{Geometry}

-- a block has 1024, 2048, 4096 or 8192 bytes
abbrev pub IsBlockSize : ℕ → Type 0
IsBlockSize size = (size ≡ 1024) ⊎ (size ≡ 2048) ⊎ (size ≡ 4096) ⊎ (size ≡ 8192)

-- The first shift from `first` on at which there are at most 56 groups of 2 ^ shift blocks, but at most 16.
pub record IsShift (blocks first shift : ℕ) : Type 0 where
  pub from : first ≤ shift
  pub last : shift ≤ 16
  pub enough : (ceil blocks (2 ^ shift) ≤ 56) ⊎ (shift ≡ 16)
  pub none_before : (s : ℕ) → first ≤ s → s < shift → 56 < ceil blocks (2 ^ s)

-- the blocks of the log
abbrev pub log_length : ℕ → ℕ
log_length blocks = if nat_le blocks 20480 then 512 else 2048

-- the blocks of the bitmap
abbrev pub bitmap_length : ℕ → ℕ → ℕ
bitmap_length blocks block_size = ceil blocks (block_size * 8)

-- an inode and the two pages of its tree
abbrev pub tree_length : ℕ → ℕ
tree_length block_size = 1 + ceil 2048 block_size

-- The superblock, the bitmap, the log, and five trees: the least number of blocks, and those in use on a new volume.
abbrev pub least_blocks : ℕ → ℕ → ℕ → ℕ
least_blocks blocks block_size log = 1 + bitmap_length blocks block_size + log + 5 * tree_length block_size

-- A new volume's geometry. The log follows the bitmap, the root directory the log, the indices the root directory.
pub record IsPlan (n size length : ℕ) (g : Geometry) : Type 0 where
  pub block_size : g.block_size ≡ size
  pub blocks : g.blocks ≡ n
  pub shift : (first : ℕ) × (2 ^ first ≡ size * 8) × IsShift n first g.shift
  pub per_group : 2 ^ g.shift ≡ g.per_group * (size * 8)
  pub groups : g.groups ≡ ceil n (2 ^ g.shift)
  pub log : g.log ≡ record { group = pos 0; start = 1 + bitmap_length n size; len = length }
  pub root : g.root ≡ 1 + bitmap_length n size + length
  pub indices : g.indices ≡ g.root + tree_length size
  pub used : g.used ≡ least_blocks n size length
  pub room : g.used ≤ n

-- the geometry of a superblock
abbrev pub geometry_of : Super → Geometry
geometry_of s = record {
  block_size = s.block_size;
  blocks = natural s.num_blocks;
  per_group = natural s.blocks_per_ag;
  shift = natural s.ag_shift;
  groups = natural s.num_ags;
  log = s.log_blocks;
  root = block_of_run s s.root_dir;
  indices = block_of_run s s.indices;
  used = natural s.used_blocks;
}
