-- What a superblock has to meet, in the order in which it is tested, and the first refusal.
use Rattle.std.specs.Prelude.{◌≡◌, ◌⊎◌, ◌<◌, ◌≤◌, ◌≤ℤ◌, ◌<ℤ◌, ℕ, ℤ, pos, negsuc, ◌+◌, ◌-◌, ◌*◌, ◌/◌, ◌^◌}
use Rattle.std.specs.Int.{w32, cast_signed}
use Rattle.bfs_bytes.specs.declared.Run.{Run}
use Rattle.bfs_super.specs.declared.sup.Super.{Super}
use Rattle.bfs_super.specs.declared.fault.SuperFault.{SuperFault}
use Rattle.bfs_super.specs.declared.fault.SuperFault.TheVariants as faults

-- a number that isn't negative
abbrev pub natural : ℤ → ℕ
natural (pos n) = n
natural (negsuc n) = 0

-- a / b, rounded up
abbrev pub ceil : ℕ → ℕ → ℕ
ceil a b = (a + (b - 1)) / b

-- the zero run, whose eight bytes are zero
abbrev pub IsZeroRun : Run → Type 0
IsZeroRun run = (run.group ≡ pos 0) × (run.start ≡ 0) × (run.len ≡ 0)

module _ (s : Super) where
  abbrev pub group_blocks : ℕ
  group_blocks = 2 ^ natural s.ag_shift

  abbrev pub bitmap_blocks : ℕ
  bitmap_blocks = ceil (natural s.num_blocks) (s.block_size * 8)

  abbrev pub block_of_run : Run → ℕ
  block_of_run run = natural run.group * group_blocks + run.start

  abbrev pub HasMagic1 : Type 0
  HasMagic1 = s.magic1 ≡ cast_signed w32 0x42465331

  abbrev pub HasMagic2 : Type 0
  HasMagic2 = s.magic2 ≡ cast_signed w32 0xdd121031

  abbrev pub HasMagic3 : Type 0
  HasMagic3 = s.magic3 ≡ cast_signed w32 0x15b6830e

  abbrev pub HasOrder : Type 0
  HasOrder = s.fs_byte_order ≡ cast_signed w32 0x42494745

  abbrev pub HasBlockSize : Type 0
  HasBlockSize = (10 ≤ s.block_shift) × (s.block_shift ≤ 13) × (s.block_size ≡ 2 ^ s.block_shift)

  abbrev pub HasInodeSize : Type 0
  HasInodeSize = s.inode_size ≡ pos s.block_size

  abbrev pub HasLength : Type 0
  HasLength = (pos 1 ≤ℤ s.num_blocks) × (s.num_blocks ≤ℤ pos 4194304)

  abbrev pub HasRanges : Type 0
  HasRanges = (pos 1 ≤ℤ s.blocks_per_ag) × (pos 0 ≤ℤ s.ag_shift) × (s.ag_shift ≤ℤ pos 16)

  abbrev pub HasGroups : Type 0
  HasGroups = HasRanges × (group_blocks ≡ natural s.blocks_per_ag * (s.block_size * 8)) × (s.num_ags ≡ pos (ceil (natural s.num_blocks) group_blocks))

  abbrev pub InGroups : Run → Type 0
  InGroups run = (pos 0 ≤ℤ run.group) × (run.group <ℤ s.num_ags)

  abbrev pub HasLog : Type 0
  HasLog = InGroups s.log_blocks × (s.log_blocks.start + s.log_blocks.len ≤ group_blocks) × (2 ≤ s.log_blocks.len)
      × (bitmap_blocks < block_of_run s.log_blocks) × (block_of_run s.log_blocks + s.log_blocks.len ≤ natural s.num_blocks)

  abbrev pub InLog : ℤ → Type 0
  InLog place = (pos 0 ≤ℤ place) × (place <ℤ pos s.log_blocks.len)

  -- an inode's block, behind the bitmap and outside the log
  abbrev pub IsInodeRun : Run → Type 0
  IsInodeRun run = InGroups run × (run.len ≡ 1) × (bitmap_blocks < block_of_run run) × (block_of_run run < natural s.num_blocks)
      × ((block_of_run run < block_of_run s.log_blocks) ⊎ (block_of_run s.log_blocks + s.log_blocks.len ≤ block_of_run run))

  -- the index directory's inode is a block of its own, or the run is zero and the volume has no index directory
  abbrev pub HasIndices : Type 0
  HasIndices = IsZeroRun s.indices ⊎ (IsInodeRun s.indices × (block_of_run s.indices ≡ block_of_run s.root_dir → ⊥))

-- all ten conditions
pub record IsValid (s : Super) : Type 0 where
  pub magic1 : HasMagic1 s
  pub magic2 : HasMagic2 s
  pub magic3 : HasMagic3 s
  pub order : HasOrder s
  pub block_size : HasBlockSize s
  pub inode_size : HasInodeSize s
  pub length : HasLength s
  pub groups : HasGroups s
  pub log : HasLog s
  pub log_start : InLog s s.log_start
  pub log_end : InLog s s.log_end
  pub root : IsInodeRun s s.root_dir
  pub indices : HasIndices s

-- the conditions up to each refusal
abbrev pub UpToMagic : Super → Type 0
UpToMagic s = HasMagic1 s × HasMagic2 s × HasMagic3 s

abbrev pub UpToOrder : Super → Type 0
UpToOrder s = UpToMagic s × HasOrder s

abbrev pub UpToBlockSize : Super → Type 0
UpToBlockSize s = UpToOrder s × HasBlockSize s

abbrev pub UpToInodeSize : Super → Type 0
UpToInodeSize s = UpToBlockSize s × HasInodeSize s

abbrev pub UpToLength : Super → Type 0
UpToLength s = UpToInodeSize s × HasLength s

abbrev pub UpToGroups : Super → Type 0
UpToGroups s = UpToLength s × HasGroups s

abbrev pub UpToLog : Super → Type 0
UpToLog s = UpToGroups s × HasLog s

abbrev pub UpToPlace : Super → Type 0
UpToPlace s = UpToLog s × InLog s s.log_start × InLog s s.log_end

abbrev pub UpToRoot : Super → Type 0
UpToRoot s = UpToPlace s × IsInodeRun s s.root_dir

-- the refusal is the first in order: what stands before it holds, and its own condition doesn't
abbrev pub IsRefusal : Super → SuperFault → Type 0
IsRefusal s (faults.Magic which found) =
    ((which ≡ 1) × ¬ HasMagic1 s × (found ≡ s.magic1))
    ⊎ ((which ≡ 2) × HasMagic1 s × ¬ HasMagic2 s × (found ≡ s.magic2))
    ⊎ ((which ≡ 3) × HasMagic1 s × HasMagic2 s × ¬ HasMagic3 s × (found ≡ s.magic3))
IsRefusal s (faults.ByteOrder found) = UpToMagic s × ¬ HasOrder s × (found ≡ s.fs_byte_order)
IsRefusal s (faults.BlockSize size shift) = UpToOrder s × ¬ HasBlockSize s × (size ≡ s.block_size) × (shift ≡ s.block_shift)
IsRefusal s (faults.InodeSize found) = UpToBlockSize s × ¬ HasInodeSize s × (found ≡ s.inode_size)
IsRefusal s (faults.Length blocks) = UpToInodeSize s × ¬ HasLength s × (blocks ≡ s.num_blocks)
IsRefusal s (faults.Groups per_group shift groups) = UpToLength s × ¬ HasGroups s × (per_group ≡ s.blocks_per_ag) × (shift ≡ s.ag_shift) × (groups ≡ s.num_ags)
IsRefusal s (faults.LogRun run) = UpToGroups s × ¬ HasLog s × (run ≡ s.log_blocks)
IsRefusal s (faults.LogPlace start end) = UpToLog s × ¬ (InLog s s.log_start × InLog s s.log_end) × (start ≡ s.log_start) × (end ≡ s.log_end)
IsRefusal s (faults.RootRun run) = UpToPlace s × ¬ IsInodeRun s s.root_dir × (run ≡ s.root_dir)
IsRefusal s (faults.IndexRun run) = UpToRoot s × ¬ HasIndices s × (run ≡ s.indices)
