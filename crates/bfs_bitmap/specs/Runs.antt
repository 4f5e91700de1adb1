-- Free space: which blocks a bitmap marks as used, which are reserved, and free runs.
use Rattle.std.specs.Prelude.{◌≡◌, ◌≤◌, ◌<◌, ◌⊎◌, ℕ, zero, suc, ◌+◌, ◌-◌, ◌*◌, ◌/◌, ◌%◌, pos, ◌≤ℤ◌, List, [], ◌∷◌, length, Bool, true, false, not, ◌==◌, ◌&&◌, ◌||◌, nat_lt, if◌then◌else◌, Option, Some, None, unwrap_or, filter, slice_index_or}
use Rattle.bfs_super.specs.Run.{Run}
use Rattle.bfs_super.specs.Conditions.{natural}
use Rattle.bfs_bitmap.specs.Bits.{bit_of, in_run, is_clear}
use Rattle.bfs_bitmap.specs.declared.given.Given.{Given}
use Rattle.bfs_bitmap.specs.declared.tally.Tally.{Tally}
use Rattle.bfs_bitmap.specs.Tallies.{IsWithin}
use Rattle.bfs_bitmap.specs.declared.fault.RunFault.{RunFault}
use Rattle.bfs_bitmap.specs.declared.fault.RunFault.TheVariants.{NoRun, Block}
use Rattle.bfs_txn.specs.Faults.{Counts, IsCauseOf}

-- What a bitmap knows beside the bits on the disk: sizes; the runs that were given back; the last number of a group;
-- and how many blocks are used and where searches may begin, now and when a call was last kept or dropped.
pub record Room : Type 0 where
  pub block_size : ℕ
  pub blocks : ℕ
  pub group_blocks : ℕ
  pub given : List Given
  pub last : ℕ
  pub tally : Tally
  pub tally_kept : Tally

-- the bits in a block
abbrev pub per_block : Room → ℕ
per_block v = 8 * v.block_size

-- the bit of a block: bitmap block 1 + k / bits has it at k mod bits
abbrev pub marked : ℕ → (ℕ → Option (List ℕ)) → ℕ → ℕ
marked bits m k = bit_of (unwrap_or (m (1 + k / bits)) []) (k % bits)

-- is the block in a run that was given back and isn't free yet?
abbrev pub is_reserved : List Given → ℕ → Bool
is_reserved [] k = false
is_reserved (g ∷ gs) k = in_run g.first g.len k || is_reserved gs k

-- is the block neither used nor reserved?
abbrev pub is_free : Room → (ℕ → Option (List ℕ)) → ℕ → Bool
is_free v m k = nat_lt k v.blocks && ((marked (per_block v) m k == 0) && not (is_reserved v.given k))

-- a run of free blocks in one group
pub record IsFreeRun (v : Room) (m : ℕ → Option (List ℕ)) (first len : ℕ) : Type 0 where
  pub one_group : first % v.group_blocks + len ≤ v.group_blocks
  pub free : (k : ℕ) → first ≤ k → k < first + len → is_free v m k ≡ true

-- the free blocks below a number
abbrev pub free_count : Room → (ℕ → Option (List ℕ)) → ℕ → ℕ
free_count v m zero = 0
free_count v m (suc k) = (if is_free v m k then 1 else 0) + free_count v m k

-- the used blocks below a number
abbrev pub marked_count : Room → (ℕ → Option (List ℕ)) → ℕ → ℕ
marked_count v m zero = 0
marked_count v m (suc k) = (if marked (per_block v) m k == 0 then 0 else 1) + marked_count v m k

-- the number of used blocks that is kept is that of the bitmap
abbrev pub IsCounted : Room → (ℕ → Option (List ℕ)) → Type 0
IsCounted v m = v.tally.used ≡ marked_count v m v.blocks

-- each block of a run is used
abbrev pub AreUsed : Room → (ℕ → Option (List ℕ)) → ℕ → ℕ → Type 0
AreUsed v m first len = (k : ℕ) → first ≤ k → k < first + len → marked (per_block v) m k ≡ 1

-- each block of the bitmap is told
pub record HasBitmap (v : Room) (m : ℕ → Option (List ℕ)) : Type 0 where
  pub told : (j : ℕ) → per_block v * j < v.blocks → (bytes : List ℕ) × (m (1 + j) ≡ Some bytes) × (length bytes ≡ v.block_size)

-- no free run of so many blocks begins below a place
abbrev pub NoRunBelow : Room → (ℕ → Option (List ℕ)) → ℕ → ℕ → Type 0
NoRunBelow v m wanted at = (g : ℕ) → g < at → ¬ IsFreeRun v m g wanted

-- the bitmap is told, below its lowest block nothing is free, and no wide run begins below the place for one
pub record Fits (v : Room) (m : ℕ → Option (List ℕ)) : Type 0 where
  pub has : HasBitmap v m
  pub nothing_below : (k : ℕ) → k < v.tally.low → is_free v m k ≡ false
  pub no_wide : NoRunBelow v m v.tally.wide v.tally.wide_low

-- the first block of a run
abbrev pub first_of : Room → Run → ℕ
first_of v run = natural run.group * v.group_blocks + run.start

-- a run that lies in one group of the volume
pub record IsInside (v : Room) (run : Run) : Type 0 where
  pub group : pos 0 ≤ℤ run.group
  pub one_group : run.start + run.len ≤ v.group_blocks
  pub inside : first_of v run + run.len ≤ v.blocks

-- the bits of a run are so, and nothing else changes
pub record Marks (v : Room) (first len bit : ℕ) (old new : ℕ → Option (List ℕ)) : Type 0 where
  pub marks : (k : ℕ) → k < v.blocks → marked (per_block v) new k ≡ (if in_run first len k then bit else marked (per_block v) old k)
  pub past : (k : ℕ) → v.blocks ≤ k → marked (per_block v) new k ≡ marked (per_block v) old k
  pub others : (b : ℕ) → (b ≡ 0) ⊎ (v.blocks ≤ per_block v * (b - 1)) → new b ≡ old b
  pub has : HasBitmap v new

abbrev pub none_given : Given
none_given = record { first = 0; len = 0; group = None; kept = false }

-- runs of calls that were kept stand before those of the call that goes on
abbrev pub AreKeptFirst : List Given → Type 0
AreKeptFirst gs = (i j : ℕ) → i ≤ j → j < length gs → (slice_index_or gs j none_given).kept ≡ true → (slice_index_or gs i none_given).kept ≡ true

-- the sizes of a valid superblock, runs inside the volume, no group's number above the last, and kept runs first
pub record HasSizes (v : Room) : Type 0 where
  pub some_bytes : 0 < v.block_size
  pub few_bytes : v.block_size ≤ 8192
  pub few_blocks : v.blocks ≤ 4194304
  pub some_group : 0 < v.group_blocks
  pub few_group : v.group_blocks ≤ 65536
  pub tally : IsWithin v.blocks v.tally
  pub tally_kept : IsWithin v.blocks v.tally_kept
  pub given : (i : ℕ) → i < length v.given → (slice_index_or v.given i none_given).first + (slice_index_or v.given i none_given).len ≤ v.blocks
  pub closed : (i : ℕ) → i < length v.given → unwrap_or (slice_index_or v.given i none_given).group 0 ≤ v.last
  pub kept : AreKeptFirst v.given

-- the bytes show which blocks of one bitmap block are free
abbrev pub Shows : Room → (ℕ → Option (List ℕ)) → ℕ → List ℕ → Type 0
Shows v m j bytes = (i : ℕ) → i < per_block v → is_clear bytes i ≡ is_free v m (per_block v * j + i)

-- between two places the first block that is free, or that isn't
pub record IsNext (v : Room) (m : ℕ → Option (List ℕ)) (from to : ℕ) (clear : Bool) (at : ℕ) : Type 0 where
  pub before : (k : ℕ) → from ≤ k → k < at → is_free v m k ≡ not clear
  pub here : at < to → is_free v m at ≡ clear

-- what a bitmap is once the call is given up: runs given back and what is known of the free space are as before it
abbrev pub as_kept : Room → Room
as_kept v = record v { given = filter (λ g. g.kept) v.given; tally = v.tally_kept }

-- no run was given back, and no block taken, since a call was last kept or dropped
abbrev pub IsSettled : Room → Type 0
IsSettled v = as_kept v ≡ v

-- The run that was taken: the free run with the lowest first block among those of at least `wanted` blocks, all of it
-- or as many as `longest` of its blocks. Its bits are set.
pub record IsTaken (v : Room) (m : ℕ → Option (List ℕ)) (wanted longest first len : ℕ) : Type 0 where
  pub free : IsFreeRun v m first len
  pub lowest : NoRunBelow v m wanted first
  pub whole : (len ≡ longest) ⊎ (¬ IsFreeRun v m first (len + 1))

-- no free run of so many blocks is there, and so many blocks are free
pub record HasNoRun (v : Room) (m : ℕ → Option (List ℕ)) (wanted free : ℕ) : Type 0 where
  pub none : (g : ℕ) → ¬ IsFreeRun v m g wanted
  pub count : free ≡ free_count v m v.blocks

-- the told map after a run was marked, with what the bitmap then keeps
pub record IsMarked (v new : Room) (first len bit : ℕ) (m : ℕ → Option (List ℕ)) (told : Option (ℕ → Option (List ℕ))) : Type 0 where
  pub map : ℕ → Option (List ℕ)
  pub is : told ≡ Some map
  pub marks : Marks v first len bit m map
  pub fits : Fits new map

-- so many blocks fewer are free
abbrev pub LosesFree : Room → Room → ℕ → (ℕ → Option (List ℕ)) → (ℕ → Option (List ℕ)) → Type 0
LosesFree v now len m map = free_count now map v.blocks + len ≡ free_count v m v.blocks

-- runs of so many blocks, one behind another from a place on
abbrev pub AreFrom : ℕ → ℕ → List ℕ → Type 0
AreFrom len from [] = Unit {0}
AreFrom len from (g ∷ gs) = (from ≤ g) × AreFrom len (g + len) gs

-- why no run was taken: there is none, or a block of the bitmap could not be had
abbrev pub IsNoRun : Room → (ℕ → Option (List ℕ)) → ℕ → RunFault → Type 0
IsNoRun v m wanted (NoRun asked free) = (asked ≡ wanted) × HasNoRun v m wanted free
IsNoRun v m wanted (Block fault) = Unit {0}

abbrev pub IsRunCause : Counts → Counts → RunFault → Type 0
IsRunCause old new (NoRun asked free) = Unit {0}
IsRunCause old new (Block fault) = IsCauseOf old new fault
