-- What looks through tables of runs answer.
use Rattle.std.specs.List.{flat_map}
use Rattle.std.specs.Prelude.{◌≡◌, ◌<◌, ◌≤◌, ◌⊎◌, ℕ, ◌+◌, ◌-◌, ◌*◌, ◌/◌, ◌%◌, List, ◌++◌, length, take, Option, Some, None, slice_get, max, All}
use Rattle.bfs_bytes.specs.declared.Run.{Run}
use Rattle.bfs_bytes.specs.Fields.{run_in}
use Rattle.bfs_txn.specs.declared.fault.BlockFault.{BlockFault}
use Rattle.bfs_txn.specs.declared.fault.BlockFault.TheVariants.{Disk, Stopped, Damaged, NoMemory}
use Rattle.bfs_super.specs.Conditions.{natural}
use Rattle.bfs_inode.specs.Inode.{Stream, stream_at, runs_in}
use Rattle.bfs_stream.specs.Sizes.{Sizes, IsInVolume, IsWhole, runs_per_block, array_length, table_length, first_block}
use Rattle.bfs_stream.specs.Places.{used_runs, run_blocks, blocks_of, array_runs}
use Rattle.bfs_stream.specs.Told.{contents, AreTold}
use Rattle.bfs_stream.specs.declared.lookup.Ends.{Ends}
use Rattle.bfs_stream.specs.declared.scan.Scan.{Scan}
use Rattle.bfs_stream.specs.declared.scan.Scan.TheVariants.{Found, Past, Broken}

-- the block at a place of a level with these runs
abbrev pub block_in : Sizes → List Run → ℕ → Option ℕ
block_in s runs i = slice_get (blocks_of s (used_runs runs)) i

-- A scan of runs, behind which more may follow: the block is found; or all of them are used, and it lies behind them, so
-- many blocks on; or the runs end before it, or one of them leaves the volume.
abbrev pub IsScan : Sizes → List Run → ℕ → Scan → Type 0
IsScan s runs i (Found block) = (more : List Run) → block_in s (runs ++ more) i ≡ Some block
IsScan s runs i (Past n) = (more : List Run) → (used_runs (runs ++ more) ≡ runs ++ used_runs more) × (block_in s (runs ++ more) i ≡ block_in s more n)
IsScan s runs i Broken = (more : List Run) → All (IsInVolume s) (used_runs (runs ++ more)) → block_in s (runs ++ more) i ≡ None

-- a block that was found lies in the volume
abbrev pub IsBelow : Sizes → Scan → Type 0
IsBelow s (Found block) = block < s.blocks
IsBelow s (Past n) = Unit {0}
IsBelow s Broken = Unit {0}

-- the fault says that a block is damaged
abbrev pub IsDamage : BlockFault → Type 0
IsDamage (Disk before after) = ⊥
IsDamage (Stopped durable faults) = ⊥
IsDamage (Damaged block) = Unit {0}
IsDamage NoMemory = ⊥

-- the runs that stand in the bytes of a block of an array
abbrev pub runs_of : Sizes → List ℕ → List Run
runs_of s bytes = runs_in (runs_per_block s) bytes 0

-- each of these runs has blocks, and behind the blocks of them all a place has so many to go
pub record IsPast (s : Sizes) (runs : List Run) (place left : ℕ) : Type 0 where
  pub used : used_runs runs ≡ runs
  pub behind : length (blocks_of s runs) + left ≡ place

-- each of the four runs that stand behind a byte has blocks, and they have so many in all
pub record AreFour (bytes : List ℕ) (at n : ℕ) : Type 0 where
  pub first : 0 < (run_in bytes at).len
  pub second : 0 < (run_in bytes (at + 8)).len
  pub third : 0 < (run_in bytes (at + 16)).len
  pub fourth : 0 < (run_in bytes (at + 24)).len
  pub all : n ≡ (run_in bytes at).len + (run_in bytes (at + 8)).len + (run_in bytes (at + 16)).len + (run_in bytes (at + 24)).len

-- a run ends its level: it has no blocks
abbrev pub IsShort : Run → Type 0
IsShort run = run.len ≡ 0

-- a run has the block that is so many to go, and leaves the volume
abbrev pub IsBroken : Sizes → Run → ℕ → Type 0
IsBroken s run left = (left < run.len) × (¬ IsInVolume s run)

-- A look for a place among runs stops at this one of them: those before it have blocks, all before the place, and it has
-- none, or has the place and leaves the volume.
pub record IsStop (s : Sizes) (runs : List Run) (place i : ℕ) : Type 0 where
  pub run : Run
  pub left : ℕ
  pub is : slice_get runs i ≡ Some run
  pub past : IsPast s (take i runs) place left
  pub bad : IsShort run ⊎ IsBroken s run left

-- how a scan of runs ends without a block: past them all, with so many to go; or at one of them
abbrev pub HasStopped : Sizes → List Run → ℕ → Scan → Type 0
HasStopped s runs place (Found block) = Unit {0}
HasStopped s runs place (Past n) = IsPast s runs place n
HasStopped s runs place Broken = (i : ℕ) × IsStop s runs place i

-- what a damaged block has to be, said of a fault
abbrev pub IfDamaged : (ℕ → Type 0) → BlockFault → Type 0
IfDamaged P (Disk before after) = Unit {0}
IfDamaged P (Stopped durable faults) = Unit {0}
IfDamaged P (Damaged block) = P block
IfDamaged P NoMemory = Unit {0}

-- up to which block each level reaches, by its range
abbrev pub ends_of : Sizes → Stream → Ends
ends_of s t = record {
  direct = natural t.max_direct_range / s.block_size;
  indirect = natural t.max_indirect_range / s.block_size;
  double = natural t.max_double_indirect_range / s.block_size;
}

-- up to which block the stream reaches
abbrev pub last_end : Ends → ℕ
last_end ends = max (max ends.direct ends.indirect) ends.double

-- the ranges of a stream say that the direct level has a place
abbrev pub IsInDirect : Sizes → Stream → ℕ → Type 0
IsInDirect s t place = place < (ends_of s t).direct

-- the same of the indirect level: the direct one ends before the place
pub record IsInIndirect (s : Sizes) (t : Stream) (place : ℕ) : Type 0 where
  pub low : (ends_of s t).direct ≤ place
  pub high : place < (ends_of s t).indirect

-- the same of the double indirect level: the two others end before the place
pub record IsInDouble (s : Sizes) (t : Stream) (place : ℕ) : Type 0 where
  pub low : (ends_of s t).direct ≤ place
  pub middle : (ends_of s t).indirect ≤ place
  pub high : place < (ends_of s t).double

-- Runs have no block at a place that they should have: they end before it, or the look for it stops at one of them.
abbrev pub HasEnded : Sizes → List Run → ℕ → Type 0
HasEnded s runs place = ((left : ℕ) × IsPast s runs place left) ⊎ ((i : ℕ) × IsStop s runs place i)

-- at a place of the double indirect level, whose runs have the length of an array each: which run of its array leads there
abbrev pub first_at : Sizes → ℕ → ℕ
first_at s place = place / array_length s / table_length s

-- and which run of the array that this run is
abbrev pub second_at : Sizes → ℕ → ℕ
second_at s place = (place / array_length s) % table_length s

-- so far on in the double indirect level no array reaches
abbrev pub IsUnreached : Sizes → ℕ → Type 0
IsUnreached s place = table_length s ≤ first_at s place

-- The fields of a stream break the format where its ranges have a place: its direct runs have no block there; or the
-- indirect array isn't in the volume; or the double indirect one isn't a whole one, or doesn't reach so far.
abbrev pub IsAstray : Sizes → Stream → ℕ → Type 0
IsAstray s t place = (IsInDirect s t place × HasEnded s t.direct place) ⊎ ((IsInIndirect s t place × (¬ IsInVolume s t.indirect)) ⊎ (IsInDouble s t place × ((¬ IsWhole s t.double_indirect) ⊎ IsUnreached s (place - (ends_of s t).indirect))))

-- the runs of the first blocks of an array, so many
abbrev pub runs_before : Sizes → (ℕ → List ℕ) → Run → ℕ → List Run
runs_before s blocks array n = flat_map (λ b. runs_in (runs_per_block s) (blocks b) 0) (take n (run_blocks s array))

-- as many runs as stand in so many blocks of an array all lie before a place, which has so many to go behind them
pub record IsBehind (s : Sizes) (place n : ℕ) : Type 0 where
  pub before : List Run
  pub long : length before ≡ runs_per_block s * n
  pub left : ℕ
  pub past : IsPast s before place left

-- the same, and where the array is told they are its own
pub record HasPassed (s : Sizes) (m : ℕ → Option (List ℕ)) (array : Run) (place n : ℕ) : Type 0 where
  pub behind : IsBehind s place n
  pub own : AreTold m (run_blocks s array) → behind.before ≡ runs_before s (contents m) array n

-- A block of an array is damaged at a place of its level: the runs of the array's blocks before it all lie before the
-- place, and the look for what is left stops at a run in its own bytes.
pub record IsArrayBlamed (s : Sizes) (array : Run) (place block : ℕ) (bytes : List ℕ) : Type 0 where
  pub at : ℕ
  pub inside : at < array.len
  pub is : block ≡ first_block s array + at
  pub behind : IsBehind s place at
  pub stop : (i : ℕ) × IsStop s (runs_of s bytes) behind.left i

-- the same by what is told of the blocks
pub record IsArrayDamaged (s : Sizes) (m : ℕ → Option (List ℕ)) (array : Run) (place block : ℕ) : Type 0 where
  pub at : ℕ
  pub inside : at < array.len
  pub is : block ≡ first_block s array + at
  pub passed : HasPassed s m array place at
  pub stop : (bytes : List ℕ) → m block ≡ Some bytes → (i : ℕ) × IsStop s (runs_of s bytes) passed.behind.left i

-- Who is damaged where an array has no block at a place: the inode, where the array ends before it, or a block of the
-- array.
abbrev pub IsLevelDamaged : Sizes → (ℕ → Option (List ℕ)) → ℕ → Run → ℕ → ℕ → Type 0
IsLevelDamaged s m id array place block = ((block ≡ id) × HasPassed s m array place array.len) ⊎ IsArrayDamaged s m array place block

-- The same by the bytes of the block alone. Where an array ends before the place, the inode is read again, and its runs aren't
-- at hand any more: of the bytes of the inode nothing is said then, only that some runs, as many as the array has room for,
-- all lie before the place.
abbrev pub IsLevelBlamed : Sizes → ℕ → Run → ℕ → ℕ → List ℕ → Type 0
IsLevelBlamed s id array place block bytes = ((block ≡ id) × IsBehind s place array.len) ⊎ IsArrayBlamed s array place block bytes

-- the block of an array that has the run at this place, which isn't a whole one
pub record IsTableBlamed (s : Sizes) (array : Run) (i block : ℕ) (bytes : List ℕ) : Type 0 where
  pub is : block ≡ first_block s array + i / runs_per_block s
  pub bad : ¬ IsWhole s (run_in bytes (8 * (i % runs_per_block s)))

-- the same by what is told of the block
pub record IsTableDamaged (s : Sizes) (m : ℕ → Option (List ℕ)) (array : Run) (i block : ℕ) : Type 0 where
  pub is : block ≡ first_block s array + i / runs_per_block s
  pub bad : (bytes : List ℕ) → m block ≡ Some bytes → ¬ IsWhole s (run_in bytes (8 * (i % runs_per_block s)))

-- the run at a place of an array, by what is told of it
abbrev pub IsTableAt : Sizes → (ℕ → Option (List ℕ)) → Run → ℕ → Run → Type 0
IsTableAt s m array i table = AreTold m (run_blocks s array) → slice_get (array_runs s (contents m) array) i ≡ Some table

-- Who is damaged at a place of the double indirect level: a block of its array, or one of the array to which that leads.
abbrev pub IsDoubleDamaged : Sizes → (ℕ → Option (List ℕ)) → Run → ℕ → ℕ → Type 0
IsDoubleDamaged s m array place block = IsTableDamaged s m array (first_at s place) block ⊎ ((table : Run) × IsWhole s table × IsTableAt s m array (first_at s place) table × IsTableDamaged s m table (second_at s place) block)

-- The same by the bytes of the block alone: the second array is some whole one.
abbrev pub IsDoubleBlamed : Sizes → Run → ℕ → ℕ → List ℕ → Type 0
IsDoubleBlamed s array place block bytes = IsTableBlamed s array (first_at s place) block bytes ⊎ ((table : Run) × IsWhole s table × IsTableBlamed s table (second_at s place) block bytes)

-- A damaged block, where these are the fields in the inode: it is the inode, whose fields break the format at the place; or
-- its indirect level has the place and an array in the volume, and that is damaged there; or so its double indirect one.
abbrev pub IsDamagedBy : Sizes → (ℕ → Option (List ℕ)) → ℕ → Stream → ℕ → BlockFault → Type 0
IsDamagedBy s m id t place = IfDamaged (λ block.
    ((block ≡ id) × IsAstray s t place)
    ⊎ ((IsInIndirect s t place × IsInVolume s t.indirect × IsLevelDamaged s m id t.indirect (place - (ends_of s t).direct) block)
    ⊎ (IsInDouble s t place × IsWhole s t.double_indirect × (¬ IsUnreached s (place - (ends_of s t).indirect)) × IsDoubleDamaged s m t.double_indirect (place - (ends_of s t).indirect) block)))

-- the same by the bytes of a block just read, but for the fields in the inode
abbrev pub IsBlamedIn : Sizes → ℕ → Stream → ℕ → ℕ → List ℕ → Type 0
IsBlamedIn s id t place block bytes =
    (IsInIndirect s t place × IsInVolume s t.indirect × IsLevelBlamed s id t.indirect (place - (ends_of s t).direct) block bytes)
    ⊎ (IsInDouble s t place × IsWhole s t.double_indirect × (¬ IsUnreached s (place - (ends_of s t).indirect)) × IsDoubleBlamed s t.double_indirect (place - (ends_of s t).indirect) block bytes)

-- A block that is called damaged is the one that was read last. It is the inode, and the fields in the bytes that were read
-- break the format at the place; or, where these were the fields in the inode, it is damaged by the bytes that were read.
abbrev pub IsBlamed : Sizes → Option (ℕ × List ℕ) → ℕ → Stream → ℕ → BlockFault → Type 0
IsBlamed s last id t place = IfDamaged (λ block. (bytes : List ℕ) × (last ≡ Some (block, bytes)) × (((block ≡ id) × IsAstray s (stream_at bytes) place) ⊎ IsBlamedIn s id t place block bytes))

-- A double indirect level whose arrays are told, with whole arrays and runs, has a block at this place.
pub record HasDouble (s : Sizes) (m : ℕ → Option (List ℕ)) (array : Run) (i : ℕ) : Type 0 where
  pub first : AreTold m (run_blocks s array)
  pub second : AreTold m (blocks_of s (used_runs (array_runs s (contents m) array)))
  pub arrays : All (IsWhole s) (used_runs (array_runs s (contents m) array))
  pub runs : All (IsWhole s) (used_runs (flat_map (array_runs s (contents m)) (used_runs (array_runs s (contents m) array))))
  pub inside : i < length (blocks_of s (used_runs (flat_map (array_runs s (contents m)) (used_runs (array_runs s (contents m) array)))))
