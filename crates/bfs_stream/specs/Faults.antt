-- The causes of a stream's faults.
use Rattle.std.specs.Prelude.{◌≡◌, ◌≤◌, ◌<◌, ℕ, List, Option, Some, length}
use Rattle.bfs_txn.specs.declared.fault.BlockFault.{BlockFault}
use Rattle.bfs_txn.specs.declared.fault.BlockFault.TheVariants.{Disk, Stopped, Damaged, NoMemory}
use Rattle.bfs_txn.specs.Faults.{Counts, IsCauseOf}
use Rattle.bfs_stream.specs.Scans.{IsDamage, IsDamagedBy, IsBlamed, ends_of, last_end}
use Rattle.bfs_bitmap.specs.Runs.{Room, HasNoRun}
use Rattle.bfs_inode.specs.Inode.{Stream, stream_at}
use Rattle.bfs_stream.specs.Sizes.{Sizes, Origin}
use Rattle.bfs_stream.specs.Told.{contents}
use Rattle.bfs_stream.specs.Grown.{IsStuck, room_at}
use Rattle.bfs_stream.specs.declared.fault.StreamFault.{StreamFault}
use Rattle.bfs_stream.specs.declared.fault.GrowFault.{GrowFault}
use Rattle.bfs_stream.specs.declared.fault.GrowFault.TheVariants as grow
use Rattle.bfs_stream.specs.declared.fault.StreamFault.TheVariants.{PastEnd, Block}

-- a fault of a block has its cause between these counts; a damaged block has it in its bytes
abbrev pub IsCauseIn : Counts → Counts → BlockFault → Type 0
IsCauseIn old new (Disk before after) = IsCauseOf old new (Disk before after)
IsCauseIn old new (Stopped durable faults) = IsCauseOf old new (Stopped durable faults)
IsCauseIn old new (Damaged block) = Unit {0}
IsCauseIn old new NoMemory = Unit {0}

abbrev pub IsStreamCause : Counts → Counts → StreamFault → Type 0
IsStreamCause old new (PastEnd blocks) = Unit {0}
IsStreamCause old new (Block fault) = IsCauseIn old new fault

-- why a sound stream has no block at a place: it has only so many; and none of its blocks is damaged
abbrev pub HasNoBlock : List ℕ → ℕ → StreamFault → Type 0
HasNoBlock places i (PastEnd blocks) = (blocks ≡ length places) × (length places ≤ i)
HasNoBlock places i (Block fault) = ¬ IsDamage fault

-- by the fields in the inode the stream ends at this block, and the place lies behind it
abbrev pub IsPastEnd : Sizes → Stream → ℕ → ℕ → Type 0
IsPastEnd s t place blocks = (blocks ≡ last_end (ends_of s t)) × (blocks ≤ place)

-- which block is damaged where there is no block at a place, or where the stream ends before it, by these fields in the inode and by what is told
abbrev pub IsDamagedIn : Origin → (ℕ → Option (List ℕ)) → Stream → ℕ → StreamFault → Type 0
IsDamagedIn o m t place (PastEnd blocks) = IsPastEnd o.sizes t place blocks
IsDamagedIn o m t place (Block fault) = IsDamagedBy o.sizes m o.id t place fault

-- the same, where the inode is told too
abbrev pub IsDamagedAt : Origin → (ℕ → Option (List ℕ)) → ℕ → StreamFault → Type 0
IsDamagedAt o m place fault = IsDamagedIn o m (stream_at (contents m o.id)) place fault

-- What was read last where there is no block at a place, also where nothing is told: the inode, where the stream ends before
-- it by the bytes that were read; and a damaged block, whose own bytes break the format, behind an inode of some bytes.
abbrev pub IsBlamedAt : Origin → Option (ℕ × List ℕ) → ℕ → StreamFault → Type 0
IsBlamedAt o last place (PastEnd blocks) = (bytes : List ℕ) × (last ≡ Some (o.id, bytes)) × IsPastEnd o.sizes (stream_at bytes) place blocks
IsBlamedAt o last place (Block fault) = (inode : List ℕ) × IsBlamed o.sizes last o.id (stream_at inode) place fault

-- why a stream did not grow, beside what its blocks say: its room is less than so many blocks, or a fault has its cause
abbrev pub IsGrowCause : ℕ → Counts → Counts → GrowFault → Type 0
IsGrowCause blocks old new (grow.NoRun wanted free) = Unit {0}
IsGrowCause blocks old new (grow.Full room) = room < blocks
IsGrowCause blocks old new (grow.Block fault) = IsCauseIn old new fault

-- a run was asked for, and there is none
abbrev pub IsNoRunFor : Room → (ℕ → Option (List ℕ)) → ℕ → GrowFault → Type 0
IsNoRunFor v m wanted (grow.NoRun asked free) = (asked ≡ wanted) × HasNoRun v m wanted free
IsNoRunFor v m wanted (grow.Full room) = ⊥
IsNoRunFor v m wanted (grow.Block fault) = ¬ IsDamage fault

-- why one run was not added: there is no run, with nothing added; the double indirect level is full; no block is damaged
abbrev pub IsStepFault : Origin → Room → (ℕ → Option (List ℕ)) → GrowFault → Type 0
IsStepFault o v m (grow.NoRun asked free) = IsStuck o v m 0 asked free
IsStepFault o v m (grow.Full room) = room_at o.sizes (contents m) o.id ≡ 0
IsStepFault o v m (grow.Block fault) = ¬ IsDamage fault

-- Why a stream did not grow by so many blocks: no run is left when fewer were added; or the double indirect level has room
-- for fewer; and no block is damaged.
abbrev pub IsGrowFault : Origin → Room → (ℕ → Option (List ℕ)) → ℕ → GrowFault → Type 0
IsGrowFault o v m blocks (grow.NoRun asked free) = (added : ℕ) × (added < blocks) × IsStuck o v m added asked free
IsGrowFault o v m blocks (grow.Full room) = (room ≡ room_at o.sizes (contents m) o.id) × (room < blocks)
IsGrowFault o v m blocks (grow.Block fault) = ¬ IsDamage fault
