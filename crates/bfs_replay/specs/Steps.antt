-- What the steps of a recovery read and find.
use Rattle.std.specs.Prelude.{ℕ, ◌*◌, List, Option, IfSome}
use Rattle.bfs_base.specs.Counts.{Rose}
use Rattle.bfs_disk.specs.State.{State}
use Rattle.bfs_disk.specs.Blocks.{IsRead}
use Rattle.bfs_super.specs.declared.sup.Super.{Super}
use Rattle.bfs_super.specs.Conditions.{natural}
use Rattle.bfs_super.specs.Geometry.{geometry_of}
use Rattle.bfs_log.specs.declared.entry.Place.{Place}
use Rattle.bfs_log.specs.declared.entry.EntryFault.{EntryFault}
use Rattle.bfs_log.specs.Entry.{IsFault}
use Rattle.bfs_log.specs.Replay.{Home, Logs, Fails, super_of, blocks_of, block_sectors, log_from, log_to}
use Rattle.bfs_replay.specs.declared.log.Halt.{Halt}
use Rattle.bfs_replay.specs.declared.log.Halt.TheVariants.{Failed, Malformed}

-- the sectors that a volume fills
abbrev pub sectors_of : Super → ℕ
sectors_of s = block_sectors s * natural s.num_blocks

-- the bytes are those that the disk reads at this block
abbrev pub AreRead : Option State → ℕ → ℕ → List ℕ → Type 0
AreRead told r b bytes = IfSome told (λ s. IsRead s r b bytes)

-- a place in the log of a volume
abbrev pub place_at : Super → ℕ → Place
place_at s at = record { geometry = geometry_of s; length = s.log_blocks.len; start = at; end = log_to s }

-- a failed disk call has its cause in a count that rose
abbrev pub HasRisen : ℕ → ℕ → Halt → Type 0
HasRisen old new Failed = Rose old new
HasRisen old new (Malformed fault) = Unit {0}

-- the bytes are those of this block, and no entry stands in them by this fault
abbrev pub IsFaultAt : Option State → ℕ → ℕ → Place → List ℕ → Halt → Type 0
IsFaultAt told r b place bytes Failed = Unit {0}
IsFaultAt told r b place bytes (Malformed fault) = IsFault place bytes fault × AreRead told r b bytes

-- the log of an image with this superblock has entries up to its end
abbrev pub HasEntriesIn : List ℕ → Super → Type 0
HasEntriesIn image s = (entries : List (List Home)) × Logs (geometry_of s) (blocks_of image) (log_from s) (log_to s) entries

abbrev pub HasEntries : List ℕ → Type 0
HasEntries image = HasEntriesIn image (super_of image)

-- or a malformed one behind some
abbrev pub HasFaultIn : List ℕ → Super → EntryFault → Type 0
HasFaultIn image s fault = (entries : List (List Home)) × Fails (geometry_of s) (blocks_of image) (log_from s) (log_to s) entries fault

abbrev pub HasFault : List ℕ → Halt → Type 0
HasFault image Failed = Unit {0}
HasFault image (Malformed fault) = HasFaultIn image (super_of image) fault
