-- How a recovery ends, and what it leaves on the way.
use Rattle.std.specs.Prelude.{◌≡◌, ◌≢◌, ◌⊎◌, ◌<◌, ◌≤◌, ℕ, ◌/◌, List, length, Option, Some, Bool}
use Rattle.bfs_base.specs.Counts.{Rose}
use Rattle.bfs_disk.specs.State.{State, Tells}
use Rattle.bfs_disk.specs.Disk.{HasSectors}
use Rattle.bfs_super.specs.declared.sup.Super.{Super}
use Rattle.bfs_super.specs.Conditions.{IsRefusal, IsValid}
use Rattle.bfs_super.specs.declared.fault.SuperFault.{SuperFault}
use Rattle.bfs_log.specs.Replay.{Replayed, Valid, super_of}
use Rattle.bfs_log.specs.Replay.{Malformed as IsMalformed}
use Rattle.bfs_replay.specs.Homing.{Reads}
use Rattle.bfs_replay.specs.Steps.{sectors_of}
use Rattle.bfs_replay.specs.declared.recovery.Ending.{Ending}
use Rattle.bfs_replay.specs.declared.recovery.Ending.TheVariants as endings
use Rattle.bfs_replay.specs.declared.recovery.MountFault.{MountFault}
use Rattle.bfs_replay.specs.declared.recovery.MountFault.TheVariants as faults
use Rattle.bfs_replay.specs.declared.recovery.Loaded.{Loaded}
use Rattle.bfs_replay.specs.declared.recovery.Loaded.TheVariants as loads

-- the image, or one that is replayed to the same
abbrev pub GoesOn : List ℕ → List ℕ → Type 0
GoesOn image c = (c ≡ image) ⊎ ((result : List ℕ) × Replayed image result × Replayed c result)

-- the disk reads as what replay of the image gives, with this superblock, and is quiet too where that is asked
abbrev pub IsRecovered : Bool → List ℕ → Option State → Super → Type 0
IsRecovered quiet image told s = (result : List ℕ) × Replayed image result × Tells told (Reads quiet result) × (s ≡ super_of result)

-- the image has fewer than two sectors, or its superblock meets its conditions and counts more sectors than there are
abbrev pub IsShort : List ℕ → ℕ → ℕ → Type 0
IsShort image sectors needed = (sectors ≡ length image / 512) × (sectors < needed)
    × ((needed ≡ 2) ⊎ ((2 ≤ sectors) × IsValid (super_of image) × (needed ≡ sectors_of (super_of image))))

-- why an image isn't recovered
abbrev pub IsMountFault : List ℕ → MountFault → Type 0
IsMountFault image (faults.Short sectors needed) = IsShort image sectors needed
IsMountFault image (faults.Super fault) = (1024 ≤ length image) × IsRefusal (super_of image) fault
IsMountFault image (faults.Entry fault) = IsMalformed image fault
IsMountFault image (faults.Disk before after) = Unit {0}
IsMountFault image faults.NoMemory = Unit {0}

-- a fault that leaves the disk as it was
abbrev pub LeavesDisk : MountFault → Type 0
LeavesDisk (faults.Short sectors needed) = Unit {0}
LeavesDisk (faults.Super fault) = Unit {0}
LeavesDisk (faults.Entry fault) = Unit {0}
LeavesDisk (faults.Disk before after) = ⊥
LeavesDisk faults.NoMemory = Unit {0}

-- a failed disk has its cause in a count that rose in this call
abbrev pub HasCauseIn : ℕ → ℕ → MountFault → Type 0
HasCauseIn old new (faults.Short sectors needed) = Unit {0}
HasCauseIn old new (faults.Super fault) = Unit {0}
HasCauseIn old new (faults.Entry fault) = Unit {0}
HasCauseIn old new (faults.Disk before after) = (old ≤ before) × Rose before after × (after ≤ new)
HasCauseIn old new faults.NoMemory = Unit {0}

-- how the log of an image was replayed on a disk that read so
abbrev pub EndsIn : Bool → List ℕ → Option State → Option State → Ending → Type 0
EndsIn quiet image old new (endings.Done s) = IsRecovered quiet image new s
EndsIn quiet image old new (endings.Short sectors needed) = IsShort image sectors needed × (new ≡ old)
EndsIn quiet image old new (endings.Refused fault) = (1024 ≤ length image) × IsRefusal (super_of image) fault × (new ≡ old)
EndsIn quiet image old new (endings.Malformed fault) = IsMalformed image fault × (new ≡ old)
EndsIn quiet image old new endings.Failed = Unit {0}

-- what is known of the superblock at the end, whatever the disk tells
abbrev pub IsSound : (Super → Type 0) → Ending → Type 0
IsSound P (endings.Done s) = P s
IsSound P (endings.Short sectors needed) = Unit {0}
IsSound P (endings.Refused fault) = Unit {0}
IsSound P (endings.Malformed fault) = Unit {0}
IsSound P endings.Failed = Unit {0}

-- what a superblock and the number of sectors say
abbrev pub IsJudged : Super → ℕ → Loaded → Type 0
IsJudged s sectors (loads.Volume found) = (found ≡ s) × IsValid s × (sectors_of s ≤ sectors)
IsJudged s sectors (loads.Short count needed) = (count ≡ sectors) × IsValid s × (needed ≡ sectors_of s) × (sectors < needed)
IsJudged s sectors (loads.Refused fault) = IsRefusal s fault
IsJudged s sectors loads.Failed = ⊥

-- what is found on a disk that reads as an image
abbrev pub FindsIn : List ℕ → Loaded → Type 0
FindsIn image (loads.Volume s) = (s ≡ super_of image) × Valid image
FindsIn image (loads.Short sectors needed) = IsShort image sectors needed
FindsIn image (loads.Refused fault) = (1024 ≤ length image) × IsRefusal (super_of image) fault
FindsIn image loads.Failed = Unit {0}

-- the disk has so many sectors, fewer than two, or than a valid superblock counts
abbrev pub IsShortBy : Option ℕ → ℕ → ℕ → Type 0
IsShortBy size sectors needed = (size ≡ Some sectors) × (sectors < needed) × ((needed ≡ 2) ⊎ ((s : Super) × IsValid s × (needed ≡ sectors_of s)))

-- the disk has a superblock that is refused
abbrev pub IsRefusedBy : Option ℕ → SuperFault → Type 0
IsRefusedBy size fault = HasSectors size 2 × ((s : Super) × IsRefusal s fault)

-- the disk has a volume that fits it, and whose log isn't empty
abbrev pub HasFullLog : Option ℕ → Type 0
HasFullLog size = (s : Super) × IsValid s × HasSectors size (sectors_of s) × (s.log_start ≢ s.log_end)

-- why this was found over any disk, also one that tells nothing: by its number of sectors, which is known once the disk was asked,
-- and by a superblock that was read; a volume that was found fits the disk
abbrev pub FitsDisk : Option ℕ → Loaded → Type 0
FitsDisk size (loads.Volume s) = IsValid s × HasSectors size (sectors_of s)
FitsDisk size (loads.Short sectors needed) = IsShortBy size sectors needed
FitsDisk size (loads.Refused fault) = IsRefusedBy size fault
FitsDisk size loads.Failed = Unit {0}

-- why a recovery ended so over any disk
abbrev pub IsEndingBy : Option ℕ → Ending → Type 0
IsEndingBy size (endings.Done s) = Unit {0}
IsEndingBy size (endings.Short sectors needed) = IsShortBy size sectors needed
IsEndingBy size (endings.Refused fault) = IsRefusedBy size fault
IsEndingBy size (endings.Malformed fault) = HasFullLog size
IsEndingBy size endings.Failed = Unit {0}

abbrev pub IsMountFaultBy : Option ℕ → MountFault → Type 0
IsMountFaultBy size (faults.Short sectors needed) = IsShortBy size sectors needed
IsMountFaultBy size (faults.Super fault) = IsRefusedBy size fault
IsMountFaultBy size (faults.Entry fault) = HasFullLog size
IsMountFaultBy size (faults.Disk before after) = Unit {0}
IsMountFaultBy size faults.NoMemory = Unit {0}
