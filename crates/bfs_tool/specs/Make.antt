-- What `mk` does to a disk, and how it ends.
use Rattle.std.specs.Prelude.{◌≡◌, ◌⊎◌, ◌<◌, ◌≤◌, ℕ, pos, ◌*◌, ◌/◌, ◌^◌, List, [], ◌++◌, Option, Some, codes}
use Rattle.std.specs.Fmt.{decimal}
use Rattle.bfs_disk.specs.Disk.{HasSectors}
use Rattle.bfs_mkfs.specs.Format.{IsNew}
use Rattle.bfs_ports.specs.Ports.{StandsAt}
use Rattle.bfs_super.specs.declared.geometry.Geometry.{Geometry}
use Rattle.bfs_super.specs.Geometry.{IsPlan, log_length, least_blocks}
use Rattle.bfs_tool.specs.declared.make.Making.{Making}
use Rattle.bfs_tool.specs.declared.make.Making.TheVariants as makings

-- The image of a new volume with so many blocks of this size and this label, made at the second of the clock: where the
-- clock tells at which second it stands, at that one. It is laid out by these numbers, and whole with the empty tree of that
-- second.
pub record IsNewVolume (blocks size : ℕ) (label : List ℕ) (stands : Option ℕ) (image : List ℕ) : Type 0 where
  pub layout : Geometry
  pub plan : IsPlan blocks size (log_length blocks) layout
  pub seconds : ℕ
  pub early : seconds < 2 ^ 40
  pub told : StandsAt stands seconds
  pub new : IsNew layout label (pos (seconds * 65536)) image

-- the blocks that such a volume takes, and the sectors that it fills
abbrev pub least : ℕ → ℕ → ℕ
least blocks size = least_blocks blocks size (log_length blocks)

abbrev pub sectors_of : ℕ → ℕ → ℕ
sectors_of blocks size = blocks * (size / 512)

-- the volume would have fewer blocks than it takes
abbrev pub IsSmallVolume : ℕ → ℕ → ℕ → ℕ → Type 0
IsSmallVolume blocks size have need = (have ≡ blocks) × (need ≡ least blocks size) × (have < need)

-- the disk has fewer sectors than the volume fills
abbrev pub IsSmallDisk : Option ℕ → ℕ → ℕ → ℕ → ℕ → Type 0
IsSmallDisk sectors blocks size have need = (least blocks size ≤ blocks) × (sectors ≡ Some have) × (need ≡ sectors_of blocks size) × (have < need)

-- how the call ends on a disk with that number of sectors, which is known once the disk was asked
abbrev pub MakesBy : Option ℕ → ℕ → ℕ → Making → Type 0
MakesBy sectors blocks size (makings.Made made used) =
    (made ≡ blocks) × (used ≡ least blocks size) × (used ≤ blocks) × HasSectors sectors (sectors_of blocks size)
MakesBy sectors blocks size (makings.Small have need) = IsSmallVolume blocks size have need ⊎ IsSmallDisk sectors blocks size have need
MakesBy sectors blocks size makings.DiskFailed = least blocks size ≤ blocks
MakesBy sectors blocks size makings.NoMemory = (least blocks size ≤ blocks) × HasSectors sectors (sectors_of blocks size)

-- an ending that leaves the disk alone
abbrev pub LeavesDisk : Making → Type 0
LeavesDisk (makings.Made made used) = ⊥
LeavesDisk (makings.Small have need) = Unit {0}
LeavesDisk makings.DiskFailed = ⊥
LeavesDisk makings.NoMemory = Unit {0}

abbrev pub IsMade : Making → Type 0
IsMade (makings.Made made used) = Unit {0}
IsMade (makings.Small have need) = ⊥
IsMade makings.DiskFailed = ⊥
IsMade makings.NoMemory = ⊥

-- the status in which `mk` ends
abbrev pub making_status : Making → ℕ
making_status (makings.Made made used) = 0
making_status (makings.Small have need) = 10
making_status makings.DiskFailed = 4
making_status makings.NoMemory = 7

-- and what it prints
abbrev pub making_text : Making → List ℕ
making_text (makings.Made made used) = codes "made " ++ decimal made ++ codes " used " ++ decimal used ++ codes "\n"
making_text (makings.Small have need) = codes "small " ++ decimal have ++ codes " " ++ decimal need ++ codes "\n"
making_text makings.DiskFailed = []
making_text makings.NoMemory = []
