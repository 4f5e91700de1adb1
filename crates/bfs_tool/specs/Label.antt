-- What `label` does to a disk, and how it ends.
use Rattle.std.specs.Prelude.{◌≡◌, ◌⊎◌, ◌<◌, ◌≤◌, ℕ, ◌/◌, List, [], ◌++◌, length, take, drop, Option, Some, codes}
use Rattle.std.specs.Fmt.{decimal, signed_decimal}
use Rattle.bfs_base.specs.Images.{sector}
use Rattle.bfs_disk.specs.Disk.{ReadsSectors, HasSectors}
use Rattle.bfs_disk.specs.State.{State}
use Rattle.bfs_super.specs.declared.sup.Super.{Super}
use Rattle.bfs_finding.specs.Which.{fault_number}
use Rattle.bfs_super.specs.Layout.{super_at}
use Rattle.bfs_super.specs.Label.{name_of}
use Rattle.bfs_super.specs.Conditions.{IsValid, IsRefusal}
use Rattle.bfs_tool.specs.declared.label.Ending.{Ending}
use Rattle.bfs_tool.specs.declared.label.Ending.TheVariants as endings
use Rattle.bfs_tool.specs.declared.label.Loaded.{Loaded}
use Rattle.bfs_tool.specs.declared.label.Loaded.TheVariants as loads

-- the superblock of an image
abbrev pub super_of : List ℕ → Super
super_of image = super_at (sector 1 image)

-- the image with this label: 32 bytes of its superblock, and no other byte
abbrev pub labelled : List ℕ → List ℕ → List ℕ
labelled name image = take 512 image ++ name_of name ++ drop 544 image

-- each image of the calls is the old one or the new one
abbrev pub OldOrNew : List ℕ → List ℕ → List ℕ → Type 0
OldOrNew name image c = (c ≡ image) ⊎ (c ≡ labelled name image)

-- a valid superblock whose log is empty
pub record IsGood (image : List ℕ) : Type 0 where
  pub long : 1024 ≤ length image
  pub valid : IsValid (super_of image)
  pub empty_log : (super_of image).log_start ≡ (super_of image).log_end

-- how the call ends on a disk that reads as an image
abbrev pub EndsBy : List ℕ → Ending → Type 0
EndsBy image endings.Done = IsGood image
EndsBy image (endings.Short sectors) = (sectors ≡ length image / 512) × (length image < 1024)
EndsBy image (endings.NotVolume fault) = (1024 ≤ length image) × IsRefusal (super_of image) fault
EndsBy image (endings.LogBusy start end) =
    (1024 ≤ length image) × IsValid (super_of image) × (start ≡ (super_of image).log_start) × (end ≡ (super_of image).log_end) × ¬ (start ≡ end)
EndsBy image endings.DiskFailed = Unit {0}

-- why the call ended so over any disk, also one that tells nothing: by its number of sectors, which is known once the disk was
-- asked, and by a superblock that was read
abbrev pub LabelsBy : Option ℕ → Ending → Type 0
LabelsBy size endings.Done = HasSectors size 2
LabelsBy size (endings.Short sectors) = (size ≡ Some sectors) × (sectors < 2)
LabelsBy size (endings.NotVolume fault) = HasSectors size 2 × ((s : Super) × IsRefusal s fault)
LabelsBy size (endings.LogBusy start end) = HasSectors size 2 × ((s : Super) × IsValid s × (start ≡ s.log_start) × (end ≡ s.log_end)) × ¬ (start ≡ end)
LabelsBy size endings.DiskFailed = Unit {0}

-- an ending that leaves the disk alone
abbrev pub IsRefusing : Ending → Type 0
IsRefusing endings.Done = ⊥
IsRefusing (endings.Short sectors) = Unit {0}
IsRefusing (endings.NotVolume fault) = Unit {0}
IsRefusing (endings.LogBusy start end) = Unit {0}
IsRefusing endings.DiskFailed = ⊥

-- why a superblock isn't changed
abbrev pub RefusedBy : Super → Ending → Type 0
RefusedBy s endings.Done = ⊥
RefusedBy s (endings.Short sectors) = ⊥
RefusedBy s (endings.NotVolume fault) = IsRefusal s fault
RefusedBy s (endings.LogBusy start end) = IsValid s × (start ≡ s.log_start) × (end ≡ s.log_end) × ¬ (start ≡ end)
RefusedBy s endings.DiskFailed = ⊥

-- the superblock's sector with this label
pub record IsChanged (old name new : List ℕ) : Type 0 where
  pub valid : IsValid (super_at old)
  pub empty_log : (super_at old).log_start ≡ (super_at old).log_end
  pub bytes : new ≡ name_of name ++ drop 32 old

-- what the superblock's sector was found to be
abbrev pub IsLoaded : Option State → Option ℕ → Loaded → Type 0
IsLoaded told size (loads.Sector bytes) = HasSectors size 2 × ReadsSectors told 1 bytes
IsLoaded told size (loads.Short sectors) = (size ≡ Some sectors) × (sectors < 2)
IsLoaded told size loads.Failed = Unit {0}

-- the status in which `label` ends
abbrev pub label_status : Ending → ℕ
label_status endings.Done = 0
label_status (endings.Short sectors) = 3
label_status (endings.NotVolume fault) = 3
label_status (endings.LogBusy start end) = 11
label_status endings.DiskFailed = 4

-- and what it prints
abbrev pub label_text : Ending → List ℕ
label_text endings.Done = []
label_text (endings.Short sectors) = codes "finding short " ++ decimal sectors ++ codes " 2\n"
label_text (endings.NotVolume fault) = codes "finding super " ++ decimal (fault_number fault) ++ codes "\n"
label_text (endings.LogBusy start end) = codes "log " ++ signed_decimal start ++ codes " " ++ signed_decimal end ++ codes "\n"
label_text endings.DiskFailed = []
