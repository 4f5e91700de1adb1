-- What `check` does to a disk, and how it ends.
use Rattle.std.specs.Prelude.{◌≡◌, ◌⊎◌, ℕ, List, [], ◌++◌, length, Option, Bool, codes}
use Rattle.std.specs.Fmt.{decimal}
use Rattle.std.specs.FinMap.{entries}
use Rattle.bfs_disk.specs.State.{State, Tells}
use Rattle.bfs_log.specs.Replay.{Replayed, super_of, blocks_of}
use Rattle.bfs_tree.specs.Trees.{Tree}
use Rattle.bfs_sound.specs.Owners.{reach}
use Rattle.bfs_sound.specs.Whole.{Recovers, volume_of}
use Rattle.bfs_finding.specs.declared.finding.Finding.{Finding}
use Rattle.bfs_finding.specs.declared.finding.Finding.TheVariants as finds
use Rattle.bfs_finding_text.specs.Texts.{words_of, short_words, entry_words, line_of}
use Rattle.bfs_replay.specs.Homing.{Reads}
use Rattle.bfs_replay.specs.Recover.{IsMountFault, IsMountFaultBy}
use Rattle.bfs_replay.specs.declared.recovery.MountFault.TheVariants as mounts
use Rattle.bfs_run.specs.Checked.{IsFound, HasRefused, HasVolume}
use Rattle.bfs_run.specs.CheckFault.{CheckFault}
use Rattle.bfs_run.specs.CheckFaultVariants as faults
use Rattle.bfs_tool.specs.declared.checking.Checking.{Checking}
use Rattle.bfs_tool.specs.declared.checking.Checking.TheVariants as checkings

-- the image recovers to a tree, which has so many nodes and reaches so many blocks
pub record RecoversWith (image : List ℕ) (nodes used : ℕ) : Type 0 where
  pub tree : Tree
  pub recovers : Recovers image tree
  pub nodes_are : nodes ≡ length (entries tree.nodes)
  pub used_are : used ≡ length (reach (volume_of (super_of recovers.result) (blocks_of recovers.result)) tree)

-- replay of the image gives one of which this finding is true
abbrev pub HasFinding : List ℕ → Finding → Type 0
HasFinding image finding = (result : List ℕ) × Replayed image result × IsFound result finding

-- what an ending says of an image that the disk reads as
abbrev pub ChecksBy : List ℕ → Checking → Type 0
ChecksBy image (checkings.Whole nodes used) = RecoversWith image nodes used
ChecksBy image (checkings.Wrong finding) = HasFinding image finding
ChecksBy image (checkings.Short sectors needed) = IsMountFault image (mounts.Short sectors needed)
ChecksBy image (checkings.NotVolume fault) = IsMountFault image (mounts.Super fault)
ChecksBy image (checkings.Malformed fault) = IsMountFault image (mounts.Entry fault)
ChecksBy image checkings.DiskFailed = Unit {0}
ChecksBy image checkings.NoMemory = Unit {0}

-- why the call ended so over any disk, also one that tells nothing
abbrev pub IsCheckedBy : Option ℕ → Checking → Type 0
IsCheckedBy size (checkings.Whole nodes used) = HasVolume size
IsCheckedBy size (checkings.Wrong finding) = HasRefused size finding ⊎ HasVolume size
IsCheckedBy size (checkings.Short sectors needed) = IsMountFaultBy size (mounts.Short sectors needed)
IsCheckedBy size (checkings.NotVolume fault) = IsMountFaultBy size (mounts.Super fault)
IsCheckedBy size (checkings.Malformed fault) = IsMountFaultBy size (mounts.Entry fault)
IsCheckedBy size checkings.DiskFailed = Unit {0}
IsCheckedBy size checkings.NoMemory = Unit {0}

-- the disk reads as what replay of the image gives, and is quiet too where that is asked
abbrev pub IsReplayedOn : Bool → List ℕ → Option State → Type 0
IsReplayedOn quiet image told = (result : List ℕ) × Replayed image result × Tells told (Reads quiet result)

-- what an ending leaves on a disk that read as the image: what replay gives, or where that is refused, the disk as it was
abbrev pub LeavesBy : Bool → List ℕ → Option State → Option State → Checking → Type 0
LeavesBy quiet image old new (checkings.Whole nodes used) = IsReplayedOn quiet image new
LeavesBy quiet image old new (checkings.Wrong finding) = IsReplayedOn quiet image new
LeavesBy quiet image old new (checkings.Short sectors needed) = new ≡ old
LeavesBy quiet image old new (checkings.NotVolume fault) = new ≡ old
LeavesBy quiet image old new (checkings.Malformed fault) = new ≡ old
LeavesBy quiet image old new checkings.DiskFailed = Unit {0}
LeavesBy quiet image old new checkings.NoMemory = (new ≡ old) ⊎ IsReplayedOn quiet image new

-- an ending that leaves the disk alone
abbrev pub IsRefusing : Checking → Type 0
IsRefusing (checkings.Whole nodes used) = ⊥
IsRefusing (checkings.Wrong finding) = ⊥
IsRefusing (checkings.Short sectors needed) = Unit {0}
IsRefusing (checkings.NotVolume fault) = Unit {0}
IsRefusing (checkings.Malformed fault) = Unit {0}
IsRefusing checkings.DiskFailed = ⊥
IsRefusing checkings.NoMemory = ⊥

abbrev pub IsWhole : Checking → Type 0
IsWhole (checkings.Whole nodes used) = Unit {0}
IsWhole (checkings.Wrong finding) = ⊥
IsWhole (checkings.Short sectors needed) = ⊥
IsWhole (checkings.NotVolume fault) = ⊥
IsWhole (checkings.Malformed fault) = ⊥
IsWhole checkings.DiskFailed = ⊥
IsWhole checkings.NoMemory = ⊥

-- an ending with a text
abbrev pub HasText : Checking → Type 0
HasText (checkings.Whole nodes used) = Unit {0}
HasText (checkings.Wrong finding) = Unit {0}
HasText (checkings.Short sectors needed) = Unit {0}
HasText (checkings.NotVolume fault) = Unit {0}
HasText (checkings.Malformed fault) = Unit {0}
HasText checkings.DiskFailed = ⊥
HasText checkings.NoMemory = ⊥

-- a fault of the check other than a disk that is too short
abbrev pub IsNotShort : CheckFault → Type 0
IsNotShort (faults.Short sectors needed) = ⊥
IsNotShort (faults.Disk before after) = Unit {0}
IsNotShort faults.NoMemory = Unit {0}

-- the status in which `check` ends
abbrev pub checking_status : Checking → ℕ
checking_status (checkings.Whole nodes used) = 0
checking_status (checkings.Wrong finding) = 8
checking_status (checkings.Short sectors needed) = 3
checking_status (checkings.NotVolume fault) = 3
checking_status (checkings.Malformed fault) = 3
checking_status checkings.DiskFailed = 4
checking_status checkings.NoMemory = 7

-- and what it prints
abbrev pub checking_text : Checking → List ℕ
checking_text (checkings.Whole nodes used) = codes "whole nodes " ++ (decimal nodes ++ (codes " used " ++ (decimal used ++ codes "\n")))
checking_text (checkings.Wrong finding) = line_of (words_of finding)
checking_text (checkings.Short sectors needed) = line_of (short_words sectors needed)
checking_text (checkings.NotVolume fault) = line_of (words_of (finds.Super fault))
checking_text (checkings.Malformed fault) = line_of (entry_words fault)
checking_text checkings.DiskFailed = []
checking_text checkings.NoMemory = []
