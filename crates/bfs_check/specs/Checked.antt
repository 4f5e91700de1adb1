-- How a check of an image ends.
use Rattle.std.specs.Prelude.{◌≡◌, ◌⊎◌, ◌≤◌, ℕ, ◌*◌, List, length, take, Option}
use Rattle.std.specs.FinMap.{entries}
use Rattle.bfs_base.specs.Counts.{Rose}
use Rattle.bfs_disk.specs.Disk.{HasSectors}
use Rattle.bfs_super.specs.declared.sup.Super.{Super}
use Rattle.bfs_super.specs.declared.fault.SuperFault.{SuperFault}
use Rattle.bfs_super.specs.Conditions.{natural, IsValid}
use Rattle.bfs_log.specs.Replay.{Valid, super_of, blocks_of}
use Rattle.bfs_txn.specs.declared.fault.BlockFault.{BlockFault}
use Rattle.bfs_txn.specs.declared.fault.BlockFault.TheVariants as block_faults
use Rattle.bfs_tree.specs.Trees.{Tree}
use Rattle.bfs_sound.specs.Owners.{reach}
use Rattle.bfs_sound.specs.Whole.{IsWhole, volume_of}
use Rattle.bfs_finding.specs.declared.finding.Finding.{Finding}
use Rattle.bfs_finding.specs.declared.finding.Finding.TheVariants as finds
use Rattle.bfs_finding.specs.Findings.{IsFinding}
use Rattle.bfs_passes.specs.declared.passes.Summary.{Summary}
use Rattle.bfs_passes.specs.declared.fault.PassFault.{PassFault}
use Rattle.bfs_passes.specs.declared.fault.PassFault.TheVariants.{Wrong, Block}
use Rattle.bfs_replay.specs.Recover.{IsShort, IsShortBy, IsRefusedBy}
use Rattle.bfs_replay.specs.Steps.{sectors_of}
use Rattle.bfs_check.specs.declared.checking.Verdict.{Verdict}
use Rattle.bfs_check.specs.declared.checking.Verdict.TheVariants as verdicts
use Rattle.bfs_check.specs.declared.checking.CheckFault.{CheckFault}
use Rattle.bfs_check.specs.declared.checking.CheckFault.TheVariants as faults

-- the bytes of the volume on an image: those up to the end of its last block
unfoldable pub trimmed : List ℕ → List ℕ
trimmed image = take (natural (super_of image).num_blocks * (super_of image).block_size) image

-- the image is whole with a tree, which has so many nodes and reaches so many blocks
pub record IsWholeWith (image : List ℕ) (summary : Summary) : Type 0 where
  pub tree : Tree
  pub whole : IsWhole image tree
  pub nodes : summary.nodes ≡ length (entries tree.nodes)
  pub used : summary.used ≡ length (reach (volume_of (super_of image) (blocks_of image)) tree)

-- a finding is true of an image, or of the bytes of its volume without those that stand behind them
abbrev pub IsFound : List ℕ → Finding → Type 0
IsFound image finding = IsFinding image finding ⊎ (Valid image × IsFinding (trimmed image) finding)

-- what a verdict says of an image: it is whole, or this finding is true of it
abbrev pub IsVerdict : List ℕ → Verdict → Type 0
IsVerdict image (verdicts.Yes summary) = IsWholeWith image summary
IsVerdict image (verdicts.No finding) = IsFound image finding

-- why an image isn't checked
abbrev pub IsCheckFault : List ℕ → CheckFault → Type 0
IsCheckFault image (faults.Short sectors needed) = IsShort image sectors needed
IsCheckFault image (faults.Disk before after) = Unit {0}
IsCheckFault image faults.NoMemory = Unit {0}

-- the disk has so many sectors that a volume with a valid superblock fits it
abbrev pub HasVolume : Option ℕ → Type 0
HasVolume size = (s : Super) × IsValid s × HasSectors size (sectors_of s)

-- a superblock was read and refused, and that is what was found
abbrev pub HasRefused : Option ℕ → Finding → Type 0
HasRefused size finding = (fault : SuperFault) × (finding ≡ finds.Super fault) × IsRefusedBy size fault

-- why a verdict is given over any disk, also one that tells nothing: by its number of sectors, which is known once the disk was
-- asked, and by a superblock that was read
abbrev pub IsVerdictBy : Option ℕ → Verdict → Type 0
IsVerdictBy size (verdicts.Yes summary) = HasVolume size
IsVerdictBy size (verdicts.No finding) = HasRefused size finding ⊎ HasVolume size

-- and why it isn't checked
abbrev pub IsFaultBy : Option ℕ → CheckFault → Type 0
IsFaultBy size (faults.Short sectors needed) = IsShortBy size sectors needed
IsFaultBy size (faults.Disk before after) = Unit {0}
IsFaultBy size faults.NoMemory = Unit {0}

-- a failed disk has its cause in a count that rose in this call
abbrev pub HasCauseIn : ℕ → ℕ → CheckFault → Type 0
HasCauseIn old new (faults.Short sectors needed) = Unit {0}
HasCauseIn old new (faults.Disk before after) = (old ≤ before) × Rose before after × (after ≤ new)
HasCauseIn old new faults.NoMemory = Unit {0}

-- a finding of the passes is true of the volume's bytes
abbrev pub IsWrongOf : List ℕ → PassFault → Type 0
IsWrongOf image (Wrong finding) = IsFinding (trimmed image) finding
IsWrongOf image (Block fault) = Unit {0}

-- a block that couldn't be read has its cause in a count that rose, or memory was wanting
abbrev pub IsReadCause : ℕ → ℕ → BlockFault → Type 0
IsReadCause old new (block_faults.Disk before after) = (old ≤ before) × Rose before after × (after ≤ new)
IsReadCause old new (block_faults.Stopped durable count) = ⊥
IsReadCause old new (block_faults.Damaged block) = ⊥
IsReadCause old new block_faults.NoMemory = Unit {0}

abbrev pub IsPassCauseIn : ℕ → ℕ → PassFault → Type 0
IsPassCauseIn old new (Wrong finding) = Unit {0}
IsPassCauseIn old new (Block fault) = IsReadCause old new fault

-- a fault that a disk which is only read may have
abbrev pub IsOfReading : BlockFault → Type 0
IsOfReading (block_faults.Disk before after) = Unit {0}
IsOfReading (block_faults.Stopped durable count) = ⊥
IsOfReading (block_faults.Damaged block) = ⊥
IsOfReading block_faults.NoMemory = Unit {0}

abbrev pub IsPassOfReading : PassFault → Type 0
IsPassOfReading (Wrong finding) = Unit {0}
IsPassOfReading (Block fault) = IsOfReading fault
