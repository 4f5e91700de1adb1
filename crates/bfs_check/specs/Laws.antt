-- A verdict says of an image what is true of it, and only that.
use Rattle.std.specs.Prelude.{◌≡◌, ℕ, ◌*◌, List, length}
use Rattle.bfs_super.specs.Conditions.{natural}
use Rattle.bfs_log.specs.Replay.{Replayed, super_of}
use Rattle.bfs_tree.specs.Trees.{Tree}
use Rattle.bfs_sound.specs.Whole.{IsWhole, Recovers}
use Rattle.bfs_finding.specs.declared.finding.Finding.{Finding}
use Rattle.bfs_finding.specs.Findings.{IsFinding}
use Rattle.bfs_check.specs.Checked.{IsFound}

-- an image of which a finding is true is whole with no tree: so a check says Yes exactly where it is whole
abbrev pub VerdictIsExact : Type 0
VerdictIsExact = (image : List ℕ) (tree : Tree) (finding : Finding) → IsWhole image tree → IsFound image finding → ⊥

-- an image that is replayed to one of which a finding is true recovers to no tree
abbrev pub RecoveryIsExact : Type 0
RecoveryIsExact = (image result : List ℕ) (tree : Tree) (finding : Finding) → Replayed image result → IsFound result finding → Recovers image tree → ⊥

-- where nothing stands behind the volume on an image, a finding is true of the image itself
abbrev pub FindingIsOfImage : Type 0
FindingIsOfImage = (image : List ℕ) (finding : Finding) → length image ≡ natural (super_of image).num_blocks * (super_of image).block_size → IsFound image finding → IsFinding image finding
