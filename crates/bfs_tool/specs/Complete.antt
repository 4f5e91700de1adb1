-- Completeness: what can be done is done, unless memory is wanting.
use Rattle.std.specs.Prelude.{◌≡◌, ◌⊎◌, ◌≤◌, ℕ, List, [], length, Option, Some, None}
use Rattle.bfs_disk.specs.Disk.{HasSectors}
use Rattle.bfs_tree.specs.Trees.{Tree}
use Rattle.bfs_sound.specs.Whole.{Recovers}
use Rattle.bfs_script.specs.Scripts.{bad_line}
use Rattle.bfs_words.specs.Words.{IsLabelCommand, IsMakeCommand, IsCheckCommand, IsShellCommand, IsSoakCommand}
use Rattle.bfs_tool.specs.Label.{IsGood}
use Rattle.bfs_tool.specs.Make.{least, sectors_of}

-- a valid script: it has no more bytes than a script may have, and none of its lines is bad
pub record IsValidScript (bytes : List ℕ) : Type 0 where
  pub few : length bytes ≤ 268435456
  pub good : bad_line bytes ≡ None

-- a source has a valid script
abbrev pub HasScript : Option (List ℕ) → Type 0
HasScript told = (bytes : List ℕ) × (told ≡ Some bytes) × IsValidScript bytes

-- What the words ask for can be done: a label on an image with a valid superblock whose log is empty; a volume of enough blocks on a disk of enough
-- sectors; a check, a valid script or a workload on an image that recovers; or nothing is asked for.
pub data CanBeDone (words : List (List ℕ)) (sectors : Option ℕ) (image : List ℕ) (script : Option (List ℕ)) : Type 0 where
  nothing : words ≡ [] → CanBeDone words sectors image script
  labels : (name : List ℕ) → IsLabelCommand words name → IsGood image → CanBeDone words sectors image script
  makes : (blocks size : ℕ) (label : List ℕ) → IsMakeCommand words blocks size label → least blocks size ≤ blocks → HasSectors sectors (sectors_of blocks size) → CanBeDone words sectors image script
  checks : (tree : Tree) → IsCheckCommand words → Recovers image tree → CanBeDone words sectors image script
  runs : (tree : Tree) → IsShellCommand words → Recovers image tree → HasScript script → CanBeDone words sectors image script
  works : (seed count : ℕ) (tree : Tree) → IsSoakCommand words seed count → Recovers image tree → CanBeDone words sectors image script

-- done, or memory was wanting
abbrev pub IsCompleteStatus : ℕ → Type 0
IsCompleteStatus status = (status ≡ 0) ⊎ (status ≡ 7)
