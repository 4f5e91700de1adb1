-- Images of volumes on disks in memory.
use Rattle.std.proofs.Common.{◌≡◌, ◌*◌, ◌/◌, ℕ, List, length, refl, ap}
use Rattle.std.specs.FinMap.{empty}
use Rattle.bfs_disk.specs.State.{Holds, state_of}
use Rattle.bfs_super.specs.Conditions.{natural}
use Rattle.bfs_log.proofs.Replays.{replayed_empty}
use Rattle.bfs_tree.specs.Histories.{Mounted}
use Rattle.bfs_tree.specs.Trees.{Tree}
use Rattle.bfs_sound.specs.Whole.{IsWhole}
use Rattle.bfs_file_io.specs.Volumes.{HasTree}

-- a quiet disk holds its bytes
pub holds_bytes : (bytes : List ℕ) → length bytes ≡ 512 * (length bytes / 512) → Holds bytes (state_of bytes)
holds_bytes bytes long = record { quiet = λ k lt. refl; reads = record { size = long; each = λ k lt. refl } }

-- a whole volume recovers to its tree
pub whole_has_tree : (image : List ℕ) (tree : Tree) → IsWhole image tree → HasTree image
whole_has_tree image tree whole = (tree, record { result = image; replayed = replayed_empty image whole.valid (ap natural whole.whole.emptied); whole = whole })

-- the tree that stood at mounting, whatever bytes its files had
pub mounted_with : Tree → Mounted
mounted_with tree = record { tree = tree; bytes = empty }
