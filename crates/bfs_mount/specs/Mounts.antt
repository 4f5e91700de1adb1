-- Mounting: what a disk holds, and why it isn't mounted.
use Rattle.std.specs.Prelude.{◌≡◌, ℕ, List, Option, Some}
use Rattle.bfs_disk.specs.State.{State, Holds}
use Rattle.bfs_super.specs.declared.sup.Super.{Super}
use Rattle.bfs_log.specs.Replay.{Replayed, super_of}
use Rattle.std.specs.FinMap.{empty}
use Rattle.bfs_tree.specs.Histories.{Mounted}
use Rattle.bfs_tree.specs.Trees.{Tree}
use Rattle.bfs_count.specs.Counts.{nodes_of}
use Rattle.bfs_sound.specs.Whole.{IsWhole, Recovers}
use Rattle.bfs_core.specs.Chains.{Image, image_in}
use Rattle.bfs_core.specs.KnownBytes.{HasBytesOf}
use Rattle.bfs_replay.specs.Recover.{HasCauseIn, IsMountFault}
use Rattle.bfs_replay.specs.declared.recovery.MountFault.TheVariants as faults
use Rattle.bfs_check.specs.Checked.{IsFound}
use Rattle.bfs_check.specs.declared.checking.CheckFault.{CheckFault}
use Rattle.bfs_check.specs.declared.checking.CheckFault.TheVariants as checking
use Rattle.bfs_mount.specs.declared.mount.Unmounted.{Unmounted}
use Rattle.bfs_mount.specs.declared.mount.Unmounted.TheVariants.{Unread, Wrong}

-- where the disk tells, it is quiet and holds an image
abbrev pub IsHeld : Option State → Type 0
IsHeld told = (st : State) → told ≡ Some st → (image : List ℕ) × Holds image st

-- where the disk tells, it is quiet and holds an image that is whole with a tree, with this superblock and so many nodes
abbrev pub IsHeldWhole : Super → ℕ → Option State → Type 0
IsHeldWhole sup nodes told = (st : State) → told ≡ Some st → (image : List ℕ) × (tree : Tree) × Holds image st × IsWhole image tree × (sup ≡ super_of image) × (nodes ≡ nodes_of tree)

-- a check isn't hindered by a disk that is too short
abbrev pub IsUnshort : CheckFault → Type 0
IsUnshort (checking.Short sectors needed) = ⊥
IsUnshort (checking.Disk before after) = Unit {0}
IsUnshort checking.NoMemory = Unit {0}

-- An image is mounted with this tree and these bytes of files: replay gives of it another one that is whole with the tree, and whose files have
-- these bytes.
pub record IsMountedFrom (image : List ℕ) (t0 : Mounted) : Type 0 where
  pub next : List ℕ
  pub replayed : Replayed image next
  pub whole : IsWhole next t0.tree
  pub bytes : HasBytesOf next t0

-- the image that is mounted then: what replay gives
abbrev pub mounted_image : {image : List ℕ} {t0 : Mounted} → IsMountedFrom image t0 → Image
mounted_image mounted = image_in mounted.next

-- an image that recovers to a tree is mounted with it, where no byte of a file is known
abbrev pub MountsBare : Type 0
MountsBare = (image : List ℕ) (tree : Tree) → Recovers image tree → IsMountedFrom image (record { tree = tree; bytes = empty })

-- Why an image isn't mounted: it isn't recovered; or what replay gives of it isn't whole, and this is found.
abbrev pub IsUnmounted : List ℕ → Unmounted → Type 0
IsUnmounted image (Unread fault) = IsMountFault image fault
IsUnmounted image (Wrong finding) = (result : List ℕ) × Replayed image result × IsFound result finding

-- the disk failed, or memory was wanting
abbrev pub IsHindered : Unmounted → Type 0
IsHindered (Unread (faults.Disk before after)) = Unit {0}
IsHindered (Unread faults.NoMemory) = Unit {0}
IsHindered _ = ⊥

-- an image that recovers to a tree is mounted, unless the disk fails or memory is wanting
abbrev pub RecoversMounted : Type 0
RecoversMounted = (image : List ℕ) (tree : Tree) (why : Unmounted) → Recovers image tree → IsUnmounted image why → IsHindered why

-- a failed disk has its cause in a count that rose
abbrev pub HasUnmountedCause : ℕ → ℕ → Unmounted → Type 0
HasUnmountedCause old new (Unread fault) = HasCauseIn old new fault
HasUnmountedCause old new (Wrong finding) = Unit {0}
