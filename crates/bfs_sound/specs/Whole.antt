-- Whole: an image, or a superblock with blocks, is a sound volume with a tree; and an image that recovers to one.
use Rattle.std.specs.Prelude.{◌≡◌, ◌<◌, ℕ, ℤ, List, length, Some}
use Rattle.std.specs.FinMap.{get}
use Rattle.bfs_base.specs.Lists.{IsOnce}
use Rattle.bfs_base.specs.declared.kind.KeyKind.{KeyKind}
use Rattle.bfs_super.specs.Conditions.{natural, IsValid}
use Rattle.bfs_super.specs.Geometry.{geometry_of}
use Rattle.bfs_super.specs.declared.sup.Super.{Super}
use Rattle.bfs_log.specs.Replay.{super_of, blocks_of, Valid, Replayed}
use Rattle.bfs_tree.specs.Listings.{listed}
use Rattle.bfs_tree.specs.Trees.{Tree, HasPlainNodes, HasPlainIndices}
use Rattle.bfs_values.specs.Rows.{rows_in}
use Rattle.bfs_values.specs.Reached.{AreWritten}
use Rattle.bfs_sound.specs.Volumes.{Volume}
use Rattle.bfs_sound.specs.Inodes.{content}
use Rattle.bfs_sound.specs.Listings.{IsIndexRow, Stands}
use Rattle.bfs_sound.specs.Owners.{reach, Marks, Counts}

-- each index lists what the tree's rule says: its rows, with the numbers of their values written out
abbrev pub HasIndices : Volume → Tree → Type 0
HasIndices v tree = (name : List ℕ) (value : ℤ) (kind : KeyKind) → IsIndexRow v name value → get tree.indices name ≡ Some kind
    → AreWritten (content v (natural value)) (rows_in kind (content v (natural value))) (listed tree name kind)

-- The nodes: they are those of a plain tree, the tree stands on the volume, and no block is reached twice.
pub record HasSoundNodes (v : Volume) (tree : Tree) : Type 0 where
  pub plain : HasPlainNodes tree
  pub stands : Stands v tree
  pub once : IsOnce (reach v tree)

-- The indices: where there are any, the built-in ones are there with their kinds; and each lists what it has to.
pub record HasSoundIndices (v : Volume) (tree : Tree) : Type 0 where
  pub plain : HasPlainIndices tree.indices
  pub listed : HasIndices v tree

-- A volume is sound with a plain tree: in its nodes, in its indices, in the bits of its bitmap, and in the count of its used
-- blocks.
pub record IsSound (v : Volume) (tree : Tree) : Type 0 where
  pub nodes : HasSoundNodes v tree
  pub indices : HasSoundIndices v tree
  pub bits : Marks v (reach v tree)
  pub used : Counts v (reach v tree)

-- the volume that a superblock and blocks are
abbrev pub volume_of : Super → (ℕ → List ℕ) → Volume
volume_of s blocks = record { geometry = geometry_of s; blocks = blocks }

-- the superblock meets its conditions, and each block of the volume has a block's bytes
pub record IsVolume (s : Super) (blocks : ℕ → List ℕ) : Type 0 where
  pub super : IsValid s
  pub long : (k : ℕ) → k < natural s.num_blocks → length (blocks k) ≡ s.block_size

-- Whole, of a superblock and blocks: the superblock is valid, the log is empty, and the volume is sound with the tree
pub record Whole (s : Super) (blocks : ℕ → List ℕ) (tree : Tree) : Type 0 where
  pub valid : IsVolume s blocks
  pub emptied : s.log_start ≡ s.log_end
  pub sound : IsSound (volume_of s blocks) tree

-- Whole, of an image
pub record IsWhole (image : List ℕ) (tree : Tree) : Type 0 where
  pub valid : Valid image
  pub whole : Whole (super_of image) (blocks_of image) tree

-- an image recovers to a tree: replay of it gives an image that is whole with the tree
pub record Recovers (image : List ℕ) (tree : Tree) : Type 0 where
  pub result : List ℕ
  pub replayed : Replayed image result
  pub whole : IsWhole result tree
