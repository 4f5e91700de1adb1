-- The bytes of files that are known, and what the disk has of them.
use Rattle.std.specs.Prelude.{◌≡◌, ◌⊎◌, ◌/◌, ◌%◌, ℕ, List, Option, Some, slice_get}
use Rattle.std.specs.FinMap.{get}
use Rattle.bfs_disk.specs.State.{State}
use Rattle.bfs_disk.specs.Blocks.{contents_of}
use Rattle.bfs_log.specs.Replay.{super_of, blocks_of}
use Rattle.bfs_tree.specs.Trees.{Tree}
use Rattle.bfs_tree.specs.Histories.{Mounted, IsFilePlace, after, state_after}
use Rattle.bfs_sound.specs.Volumes.{Volume}
use Rattle.bfs_sound.specs.Inodes.{stream_blocks}
use Rattle.bfs_sound.specs.Whole.{volume_of}
use Rattle.bfs_device.specs.Layouts.{layout_of}
use Rattle.bfs_device.specs.Books.{Books}
use Rattle.bfs_core.specs.Spaces.{SpaceView, face}
use Rattle.bfs_core.specs.Cores.{newest_map}

-- the block of a file's stream in which a place of it lies
abbrev pub block_at : Volume → ℕ → ℕ → Option ℕ
block_at v id place = slice_get (stream_blocks v id) (place / v.geometry.block_size)

-- a place of a regular file lies in a block of its stream that has this byte there
pub record HasByte (v : Volume) (tree : Tree) (contents : ℕ → List ℕ) (id place byte : ℕ) : Type 0 where
  pub file : IsFilePlace tree id place
  pub block : ℕ
  pub is : block_at v id place ≡ Some block
  pub byte_is : slice_get (contents block) (place % v.geometry.block_size) ≡ Some byte

-- Each byte that is known is what the disk reads at its place, by the file's blocks in Face.
abbrev pub HasKnown : Mounted → SpaceView → Books → State → Type 0
HasKnown t0 sp b st = (id place byte : ℕ) → get (state_after t0 sp.history).known (id, place) ≡ Some byte
    → HasByte (face sp (newest_map b st)) (after t0 sp.history) (contents_of st (layout_of b.sup).sectors) id place byte

-- what stood at mounting has the bytes of the image's files
abbrev pub HasBytesOf : List ℕ → Mounted → Type 0
HasBytesOf image t0 = (id place byte : ℕ) → get t0.bytes (id, place) ≡ Some byte → HasByte (volume_of (super_of image) (blocks_of image)) t0.tree (blocks_of image) id place byte

-- a place of a file that is one still, in the same block
pub record StaysInBlock (t0 : Mounted) (old new : SpaceView) (m : ℕ → Option (List ℕ)) (id place : ℕ) : Type 0 where
  pub file : IsFilePlace (after t0 new.history) id place
  pub block : block_at (face new m) id place ≡ block_at (face old m) id place

-- An entry has kept the files: each byte that is known after it was known before, at a place that stays in its block, or is on
-- the disk, as those of a whole write are, in the block that the file had there.
abbrev pub KeepsFiles : Mounted → SpaceView → SpaceView → (ℕ → Option (List ℕ)) → (ℕ → List ℕ) → Type 0
KeepsFiles t0 old new m contents = (id place byte : ℕ) → get (state_after t0 new.history).known (id, place) ≡ Some byte
    → ((get (state_after t0 old.history).known (id, place) ≡ Some byte) × StaysInBlock t0 old new m id place)
    ⊎ (HasByte (face new m) (after t0 new.history) contents id place byte × (block_at (face new m) id place ≡ block_at (face old m) id place))

-- the block has each byte that is known of a place in it
abbrev pub HasKnownIn : Mounted → SpaceView → (ℕ → Option (List ℕ)) → ℕ → List ℕ → Type 0
HasKnownIn t0 sp m block bytes = (id place byte : ℕ) → get (state_after t0 sp.history).known (id, place) ≡ Some byte → block_at (face sp m) id place ≡ Some block
    → slice_get bytes (place % sp.sup.block_size) ≡ Some byte
