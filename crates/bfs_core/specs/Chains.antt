-- One image behind each entry: a chain of images, from the one at mounting on.
use Rattle.std.specs.Prelude.{◌≡◌, ◌≢◌, ◌⊎◌, ◌≤◌, ◌+◌, ℕ, List, length, take, Option, Some, None, slice_get}
use Rattle.bfs_super.specs.declared.sup.Super.{Super}
use Rattle.bfs_super.specs.Geometry.{geometry_of}
use Rattle.bfs_log.specs.Replay.{super_of, blocks_of}
use Rattle.bfs_txn.specs.Changed.{newest}
use Rattle.bfs_tree.specs.declared.reply.Entry.{Entry}
use Rattle.bfs_tree.specs.Histories.{Mounted, after}
use Rattle.bfs_sound.specs.Volumes.{Volume}
use Rattle.bfs_sound.specs.Whole.{Whole}
use Rattle.bfs_device.specs.Layouts.{IsData, layout_of}
use Rattle.bfs_core.specs.Spaces.{SpaceView, face}
use Rattle.bfs_core.specs.Cores.{masked}
use Rattle.bfs_core.specs.Caused.{IsCausedBy}

-- an image of a volume: its superblock, and the bytes of its blocks
pub record Image : Type 0 where
  pub sup : Super
  pub blocks : ℕ → List ℕ

-- that of a disk's bytes
abbrev pub image_in : List ℕ → Image
image_in bytes = record { sup = super_of bytes; blocks = blocks_of bytes }

-- an image without block 0 and the log, as volumes are compared
abbrev pub bare : Image → Volume
bare i = record { geometry = geometry_of i.sup; blocks = masked (layout_of i.sup) i.blocks }

-- There is one image before the entries, which is this one, and one after each of them. Each is whole with the tree after the entries up to it,
-- and each entry is caused between the image before it and the one after it.
pub record IsChain (t0 : Mounted) (first : Image) (history : List Entry) (images : ℕ → Image) : Type 0 where
  pub first_is : images 0 ≡ first
  pub whole : (n : ℕ) → n ≤ length history → Whole (images n).sup (images n).blocks (after t0 (take n history))
  pub caused : (n : ℕ) (e : Entry) → slice_get history n ≡ Some e
      → IsCausedBy (bare (images n)) (bare (images (1 + n))) (after t0 (take n history)) (after t0 (take (1 + n) history)) e.call e.reply

-- An entry was caused between Face before it and Face after it, and what it added to the open group are blocks of data.
pub record IsLinked (t0 : Mounted) (old new : SpaceView) (m : ℕ → Option (List ℕ)) (e : Entry) : Type 0 where
  pub caused : IsCausedBy (face old m) (face new m) (after t0 old.history) (after t0 new.history) e.call e.reply
  pub places : (k : ℕ) → newest new.group k ≢ None → (newest old.group k ≢ None) ⊎ IsData (layout_of old.sup) k

-- A space over what is told has such a chain: the last image is Face, and the open group has blocks of data alone.
pub record HasChain (t0 : Mounted) (first : Image) (sp : SpaceView) (m : ℕ → Option (List ℕ)) : Type 0 where
  pub images : ℕ → Image
  pub chain : IsChain t0 first sp.history images
  pub now : bare (images (length sp.history)) ≡ face sp m
  pub places : (k : ℕ) → newest sp.group k ≢ None → IsData (layout_of sp.sup) k
