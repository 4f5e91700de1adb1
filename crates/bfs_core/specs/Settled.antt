-- Bytes of files that no crash takes away any more: those that were known when the durable entries had come, and weren't forgotten since.
use Rattle.std.specs.Prelude.{◌≡◌, ◌≤◌, ◌+◌, ◌*◌, ◌/◌, ◌%◌, ℕ, List, length, take, Some, slice_get}
use Rattle.std.specs.FinMap.{get}
use Rattle.bfs_disk.specs.State.{State, IsOneOf}
use Rattle.bfs_log.specs.Replay.{super_of, blocks_of}
use Rattle.bfs_tree.specs.declared.reply.Entry.{Entry}
use Rattle.bfs_tree.specs.Histories.{Mounted, IsFilePlace, after, state_after}
use Rattle.bfs_sound.specs.Whole.{Recovers, volume_of}
use Rattle.bfs_device.specs.Layouts.{layout_of}
use Rattle.bfs_device.specs.Books.{Books, IsVersion, durable_of}
use Rattle.bfs_core.specs.Spaces.{SpaceView, face}
use Rattle.bfs_core.specs.Cores.{newest_map, version_volume}
use Rattle.bfs_core.specs.KnownBytes.{HasByte, block_at}

-- each content that a sector may have has this byte at a place
abbrev pub AllHave : State → ℕ → ℕ → ℕ → Type 0
AllHave st sector place byte = (c : List ℕ) → IsOneOf (st.contents sector) c → slice_get c place ≡ Some byte

-- a byte was known after so many entries, and after each entry since
abbrev pub IsKnownSince : Mounted → List Entry → ℕ → ℕ → ℕ → ℕ → Type 0
IsKnownSince t0 history n id place byte = (m : ℕ) → n ≤ m → m ≤ length history → get (state_after t0 (take m history)).known (id, place) ≡ Some byte

-- A byte that was known since the durable entries stands in each content that its sector may have. And where it was known since the entries of a
-- version, the file has it in the same block there as in Face.
pub record HasSettled (t0 : Mounted) (sp : SpaceView) (b : Books) (st : State) : Type 0 where
  pub contents : (id place byte block : ℕ) → IsKnownSince t0 sp.history (durable_of b) id place byte → block_at (face sp (newest_map b st)) id place ≡ Some block
      → AllHave st ((layout_of b.sup).sectors * block + place % sp.sup.block_size / 512) (place % sp.sup.block_size % 512) byte
  pub versions : (n : ℕ) → IsVersion b n → (id place byte : ℕ) → IsKnownSince t0 sp.history n id place byte
      → IsFilePlace (after t0 (take n sp.history)) id place × (block_at (version_volume b st n) id place ≡ block_at (face sp (newest_map b st)) id place)

-- A file has a byte in what replay gives of an image, in a block that replay doesn't write.
pub record IsKeptIn (image : List ℕ) (t0 : Mounted) (history : List Entry) (number : ℕ) (recovers : Recovers image (after t0 (take number history))) (id place byte : ℕ) : Type 0 where
  pub has : HasByte (volume_of (super_of recovers.result) (blocks_of recovers.result)) (after t0 (take number history)) (blocks_of recovers.result) id place byte
  pub unwritten : blocks_of recovers.result has.block ≡ blocks_of image has.block

-- An image recovers to the tree after a prefix of the entries, of so many at least, and its files have each byte then that was known since so many.
pub record KeepsKnown (t0 : Mounted) (history : List Entry) (n : ℕ) (image : List ℕ) : Type 0 where
  pub number : ℕ
  pub low : n ≤ number
  pub high : number ≤ length history
  pub recovers : Recovers image (after t0 (take number history))
  pub bytes : (id place byte : ℕ) → IsKnownSince t0 history n id place byte → IsKeptIn image t0 history number recovers id place byte
