-- What a volume leaves on its disk: one image behind each entry, and once it was closed well, all of it.
use Rattle.std.specs.Prelude.{◌≡◌, ℕ, List, length, Option}
use Rattle.bfs_disk.specs.State.{State, ReadsAs, Tells}
use Rattle.bfs_tree.specs.declared.reply.Entry.{Entry}
use Rattle.bfs_tree.specs.Histories.{Mounted, after, state_after}
use Rattle.bfs_sound.specs.Whole.{IsWhole}
use Rattle.bfs_core.specs.Chains.{Image, IsChain, bare, image_in}
use Rattle.bfs_core.specs.KnownBytes.{HasBytesOf}

-- an image is whole with the tree after the entries, and its files have the bytes that are known then
pub record IsLeft (t0 : Mounted) (history : List Entry) (image : List ℕ) : Type 0 where
  pub whole : IsWhole image (after t0 history)
  pub bytes : HasBytesOf image (record { tree = after t0 history; bytes = (state_after t0 history).known })

-- There is one image before the entries, this one, and one behind each of them; and where all went well, the last is what the disk reads, but for
-- block 0 and the log.
pub record IsChained (t0 : Mounted) (first : Image) (history : List Entry) (told : Option State) (Well : Type 0) : Type 0 where
  pub images : ℕ → Image
  pub chain : IsChain t0 first history images
  pub last : Well → (image : List ℕ) → Tells told (λ st. ReadsAs st image) → bare (images (length history)) ≡ bare (image_in image)
