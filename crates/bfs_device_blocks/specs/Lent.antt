-- A device that is lent to be read, and what its reads leave.
use Rattle.std.specs.Prelude.{◌≡◌, ◌⊎◌, ◌≤◌, ◌<◌, ◌+◌, ◌-◌, ◌*◌, ◌^◌, ℕ, List, length, Bool, Option, Some, None}
use Rattle.bfs_base.specs.Moments.{Passed}
use Rattle.bfs_disk.specs.State.{State, Tells, Filled, IsHalfWritten}
use Rattle.bfs_disk.specs.Disk.{MayLeave}
use Rattle.bfs_tree.specs.Histories.{Mounted}
use Rattle.bfs_device.specs.Layouts.{layout_of}
use Rattle.bfs_device.specs.Books.{Books, View, IsOnDisk, IsRight, RecoversOne, durable_of}
use Rattle.bfs_device.specs.Data.{IsRested}
use Rattle.bfs_core.specs.Spaces.{SpaceView}
use Rattle.bfs_core.specs.Cores.{Core, newest_map}
use Rattle.bfs_core.specs.Chains.{Image, HasChain}
use Rattle.bfs_core.specs.Moments.{Adoption, Kept}
use Rattle.bfs_core.specs.KnownBytes.{HasKnown, HasKnownIn}
use Rattle.bfs_core.specs.Settled.{HasSettled}

-- what is noted for the owner of a lent device: the device as it was lent, and the name of the reference to it
pub record Lent (D : Type 0) : Type 0 where
  pub start : View D
  pub name : ℕ

-- What any number of reads leaves of a device. Its books are as before, but for the count of calls, and the disk holds what it
-- held, which a crash may leave so that it recovers to one of the versions. A crash meanwhile might have left what it might have
-- left before, or what recovers to one of them too. And the disk's clock went no faster than the count of calls, until that has
-- come to its end.
pub record HasBeenRead (b new : Books) (told after_it : Option State) (clock later : ℕ) (past since : ℕ → List ℕ → Type 0) : Type 0 where
  pub rests : IsRested b new
  pub same : after_it ≡ told
  pub recovers : (t : ℕ → Bool) (right : Tells told (IsRight b t)) (image : List ℕ) → MayLeave told image → RecoversOne b t right.0 image
  pub meanwhile : (t : ℕ → Bool) → Tells told (IsRight b t) → Passed clock later past since (λ c. Tells told (λ s. RecoversOne b t s c))
  pub slow : new.moment < 2 ^ 64 - 1 → (b.moment ≤ new.moment) × (later + b.moment ≤ clock + new.moment)

-- Where a chain of images is asked for from adoption on, there is one up to Face, and no crash takes bytes of files away that were known since the durable
-- entries.
pub record HasImages (t0 : Mounted) (adopted : Adoption) (sp : SpaceView) (b : Books) (told : Option State) : Type 0 where
  pub chain : (first : Image) → adopted.first ≡ Some first → (st : State) → told ≡ Some st → HasChain t0 first sp (newest_map b st)
  pub settled : (first : Image) → adopted.first ≡ Some first → (st : State) → told ≡ Some st → HasSettled t0 sp b st

-- Core from adoption on, with the known bytes of files, each of which the disk reads at its place, and with one image behind each entry. No more is
-- said of what a crash since each mark might have left than that it is kept.
abbrev pub HasCore : Mounted → Adoption → SpaceView → Books → Option State → ℕ → (ℕ → List ℕ → Type 0) → Type 0
HasCore t0 adopted sp b told clock since =
    Tells told (λ st. (t : ℕ → Bool) × Core t0 sp b t st × HasKnown t0 sp b st) × ∥ Kept t0 sp.history adopted b.marks (durable_of b) b.moment clock since ∥₁ × HasImages t0 adopted sp b told

-- bytes of files are written behind an entry, or no chain is asked for
abbrev pub IsBehindEntry : Adoption → SpaceView → Type 0
IsBehindEntry adopted sp = (adopted.first ≡ None) ⊎ (0 < length sp.history)

-- where the disk tells, each of its sectors has bytes, and it is as long as the volume
abbrev pub AreSized : Books → Option State → Type 0
AreSized b told = (st : State) → told ≡ Some st → Filled st × IsOnDisk (Some st.size) b.sup

-- Bytes were written at a block: each of its sectors is as it was or as written, and they have the bytes that are known of the block's places.
pub record IsWrittenOver (t0 : Mounted) (sp : SpaceView) (b : Books) (told after_it : Option State) (block : ℕ) (bytes : List ℕ) : Type 0 where
  pub long : length bytes ≡ 512 * (layout_of b.sup).sectors
  pub half : (st next : State) → told ≡ Some st → after_it ≡ Some next → IsHalfWritten st ((layout_of b.sup).sectors * block) bytes next
  pub known : (st : State) → told ≡ Some st → HasKnownIn t0 sp (newest_map b st) block bytes
