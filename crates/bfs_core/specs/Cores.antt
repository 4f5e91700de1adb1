-- Core: a space and a device together.
use Rattle.std.specs.Prelude.{◌≡◌, ◌≢◌, ◌⊎◌, ◌≤◌, ◌<◌, ℕ, List, [], length, take, Bool, false, true, Option, Some, None, unwrap_or, pos, if◌then◌else◌}
use Rattle.std.specs.List.{All}
use Rattle.bfs_disk.specs.State.{State}
use Rattle.bfs_super.specs.declared.sup.Super.{Super}
use Rattle.bfs_txn.specs.Changed.{newest}
use Rattle.bfs_txn.specs.declared.group.Group.{Group}
use Rattle.bfs_tree.specs.declared.reply.Reply.TheVariants.{Synced}
use Rattle.bfs_tree.specs.declared.reply.Entry.{Entry}
use Rattle.bfs_tree.specs.Histories.{Mounted, after, is_stop}
use Rattle.bfs_sound.specs.Volumes.{Volume}
use Rattle.bfs_sound.specs.Owners.{IsMetadata}
use Rattle.bfs_sound.specs.Whole.{IsSound, Recovers}
use Rattle.bfs_device.specs.Layouts.{Layout, layout_of, is_data}
use Rattle.bfs_device.specs.Books.{Books, IsRight, IsVersion, durable_of, sealed_of, used_of, version}
use Rattle.bfs_device.specs.Seals.{last_used}
use Rattle.bfs_device.specs.Ahead.{IsSteady, IsGroupOf, geometry_with}
use Rattle.bfs_core.specs.Spaces.{SpaceView, IsSoundOver, IsHeld, IsFaceMetadata, IsFaceData}

-- what a device tells a space: the newest version, but for block 0 and the log
abbrev pub newest_map : Books → State → ℕ → Option (List ℕ)
newest_map b st k = if is_data (layout_of b.sup) k then Some (version b st (sealed_of b) k) else None

-- a map of blocks without block 0 and the log
abbrev pub masked : Layout → (ℕ → List ℕ) → ℕ → List ℕ
masked l f k = if is_data l k then f k else []

-- the volume that the version of a number is
abbrev pub version_volume : Books → State → ℕ → Volume
version_volume b st n = record { geometry = geometry_with b.sup (used_of b n); blocks = masked (layout_of b.sup) (version b st n) }

-- the block is metadata of the version of a number
abbrev pub IsVersionMetadata : Mounted → List Entry → Books → State → ℕ → ℕ → Type 0
IsVersionMetadata t0 history b st n k = IsMetadata (version_volume b st n) (after t0 (take n history)) k

-- What an entry says to be durable is; and where the device hasn't stopped, no entry tells of a stop.
abbrev pub IsAcknowledged : ℕ → Entry → Type 0
IsAcknowledged durable e = (upto : ℕ) → e.reply ≡ Synced upto → upto ≤ durable

abbrev pub IsKnown : Books → Entry → Type 0
IsKnown b e = IsAcknowledged (durable_of b) e × (b.stop ≡ None → is_stop e.reply ≡ false)

-- A space and a device are of one volume. The sealed groups cover what the space says, with the used blocks that it says; where
-- nothing changed since, these are the used blocks now. Each entry of the history is known to the device.
pub record AreOneVolume (sp : SpaceView) (b : Books) : Type 0 where
  pub geometry : (used : ℕ) → geometry_with b.sup used ≡ geometry_with sp.sup used
  pub sealed : sealed_of b ≡ sp.sealed
  pub sealed_used : sp.sealed_used ≡ last_used b
  pub idle : sp.group ≡ [] → sp.used ≡ last_used b
  pub known : All (IsKnown b) sp.history

-- Each version is sound with the tree after its entries, and none of its metadata was named by a data write since the last
-- barrier.
pub record HasVersions (t0 : Mounted) (history : List Entry) (b : Books) (touched : ℕ → Bool) (st : State) : Type 0 where
  pub sound : (n : ℕ) → IsVersion b n → IsSound (version_volume b st n) (after t0 (take n history))
  pub untouched : (n k : ℕ) → IsVersion b n → IsVersionMetadata t0 history b st n k → touched k ≡ false

-- Nothing that a crash may bring back, or that is still written, is free for other use. A block of a version's metadata is
-- metadata in Face, or reserved until a later group has left. So is a block of a group that hasn't left the log. A block that
-- data writes have named since the last barrier is file data in Face, or reserved still.
pub record IsGuarded (t0 : Mounted) (sp : SpaceView) (b : Books) (touched : ℕ → Bool) (st : State) : Type 0 where
  pub metadata : (n k : ℕ) → IsVersion b n → IsVersionMetadata t0 sp.history b st n k → IsFaceMetadata t0 sp (newest_map b st) k ⊎ IsHeld n sp.given k
  pub groups : (g : Group) (k : ℕ) → IsGroupOf g b.groups → newest g.blocks k ≢ None
      → IsFaceMetadata t0 sp (newest_map b st) k ⊎ ((n : ℕ) → n < g.first → IsHeld n sp.given k)
  pub files : (k : ℕ) → touched k ≡ true → IsFaceData t0 sp (newest_map b st) k ⊎ IsHeld b.left sp.given k

-- Core, of a space, the books of a device, the blocks that data writes have named since the last barrier, and what the disk
-- holds: the space is sound over what the device tells, the device is right, and the two belong together.
pub record Core (t0 : Mounted) (sp : SpaceView) (b : Books) (touched : ℕ → Bool) (st : State) : Type 0 where
  pub space : IsSoundOver t0 sp (newest_map b st)
  pub steady : IsSteady b
  pub right : IsRight b touched st
  pub one : AreOneVolume sp b
  pub versions : HasVersions t0 sp.history b touched st
  pub guarded : IsGuarded t0 sp b touched st

-- Face with the bytes of every block: the open group's, else the newest sealed group's, else what the disk reads. Its superblock
-- is the device's, with the space's used blocks and an empty log.
abbrev pub face_blocks : SpaceView → Books → State → ℕ → List ℕ
face_blocks sp b st k = unwrap_or (newest sp.group k) (version b st (sealed_of b) k)

abbrev pub face_super : SpaceView → Books → Super
face_super sp b = record b.sup { used_blocks = pos sp.used; log_end = b.sup.log_start }

-- the image recovers to the tree after a prefix of the history, of so many entries at least and at most
abbrev pub RecoversWithin : Mounted → List Entry → ℕ → ℕ → List ℕ → Type 0
RecoversWithin t0 history low high image = (k : ℕ) × (low ≤ k) × (k ≤ high) × Recovers image (after t0 (take k history))

-- of so many entries at least
abbrev pub RecoversFrom : Mounted → List Entry → ℕ → List ℕ → Type 0
RecoversFrom t0 history n image = RecoversWithin t0 history n (length history) image
