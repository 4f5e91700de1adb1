-- A space over a device: what is true of the two together.
use Rattle.std.specs.Prelude.{◌≡◌, ◌⊎◌, ◌≤◌, ◌<◌, ℕ, List, [], length, Bool, false, Option, Some, None}
use Rattle.std.specs.List.{All, list_any}
use Rattle.bfs_disk.specs.State.{State}
use Rattle.bfs_bitmap.specs.Runs.{Fits}
use Rattle.bfs_txn.specs.Changed.{over}
use Rattle.bfs_tree.specs.Histories.{Mounted, after, is_stop}
use Rattle.bfs_count.specs.Counts.{nodes_of}
use Rattle.bfs_tree.specs.Trees.{Tree}
use Rattle.bfs_sound.specs.Whole.{Recovers}
use Rattle.bfs_device.specs.declared.journal.Mark.{Mark}
use Rattle.bfs_device.specs.Books.{Books, View, durable_of, sealed_of}
use Rattle.bfs_device.specs.Seals.{last_used}
use Rattle.bfs_device.specs.Ahead.{geometry_with}
use Rattle.bfs_core.specs.Spaces.{SpaceView}
use Rattle.bfs_core.specs.Cores.{Core, newest_map}
use Rattle.bfs_core.specs.KnownBytes.{HasKnown}
use Rattle.bfs_space.specs.Books.{SpaceBooks}
use Rattle.bfs_commit.specs.Open.{OpenView}

-- some entry waits for a seal, or no entry and no block does
abbrev pub WaitsByEntry : SpaceView → Type 0
WaitsByEntry sp = (sp.sealed < length sp.history) ⊎ ((sp.sealed ≡ length sp.history) × (sp.group ≡ []))

-- A space and a device of one volume, by their numbers, whatever the disk tells: the sealed groups cover what the space says, with the used
-- blocks that it says; and where nothing changed since, these are the used blocks now. While the
-- device goes on no entry says that it has stopped. No mark is above the durable number. No block waits for a seal where no entry does.
pub record AreFitted (sp : SpaceView) (b : Books) : Type 0 where
  pub geometry : (used : ℕ) → geometry_with b.sup used ≡ geometry_with sp.sup used
  pub sealed : sealed_of b ≡ sp.sealed
  pub sealed_used : sp.sealed_used ≡ last_used b
  pub idle : sp.group ≡ [] → sp.used ≡ last_used b
  pub going : b.stop ≡ None → list_any (λ e. is_stop e.reply) sp.history ≡ false
  pub reached : All (λ (m : Mark). m.number ≤ durable_of b) b.marks
  pub waits : WaitsByEntry sp

-- What the disk tells, the two stand on: for some tree and bytes at mounting they are a core, the disk reads each known byte at its place, and
-- the bitmap fits Face; and the space counts the nodes that the tree has.
pub record Stands (sp : SpaceBooks) (b : Books) (st : State) : Type 0 where
  pub t0 : Mounted
  pub touched : ℕ → Bool
  pub core : Core t0 sp.view b touched st
  pub known : HasKnown t0 sp.view b st
  pub fits : Fits sp.room (over sp.view.group (newest_map b st))
  pub counted : sp.nodes ≡ nodes_of (after t0 sp.view.history)

-- A space and a device that belong together: by their numbers, and on what the disk tells, where it does.
pub record AreJoined (sp : SpaceBooks) (b : Books) (told : Option State) : Type 0 where
  pub fitted : AreFitted sp.view b
  pub stands : (st : State) → told ≡ Some st → Stands sp b st

-- a volume: its space, its device, its clock, and the pieces of files that sessions hold
pub record VolumeView (D C : Type 0) : Type 0 where
  pub space : SpaceBooks
  pub device : View D
  pub clock : C
  pub pieces : List OpenView

-- an image recovers to some tree
abbrev pub HasTree : List ℕ → Type 0
HasTree image = (tree : Tree) × Recovers image tree
