-- What a device tells a space, and what stays of it over events.
use Rattle.std.specs.Prelude.{◌≡◌, ◌≢◌, ℕ, List, Bool, false, Option, Some, None, IsSome}
use Rattle.std.specs.List.{list_any}
use Rattle.std.specs.Option.{option_map}
use Rattle.bfs_base.specs.Lists.{times}
use Rattle.bfs_disk.specs.State.{State, Tells}
use Rattle.bfs_txn.specs.Changed.{over}
use Rattle.bfs_txn.specs.declared.group.Group.{Group}
use Rattle.bfs_tree.specs.Histories.{Mounted, is_stop}
use Rattle.bfs_sound.specs.Owners.{fixed_blocks}
use Rattle.bfs_device.specs.Books.{Books, AreSame}
use Rattle.bfs_device.specs.Data.{AreSameBut}
use Rattle.bfs_device.specs.Ahead.{IsSteady, GoesOn}
use Rattle.bfs_device.specs.Seals.{sealed_with}
use Rattle.bfs_core.specs.Spaces.{SpaceView, IsFaceMetadata, IsGroupFor, IsSoundOver, face}
use Rattle.bfs_core.specs.Cores.{Core, newest_map}

-- What a device tells is what its space stands over: the space is sound over it, each metadata block of Face is told but block 0
-- and those of the log, and while the device goes on no entry says that the disk has stopped.
pub record StandsOver (t0 : Mounted) (sp : SpaceView) (b : Books) (m : ℕ → Option (List ℕ)) : Type 0 where
  pub sound : IsSoundOver t0 sp m
  pub told : (k : ℕ) → IsFaceMetadata t0 sp m k → times k (fixed_blocks (face sp m)) ≡ 0 → IsSome (over sp.group m k)
  pub size : b.sup.block_size ≡ sp.sup.block_size
  pub going : b.stop ≡ None → list_any (λ e. is_stop e.reply) sp.history ≡ false

abbrev pub CoreStandsOver : Type 0
CoreStandsOver = (t0 : Mounted) (sp : SpaceView) (b : Books) (told : Option State) (m : ℕ → Option (List ℕ)) → Tells told (λ st. (t : ℕ → Bool) × Core t0 sp b t st) → option_map (newest_map b) told ≡ Some m → StandsOver t0 sp b m

-- a device that goes on tells what it told
abbrev pub NewestStays : Type 0
NewestStays = (b new : Books) (st next : State) → IsSteady new → GoesOn b new → AreSame b st new next → newest_map new next ≡ newest_map b st

-- and after a seal it tells what the open group had over that
abbrev pub NewestIsSealed : Type 0
NewestIsSealed = (t0 : Mounted) (sp : SpaceView) (b : Books) (t : ℕ → Bool) (st : State) (g : Group) → Core t0 sp b t st → IsGroupFor sp g → (k : ℕ) → newest_map (sealed_with b g) st k ≡ over sp.group (newest_map b st) k

-- and after a data write what it told of every other block
abbrev pub NewestIsWritten : Type 0
NewestIsWritten = (b new : Books) (st next : State) (block : ℕ) → IsSteady b → new ≡ record b { moment = new.moment; stop = new.stop } → AreSameBut block b st new next → (k : ℕ) → k ≢ block → newest_map new next k ≡ newest_map b st k
