-- What a disk may have of its superblock and of each block while a group goes home.
use Rattle.std.specs.Prelude.{◌≡◌, ◌⊎◌, ◌<◌, ℕ, ◌+◌, List, [], ◌∷◌, length, drop, Bool, true, false}
use Rattle.bfs_base.specs.Images.{IsBytes}
use Rattle.bfs_disk.specs.State.{State}
use Rattle.bfs_disk.specs.Blocks.{Known}
use Rattle.bfs_super.specs.declared.sup.Super.{Super}
use Rattle.bfs_super.specs.Layout.{super_at}
use Rattle.bfs_log.specs.Replay.{Home, over, log_from}
use Rattle.bfs_txn.specs.declared.group.Group.{Group}
use Rattle.bfs_device.specs.declared.journal.Phase.{Phase}
use Rattle.bfs_device.specs.declared.journal.Phase.TheVariants.{Log, LogSafe, Open, OpenSafe, Home as GoHome, HomeSafe, Tail, TailSafe, Pass}
use Rattle.bfs_device.specs.Layouts.{Layout, layout_of, IsData, slot, homes_in, ring_count, log_block, opened_of, closed_of}

-- the sector is this superblock
abbrev pub Says : Super → List ℕ → Type 0
Says s c = super_at c ≡ s

-- the sector is this superblock, in bytes
abbrev pub Gate : Super → List ℕ → Type 0
Gate s c = (super_at c ≡ s) × IsBytes c

abbrev pub Either : (List ℕ → Type 0) → (List ℕ → Type 0) → List ℕ → Type 0
Either S T c = S c ⊎ T c

-- the block is one of the homes
abbrev pub IsHomeOf : List Home → ℕ → Type 0
IsHomeOf [] b = ⊥
IsHomeOf (home ∷ homes) b = (b ≡ home.place) ⊎ IsHomeOf homes b

abbrev pub none : ℕ → Bool
none b = false

-- What a block may have: each data block but the loose homes and the touched has this version's bytes, and the first
-- so many blocks of the group stand in the log.
pub record Keeps (l : Layout) (start : ℕ) (blocks : ℕ → List ℕ) (loose : List Home) (touched : ℕ → Bool) (version : ℕ → List ℕ) (logged b : ℕ) (c : List ℕ) : Type 0 where
  pub held : IsData l b → IsHomeOf loose b ⊎ ((touched b ≡ true) ⊎ (c ≡ version b))
  pub ring : (j : ℕ) → j < logged → b ≡ slot l start j → c ≡ blocks j

-- what it may have where no group is on its way
abbrev pub Plain : Layout → (ℕ → Bool) → (ℕ → List ℕ) → ℕ → List ℕ → Type 0
Plain l touched version b c = IsData l b → (touched b ≡ true) ⊎ (c ≡ version b)

-- the log is empty, and no group is on its way
abbrev pub Rests : Super → (ℕ → List ℕ) → (ℕ → Bool) → State → Type 0
Rests s v touched st = Known st (layout_of s).sectors (Says s) (Says s) (Plain (layout_of s) touched v) (Plain (layout_of s) none v)

module _ (s : Super) (g : Group) (v : ℕ → List ℕ) (touched : ℕ → Bool) (st : State) where
  abbrev pub kept_by : List Home → (ℕ → Bool) → (ℕ → List ℕ) → ℕ → ℕ → List ℕ → Type 0
  kept_by loose t w logged = Keeps (layout_of s) (log_from s) (log_block s g.blocks) loose t w logged

  -- the version with the group
  abbrev pub newer : ℕ → List ℕ
  newer = over (homes_in g.blocks) v

  -- the log is empty, and so many blocks are written behind its end
  abbrev pub Logging : ℕ → Type 0
  Logging at = Known st (layout_of s).sectors (Says s) (Says s) (kept_by [] touched v 0) (kept_by [] none v at)

  -- all are there after a crash too
  abbrev pub Logged : Type 0
  Logged = Known st (layout_of s).sectors (Says s) (Says s) (kept_by [] touched v (ring_count g.blocks)) (kept_by [] none v (ring_count g.blocks))

  -- the gate is written
  abbrev pub Opened : Type 0
  Opened = Known st (layout_of s).sectors (Either (Says s) (Gate (opened_of s g))) (Gate (opened_of s g)) (kept_by [] touched v (ring_count g.blocks)) (kept_by [] none v (ring_count g.blocks))

  -- the gate is there after a crash too, and so many blocks are home
  abbrev pub Homing : ℕ → Type 0
  Homing at = Known st (layout_of s).sectors (Gate (opened_of s g)) (Gate (opened_of s g)) (kept_by (homes_in g.blocks) touched newer (ring_count g.blocks)) (kept_by (drop at (homes_in g.blocks)) none newer (ring_count g.blocks))

  -- all are home after a crash too
  abbrev pub AtHome : Type 0
  AtHome = Known st (layout_of s).sectors (Gate (opened_of s g)) (Gate (opened_of s g)) (kept_by [] touched newer (ring_count g.blocks)) (kept_by [] none newer (ring_count g.blocks))

  -- the log's new start is written
  abbrev pub Moved : Type 0
  Moved = Known st (layout_of s).sectors (Either (Gate (opened_of s g)) (Says (closed_of s g))) (Says (closed_of s g)) (kept_by [] touched newer (ring_count g.blocks)) (kept_by [] none newer (ring_count g.blocks))

  -- what the disk has before the call of a phase
  abbrev pub Stands : Phase → Type 0
  Stands (Log at) = Logging at
  Stands LogSafe = Logging (ring_count g.blocks)
  Stands Open = Logged
  Stands OpenSafe = Opened
  Stands (GoHome at) = Homing at
  Stands HomeSafe = Homing (length g.blocks)
  Stands Tail = AtHome
  Stands TailSafe = Moved
  Stands Pass = Rests s v touched st

  -- and after it
  abbrev pub Follows : Phase → Type 0
  Follows (Log at) = Logging (at + 1)
  Follows LogSafe = Logged
  Follows Open = Opened
  Follows OpenSafe = Homing 0
  Follows (GoHome at) = Homing (at + 1)
  Follows HomeSafe = AtHome
  Follows Tail = Moved
  Follows TailSafe = Rests (closed_of s g) newer touched st
  Follows Pass = Rests s v touched st
