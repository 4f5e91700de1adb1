-- What a step of a device does.
use Rattle.std.specs.Prelude.{◌≡◌, ◌⊎◌, IsSome, ◌≤◌, ℕ, ◌+◌, ◌-◌, ◌*◌, ◌^◌, min, List, [], ◌∷◌, ◌++◌, length, Bool, true, Option, Some, None, nat_lt, if◌then◌else◌}
use Rattle.bfs_base.specs.Counts.{Rose}
use Rattle.bfs_base.specs.Images.{IsBytes}
use Rattle.bfs_super.specs.declared.sup.Super.{Super}
use Rattle.bfs_super.specs.Layout.{super_at, sector_of}
use Rattle.bfs_log.specs.Replay.{log_from}
use Rattle.bfs_txn.specs.Changed.{number_at, bytes_at}
use Rattle.bfs_txn.specs.declared.group.Group.{Group}
use Rattle.bfs_device.specs.declared.journal.Phase.{Phase}
use Rattle.bfs_device.specs.declared.journal.Phase.TheVariants.{Log, LogSafe, Open, OpenSafe, Home as GoHome, HomeSafe, Tail, TailSafe, Pass}
use Rattle.bfs_device.specs.declared.journal.Progress.{Progress}
use Rattle.bfs_device.specs.declared.journal.Progress.TheVariants as made
use Rattle.bfs_device.specs.declared.journal.Mark.{Mark}
use Rattle.bfs_device.specs.declared.journal.DeviceFault.{DeviceFault}
use Rattle.bfs_device.specs.declared.journal.DeviceFault.TheVariants.{Disk, Stopped}
use Rattle.bfs_disk.specs.State.{State}
use Rattle.bfs_disk.specs.Disk.{MayLeave}
use Rattle.bfs_device.specs.Layouts.{layout_of, slot, ring_count, log_block, opened_of, closed_of}
use Rattle.bfs_device.specs.Calls.{Call, Write, Barrier, told_after, IsFailed, LeftDuring, touched_after}
use Rattle.bfs_device.specs.Books.{Books, durable_of}

-- the disk call of a phase
abbrev pub call_of : Super → Group → Phase → Call
call_of s g (Log at) = Write ((layout_of s).sectors * slot (layout_of s) (log_from s) at) (log_block s g.blocks at)
call_of s g LogSafe = Barrier
call_of s g Open = Write 1 (sector_of (opened_of s g))
call_of s g OpenSafe = Barrier
call_of s g (GoHome at) = Write ((layout_of s).sectors * number_at g.blocks at) (bytes_at g.blocks at)
call_of s g HomeSafe = Barrier
call_of s g Tail = Write 1 (sector_of (closed_of s g))
call_of s g TailSafe = Barrier
call_of s g Pass = Barrier

-- a superblock's sector reads as that superblock again, and has 512 bytes
abbrev pub ReadsBack : Super → Type 0
ReadsBack s = (super_at (sector_of s) ≡ s) × IsBytes (sector_of s) × (length (sector_of s) ≡ 512)

-- and so does the one that the call of this phase writes, where it writes one
abbrev pub PrintsBack : Super → Group → Phase → Type 0
PrintsBack s g (Log at) = Unit {0}
PrintsBack s g LogSafe = Unit {0}
PrintsBack s g Open = ReadsBack (opened_of s g)
PrintsBack s g OpenSafe = Unit {0}
PrintsBack s g (GoHome at) = Unit {0}
PrintsBack s g HomeSafe = Unit {0}
PrintsBack s g Tail = ReadsBack (closed_of s g)
PrintsBack s g TailSafe = Unit {0}
PrintsBack s g Pass = Unit {0}

-- what the call of a phase is told as
abbrev pub progress_in : Group → Phase → Progress
progress_in g (Log at) = made.Logged
progress_in g LogSafe = made.LogSafe
progress_in g Open = made.Opened
progress_in g OpenSafe = made.Durable g.last
progress_in g (GoHome at) = made.Home (number_at g.blocks at)
progress_in g HomeSafe = made.HomeSafe
progress_in g Tail = made.TailMoved
progress_in g TailSafe = made.TailSafe
progress_in g Pass = made.Durable g.last

-- the phase of a group at first
abbrev pub first_phase : List (ℕ × List ℕ) → Phase
first_phase [] = Pass
first_phase (p ∷ pairs) = Log 0

abbrev pub front_phase : List Group → Phase
front_phase [] = Pass
front_phase (g ∷ gs) = first_phase g.blocks

-- the phase behind this one, where the group stays
abbrev pub next_phase : Group → Phase → Phase
next_phase g (Log at) = if nat_lt (at + 1) (ring_count g.blocks) then Log (at + 1) else LogSafe
next_phase g LogSafe = Open
next_phase g Open = OpenSafe
next_phase g OpenSafe = GoHome 0
next_phase g (GoHome at) = if nat_lt (at + 1) (length g.blocks) then GoHome (at + 1) else HomeSafe
next_phase g HomeSafe = Tail
next_phase g Tail = TailSafe
next_phase g TailSafe = Pass
next_phase g Pass = Pass

-- one disk call more, counted up to the counter's end
abbrev pub counted : ℕ → ℕ
counted moment = min (moment + 1) (2 ^ 64 - 1)

-- a call counts one moment, and the disk's clock moves by one at most; or neither has moved
abbrev pub HasMoved : ℕ → ℕ → ℕ → ℕ → Type 0
HasMoved clock moment new_clock new_moment = ((new_clock ≡ clock) × (new_moment ≡ moment)) ⊎ ((new_clock ≤ clock + 1) × (new_moment ≡ counted moment))

-- what a device keeps once the call of its phase has succeeded
module _ (g : Group) (gs : List Group) (b : Books) where
  abbrev pub goes_on : Books
  goes_on = record b { phase = next_phase g b.phase; moment = counted b.moment }

  abbrev pub mark : Mark
  mark = record { moment = counted b.moment; number = g.last }

  abbrev pub marked : Books
  marked = record b { phase = next_phase g b.phase; moment = counted b.moment; marks = b.marks ++ mark ∷ [] }

  abbrev pub left_log : Books
  left_log = record b { sup = closed_of b.sup g; groups = gs; phase = front_phase gs; left = g.last; moment = counted b.moment }

  abbrev pub passed : Books
  passed = record b { groups = gs; phase = front_phase gs; left = g.last; moment = counted b.moment; marks = b.marks ++ mark ∷ [] }

  abbrev pub after_phase : Phase → Books
  after_phase (Log at) = goes_on
  after_phase LogSafe = goes_on
  after_phase Open = goes_on
  after_phase OpenSafe = marked
  after_phase (GoHome at) = goes_on
  after_phase HomeSafe = goes_on
  after_phase Tail = goes_on
  after_phase TailSafe = left_log
  after_phase Pass = passed

abbrev pub stepped_in : List Group → Books → Books
stepped_in [] b = b
stepped_in (g ∷ gs) b = after_phase g gs b b.phase

abbrev pub stepped : Books → Books
stepped b = stepped_in b.groups b

abbrev pub progress_to : List Group → Phase → Progress
progress_to [] phase = made.Idle
progress_to (g ∷ gs) phase = progress_in g phase

-- what the call of the first group's phase makes of a disk; without a group there is none
abbrev pub told_front : Super → List Group → Phase → Option State → Option State
told_front s [] phase told = told
told_front s (g ∷ gs) phase told = told_after (call_of s g phase) told

abbrev pub FailedFront : Super → List Group → Phase → Option State → Option State → Type 0
FailedFront s [] phase old new = ⊥
FailedFront s (g ∷ gs) phase old new = IsFailed (call_of s g phase) old new

abbrev pub LeftFront : Super → List Group → Phase → Option State → List ℕ → Type 0
LeftFront s [] phase told image = MayLeave told image
LeftFront s (g ∷ gs) phase told image = LeftDuring (call_of s g phase) told image

abbrev pub ReadFront : Super → List Group → Phase → Type 0
ReadFront s [] phase = Unit {0}
ReadFront s (g ∷ gs) phase = PrintsBack s g phase

abbrev pub touched_front : Super → List Group → Phase → (ℕ → Bool) → ℕ → Bool
touched_front s [] phase touched = touched
touched_front s (g ∷ gs) phase touched = touched_after (call_of s g phase) touched

-- the blocks that data writes have named since the last barrier that succeeded, after the call of a step
abbrev pub still_touched : Books → (ℕ → Bool) → ℕ → Bool
still_touched b touched = touched_front b.sup b.groups b.phase touched

-- the books once a write or a barrier has failed
abbrev pub halted : Books → ℕ → Books
halted b after = record b { moment = counted b.moment; stop = Some (record { durable = durable_of b; faults = after }) }

-- no disk call is made
abbrev pub IsUnmoved : Books → Type 0
IsUnmoved b = IsSome b.stop ⊎ (b.groups ≡ [])

-- A fault and its cause: in this call a write or a barrier failed, so that both counts rose, and the device has stopped; or it
-- had stopped before, and nothing has changed.
abbrev pub IsStepFault : Books → Books → ℕ → ℕ → ℕ → ℕ → DeviceFault → Type 0
IsStepFault b new old_faults faults old_stops stops (Disk before after stopped) =
    (b.stop ≡ None) × (before ≡ old_faults) × (after ≡ faults) × Rose old_faults faults × (stopped ≡ true) × Rose old_stops stops × (new ≡ halted b after)
IsStepFault b new old_faults faults old_stops stops (Stopped durable count) = (b.stop ≡ Some (record { durable = durable; faults = count })) × (new ≡ b)

-- the calls from a phase on until the group has left
abbrev pub calls_from : List (ℕ × List ℕ) → Phase → ℕ
calls_from pairs (Log at) = ring_count pairs - at + (length pairs + 6)
calls_from pairs LogSafe = length pairs + 6
calls_from pairs Open = length pairs + 5
calls_from pairs OpenSafe = length pairs + 4
calls_from pairs (GoHome at) = length pairs - at + 3
calls_from pairs HomeSafe = 3
calls_from pairs Tail = 2
calls_from pairs TailSafe = 1
calls_from pairs Pass = 1

-- those of groups that haven't begun
abbrev pub calls_of : List Group → ℕ
calls_of [] = 0
calls_of (g ∷ gs) = calls_from g.blocks (first_phase g.blocks) + calls_of gs

abbrev pub calls_in : List Group → Phase → ℕ
calls_in [] phase = 0
calls_in (g ∷ gs) phase = calls_from g.blocks phase + calls_of gs

-- the number of disk calls left until the device is idle
abbrev pub calls_left : Books → ℕ
calls_left b = calls_in b.groups b.phase
