-- A disk call that a device makes, and what it does to a disk.
use Rattle.std.specs.Prelude.{◌≡◌, ◌≤◌, ℕ, List, Option, Some, None, Bool, false}
use Rattle.std.specs.Option.{option_map}
use Rattle.bfs_disk.specs.State.{State, written, settled}
use Rattle.bfs_disk.specs.Disk.{MayLeave, told_written, HalfWritten}

-- a write of bytes from a sector on, or a barrier
pub data Call : Type 0 where
  Write : (at : ℕ) (bytes : List ℕ) → Call
  Barrier : Call

-- the disk after the call
abbrev pub told_after : Call → Option State → Option State
told_after (Write at bytes) old = told_written old at bytes
told_after Barrier old = option_map settled old

abbrev pub state_after : Call → State → State
state_after (Write at bytes) state = written state at bytes
state_after Barrier state = settled state

-- the blocks that data writes have named since the last barrier that succeeded
abbrev pub touched_after : Call → (ℕ → Bool) → ℕ → Bool
touched_after (Write at bytes) touched = touched
touched_after Barrier touched = λ b. false

-- the disk after the call has failed
abbrev pub IsFailed : Call → Option State → Option State → Type 0
IsFailed (Write at bytes) old new = HalfWritten old at bytes new
IsFailed Barrier old new = new ≡ old

-- what a crash during the call may leave
abbrev pub LeftDuring : Call → Option State → List ℕ → Type 0
LeftDuring (Write at bytes) old = MayLeave (told_written old at bytes)
LeftDuring Barrier old = MayLeave old

-- the disk has two sectors at least, a number that is known
abbrev pub HasTwo : Option ℕ → Type 0
HasTwo None = ⊥
HasTwo (Some n) = 2 ≤ n
