-- The clauses of a disk's calls. A disk may tell what it holds, or not: then anything may be on it.
use Rattle.std.specs.Prelude.{◌≡◌, ◌<◌, ◌≤◌, ℕ, ◌+◌, ◌/◌, List, length, Option, Some, None}
use Rattle.bfs_base.specs.Images.{sector}
use Rattle.bfs_disk.specs.State.{State, IsImage, IsHalfWritten, written, newest}

-- a crash now may leave this image
abbrev pub MayLeave : Option State → List ℕ → Type 0
MayLeave None image = Unit {0}
MayLeave (Some state) image = IsImage state image

-- after a write that failed
abbrev pub HalfWritten : Option State → ℕ → List ℕ → Option State → Type 0
HalfWritten None at bytes new = new ≡ None
HalfWritten (Some state) at bytes new = (half : State) × (new ≡ Some half) × IsHalfWritten state at bytes half

-- the state after a write, where told
abbrev pub told_written : Option State → ℕ → List ℕ → Option State
told_written None at bytes = None
told_written (Some state) at bytes = Some (written state at bytes)

-- the bytes read are those of the sectors from this one on
abbrev pub ReadsSectors : Option State → ℕ → List ℕ → Type 0
ReadsSectors None at bytes = Unit {0}
ReadsSectors (Some state) at bytes = (k : ℕ) → k < length bytes / 512 → sector k bytes ≡ newest state (at + k)

-- the sectors from this one on are on the disk, as many as the bytes fill
abbrev pub InRange : Option ℕ → ℕ → List ℕ → Type 0
InRange None at bytes = ⊥
InRange (Some size) at bytes = at + length bytes / 512 ≤ size

-- the number of sectors, once known, stays
abbrev pub StaysKnown : Option ℕ → Option ℕ → Type 0
StaysKnown None new = Unit {0}
StaysKnown (Some size) new = new ≡ Some size

-- the disk has so many sectors at least, and their number is known
abbrev pub HasSectors : Option ℕ → ℕ → Type 0
HasSectors None n = ⊥
HasSectors (Some size) n = n ≤ size
