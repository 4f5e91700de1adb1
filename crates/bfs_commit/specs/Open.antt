-- A piece of a file that a session holds: the blocks that have it, what the disk has of its bytes, and that events of other sessions leave both.
use Rattle.std.specs.Prelude.{◌≡◌, ◌≢◌, ◌⊎◌, ◌+◌, ◌-◌, ◌/◌, ◌%◌, ℕ, List, [], ◌∷◌, ◌++◌, Bool, if◌then◌else◌, true, false, ◌&&◌, not, nat_eq, nat_lt, ◌<◌, length, map, min, slice_get, slice_index, take, Option, Some, None, unwrap_or, Result, Ok, Err}
use Rattle.std.specs.List.{All}
use Rattle.bfs_base.specs.Lists.{IsOnce}
use Rattle.bfs_disk.specs.State.{State}
use Rattle.bfs_tree.specs.declared.state.Hold.{Hold}
use Rattle.bfs_device.specs.Books.{Books}
use Rattle.bfs_device.specs.Layouts.{IsData, layout_of}
use Rattle.bfs_device.specs.declared.journal.DeviceFault.{DeviceFault}
use Rattle.bfs_core.specs.Spaces.{SpaceView}
use Rattle.bfs_core.specs.Cores.{newest_map}
use Rattle.bfs_space.specs.Books.{SpaceBooks}
use Rattle.bfs_space.specs.Holds.{held_by}
use Rattle.bfs_space.specs.Places.{piece_blocks}
use Rattle.bfs_pieces.specs.Pieces.{IsPieceOf}
use Rattle.bfs_commit.specs.Held.{HasPlaces}
use Rattle.bfs_commit.specs.Holding.{IsOneOf}

-- A piece that is held: its hold, the blocks that have its bytes, these bytes, how many of them were written or read, the fault that it met, and what was
-- read of the block that is written next, where that was read already: a block of which only a part is written is read first.
pub record OpenView : Type 0 where
  pub hold : Hold
  pub places : List ℕ
  pub bytes : List ℕ
  pub done : ℕ
  pub fault : Option DeviceFault
  pub loaded : List ℕ

-- such a piece, by its parts; and one of whose next block nothing was read
abbrev pub open_with : Hold → List ℕ → List ℕ → ℕ → Option DeviceFault → List ℕ → OpenView
open_with hold places bytes done fault loaded = record { hold = hold; places = places; bytes = bytes; done = done; fault = fault; loaded = loaded }

abbrev pub open_of : Hold → List ℕ → List ℕ → ℕ → Option DeviceFault → OpenView
open_of hold places bytes done fault = open_with hold places bytes done fault []

-- what a device tells of a block
abbrev pub told_block : Books → State → ℕ → List ℕ
told_block b st k = unwrap_or (newest_map b st k) []

-- a piece is written and read up to the end of a block each time
abbrev pub IsEven : ℕ → OpenView → Type 0
IsEven size p = (p.done ≡ 0) ⊎ ((p.hold.at + p.done) % size ≡ 0) ⊎ (p.done ≡ length p.bytes)

-- the block in which it goes on, how many of its bytes are in that, and how many are made once they are
abbrev pub next_place : ℕ → OpenView → ℕ
next_place size p = slice_index p.places ((p.hold.at % size + p.done) / size)

abbrev pub next_count : ℕ → OpenView → ℕ
next_count size p = min (length p.bytes - p.done) (size - (p.hold.at + p.done) % size)

abbrev pub next_done : ℕ → OpenView → ℕ
next_done size p = p.done + next_count size p

-- some of it is left, and what was read of its next block is what the device tells there
pub record IsLoaded (size : ℕ) (p : OpenView) (b : Books) (told : Option State) : Type 0 where
  pub more : p.done < length p.bytes
  pub same : (st : State) → told ≡ Some st → p.loaded ≡ told_block b st (next_place size p)

-- A piece is held, over what a device tells: its hold is one of those after the entries; its places are the file's blocks that have it, each one of
-- data; it was written or read up to the end of a block; of the bytes that were written or read each is what the device tells at its place; and nothing
-- was read of the next block, or all of it was.
pub record IsOpen (p : OpenView) (sp : SpaceView) (b : Books) (told : Option State) : Type 0 where
  pub held : IsOneOf p.hold (held_by sp.history)
  pub has : HasPlaces sp b told p.hold.id p.hold.at p.hold.length p.places
  pub blocks : All (IsData (layout_of b.sup)) p.places
  pub long : length p.bytes ≡ p.hold.length
  pub even : IsEven sp.sup.block_size p
  pub made : (st : State) → told ≡ Some st → IsPieceOf (told_block b st) sp.sup.block_size p.places (p.hold.at % sp.sup.block_size) (take p.done p.bytes)
  pub kept : (p.loaded ≡ []) ⊎ IsLoaded sp.sup.block_size p b told

-- how many whole blocks there are in so many bytes that begin so far behind the start of a block
abbrev pub whole_blocks : ℕ → ℕ → ℕ → ℕ
whole_blocks size from n = (n - (size - from) % size) / size

-- whether its next block was read
abbrev pub is_loaded : ℕ → OpenView → Bool
is_loaded size p = nat_eq (length p.loaded) size

-- of how many of its blocks that are left it has only a part
abbrev pub parts_left : ℕ → OpenView → ℕ
parts_left size p = piece_blocks size (p.hold.at + p.done) (length p.bytes - p.done) - whole_blocks size ((p.hold.at + p.done) % size) (length p.bytes - p.done)

-- how many blocks are left that are read before they are written: of a piece that is written each of which it has only a part, unless it was read already
abbrev pub reads_left : ℕ → OpenView → ℕ
reads_left size p = if p.hold.write then parts_left size p - (if is_loaded size p then 1 else 0) else 0

-- how many disk calls are left to write or read it, one for each block and one more for each that is read before: none, once a fault was met
abbrev pub left_after : ℕ → OpenView → Option DeviceFault → ℕ
left_after size p None = piece_blocks size (p.hold.at + p.done) (length p.bytes - p.done) + reads_left size p
left_after size p (Some fault) = 0

abbrev pub calls_left : ℕ → OpenView → ℕ
calls_left size p = left_after size p p.fault

-- whether the next call reads a block that is to be written: a part of it is, and it wasn't read yet
abbrev pub reads_next : ℕ → OpenView → Bool
reads_next size p = p.hold.write && nat_lt (next_count size p) size && not (is_loaded size p)

-- What one disk call makes of a piece: the next block was read, of which a part is to be written; or it was written or read.
abbrev pub HasMade : ℕ → OpenView → OpenView → Bool → Type 0
HasMade size p new true = (length new.loaded ≡ size) × (new ≡ record p { loaded = new.loaded })
HasMade size p new false = new ≡ record p { done = next_done size p; bytes = new.bytes; loaded = [] }

-- the sessions that are promised an entry: session 0, and each that holds a piece
abbrev pub sessions_of : List OpenView → List ℕ
sessions_of pieces = 0 ∷ map (λ (p : OpenView). p.hold.session) pieces

-- The pieces that are held, in the order of their holds: the entries' holds are theirs; no session has two, and session 0 has none; each session is
-- promised the entry of its release; and each piece is held over what the device tells.
pub record AreOpen (pieces : List OpenView) (sp : SpaceBooks) (b : Books) (told : Option State) : Type 0 where
  pub promised : sp.promised ≡ sessions_of pieces
  pub once : IsOnce (sessions_of pieces)
  pub holds : held_by sp.view.history ≡ map (λ (p : OpenView). p.hold) pieces
  pub each : (i : ℕ) (p : OpenView) → slice_get pieces i ≡ Some p → IsOpen p sp.view b told

-- no session's piece is there; or it is at this place
abbrev pub HoldsNone : List OpenView → ℕ → Type 0
HoldsNone pieces session = (i : ℕ) (p : OpenView) → slice_get pieces i ≡ Some p → p.hold.session ≢ session

abbrev pub HoldsAt : List OpenView → ℕ → ℕ → Type 0
HoldsAt pieces session i = (p : OpenView) × (slice_get pieces i ≡ Some p) × (p.hold.session ≡ session)

-- the piece of a session, at its place among those that are held
pub record HoldsOne (pieces : List OpenView) (session : ℕ) : Type 0 where
  pub at : ℕ
  pub piece : OpenView
  pub there : slice_get pieces at ≡ Some piece
  pub own : piece.hold.session ≡ session

-- the pieces with one more, or as they were
abbrev pub kept_if : Bool → List OpenView → OpenView → List OpenView
kept_if d pieces p = if d then pieces ++ p ∷ [] else pieces

-- how a piece was written or read: whole, or up to a fault
abbrev pub made_of : Option DeviceFault → Result Unit DeviceFault
made_of None = Ok tt
made_of (Some fault) = Err fault
