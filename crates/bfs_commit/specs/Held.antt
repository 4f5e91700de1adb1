-- A hold on a piece of a file that was taken, the blocks that have its bytes, and what they are on the disk.
use Rattle.std.specs.Prelude.{◌≡◌, ◌⊎◌, ◌++◌, ◌∷◌, ◌%◌, ◌/◌, ◌+◌, ◌<◌, slice_get, slice_index, ℕ, ℤ, List, [], length, Bool, true, false, Option, Some, None, Result, Ok, Err}
use Rattle.std.specs.List.{All}
use Rattle.bfs_disk.specs.State.{State}
use Rattle.bfs_disk.specs.Blocks.{contents_of}
use Rattle.bfs_tree.specs.declared.call.Call.TheVariants as calls
use Rattle.bfs_tree.specs.declared.reply.Reply.TheVariants as replies
use Rattle.bfs_tree.specs.declared.reply.Entry.{Entry}
use Rattle.bfs_tree.specs.Steps.{is_done}
use Rattle.bfs_sound.specs.Inodes.{stream_blocks}
use Rattle.bfs_device.specs.Layouts.{IsData, layout_of}
use Rattle.bfs_device.specs.Books.{Books}
use Rattle.bfs_device.specs.declared.journal.DeviceFault.{DeviceFault}
use Rattle.bfs_device.specs.declared.journal.DeviceFault.TheVariants as device
use Rattle.bfs_space.specs.Places.{piece_blocks}
use Rattle.bfs_core.specs.Spaces.{SpaceView, face}
use Rattle.bfs_core.specs.Cores.{newest_map}
use Rattle.bfs_space.specs.Books.{SpaceBooks}
use Rattle.bfs_space.specs.declared.space.Outcome.{Outcome}
use Rattle.bfs_space.specs.declared.space.Outcome.TheVariants.{Replied, Drain}
use Rattle.bfs_pieces.specs.Pieces.{IsPieceOf}
use Rattle.bfs_commit.specs.Entries.{HasEntryOf}
use Rattle.bfs_commit.specs.Pieces.{HasUntaken, IsReleaseCause}

-- the entry of a hold that was taken
abbrev pub taken_entry : ℕ → ℕ → ℤ → ℕ → ℕ → ℕ → Bool → Entry
taken_entry session tag stamp id at count writes = record { session = session; tag = tag; stamp = stamp; call = calls.Hold id at count writes; reply = replies.Done }

-- an entry that came last is done only with the reply Done
abbrev pub IsPlain : List Entry → List Entry → Type 0
IsPlain before now = (e : Entry) → now ≡ before ++ e ∷ [] → is_done e.reply ≡ true → e.reply ≡ replies.Done

-- These are the blocks of a file that have a piece of it: as many as have so many bytes, and over what the device tells those of the file's stream,
-- from the one in which the piece begins.
pub record HasPlaces (sp : SpaceView) (b : Books) (told : Option State) (id at count : ℕ) (places : List ℕ) : Type 0 where
  pub many : length places ≡ piece_blocks sp.sup.block_size at count
  pub are : (st : State) → told ≡ Some st → (i : ℕ) → i < length places → slice_get (stream_blocks (face sp (newest_map b st)) id) (at / sp.sup.block_size + i) ≡ Some (slice_index places i)

-- A hold was taken: its entry came, its session is promised that of the release, and the places are the piece's blocks, each one of data. The device
-- goes on, and where the piece is to be written no group waits.
pub record TookHold (old new : SpaceBooks) (b later : Books) (told : Option State) (session tag id at count : ℕ) (writes : Bool) (places : List ℕ) : Type 0 where
  pub stamp : ℤ
  pub appended : new.view.history ≡ old.view.history ++ taken_entry session tag stamp id at count writes ∷ []
  pub promised : new.promised ≡ old.promised ++ session ∷ []
  pub begun : b.stop ≡ None
  pub going : later.stop ≡ None
  pub empty : writes ≡ true → later.groups ≡ []
  pub blocks : All (IsData (layout_of later.sup)) places
  pub has : HasPlaces new.view later told id at count places

-- So a hold was taken beside other pieces: no group is waited for.
pub record TookOpen (old new : SpaceBooks) (later : Books) (told : Option State) (session tag id at count : ℕ) (writes : Bool) (places : List ℕ) : Type 0 where
  pub stamp : ℤ
  pub appended : new.view.history ≡ old.view.history ++ taken_entry session tag stamp id at count writes ∷ []
  pub promised : new.promised ≡ old.promised ++ session ∷ []
  pub blocks : All (IsData (layout_of later.sup)) places
  pub has : HasPlaces new.view later told id at count places

-- what has become of a hold that was asked for once beside other pieces: it was taken, or refused; or it was put off
abbrev pub HasTriedHold : SpaceBooks → SpaceBooks → Books → Option State → ℕ → ℕ → ℕ → ℕ → ℕ → Bool → List ℕ → Outcome → Type 0
HasTriedHold old new later told session tag id at count writes places Replied = TookOpen old new later told session tag id at count writes places
    ⊎ (HasUntaken old.view.history new.view.history session tag (calls.Hold id at count writes) × (new.promised ≡ old.promised))
HasTriedHold old new later told session tag id at count writes places (Drain back) = (new.view.history ≡ old.view.history) × (new.promised ≡ old.promised)

-- A piece may be asked for: no entry and no promise came, the device goes on, and where the piece is to be written no group waits.
pub record IsAwaited (old new : SpaceBooks) (b later : Books) (writes : Bool) : Type 0 where
  pub history : new.view.history ≡ old.view.history
  pub promised : new.promised ≡ old.promised
  pub begun : b.stop ≡ None
  pub going : later.stop ≡ None
  pub empty : writes ≡ true → later.groups ≡ []

-- the counts of faults round a call that failed, or the count of a device that had stopped
abbrev pub counts_round : DeviceFault → ℕ × ℕ
counts_round (device.Disk before after stops) = (before, after)
counts_round (device.Stopped durable faults) = (faults, faults)

-- so a piece was let go that was written or read so: whole with its bytes, or after a fault with its counts and with no byte
abbrev pub AsMade : Result Unit DeviceFault → List ℕ → List ℕ → Bool → ℕ → ℕ → Type 0
AsMade (Ok done) all bytes whole from upto = (bytes ≡ all) × (whole ≡ true) × (from ≡ 0) × (upto ≡ 0)
AsMade (Err fault) all bytes whole from upto = (bytes ≡ []) × (whole ≡ false) × ((from, upto) ≡ counts_round fault)

pub record HasLetGo (before now : List Entry) (session tag id : ℕ) (made : Result Unit DeviceFault) (all : List ℕ) : Type 0 where
  pub bytes : List ℕ
  pub whole : Bool
  pub from : ℕ
  pub upto : ℕ
  pub entry : HasEntryOf before now session tag (calls.Release id bytes whole from upto) replies.Done
  pub so : AsMade made all bytes whole from upto

-- A piece was let go, whole with these bytes, or with none and the counts of a fault of a device that went on.
pub record HasGone (before now : List Entry) (session tag id faults later : ℕ) (all : List ℕ) : Type 0 where
  pub bytes : List ℕ
  pub whole : Bool
  pub from : ℕ
  pub upto : ℕ
  pub entry : HasEntryOf before now session tag (calls.Release id bytes whole from upto) replies.Done
  pub given : whole ≡ true → bytes ≡ all
  pub none : whole ≡ false → bytes ≡ []
  pub cause : IsReleaseCause None faults later whole from upto

-- The disk reads as these bytes of a file, from the byte `at` on.
pub record IsOnDisk (sp : SpaceView) (b : Books) (told : Option State) (id at : ℕ) (bytes : List ℕ) : Type 0 where
  pub places : List ℕ
  pub has : HasPlaces sp b told id at (length bytes) places
  pub bytes_are : (st : State) → told ≡ Some st → IsPieceOf (contents_of st (layout_of b.sup).sectors) sp.sup.block_size places (at % sp.sup.block_size) bytes
