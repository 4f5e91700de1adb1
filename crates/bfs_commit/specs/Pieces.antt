-- The entries of a piece of a file that is read or written: its hold, and where that was taken its release.
use Rattle.std.specs.Prelude.{◌≡◌, ◌≤◌, ◌⊎◌, ◌++◌, ◌∷◌, ℕ, ℤ, List, [], Bool, true, false, Option, Some, None}
use Rattle.bfs_base.specs.Counts.{Rose}
use Rattle.bfs_disk.specs.State.{State}
use Rattle.bfs_tree.specs.declared.call.Call.{Call}
use Rattle.bfs_tree.specs.declared.call.Call.TheVariants as calls
use Rattle.bfs_tree.specs.declared.reply.Reply.{Reply}
use Rattle.bfs_tree.specs.declared.reply.Reply.TheVariants as replies
use Rattle.bfs_tree.specs.declared.reply.Entry.{Entry}
use Rattle.bfs_tree.specs.Histories.{Mounted}
use Rattle.bfs_tree.specs.Steps.{is_done}
use Rattle.bfs_device.specs.Books.{Books}
use Rattle.bfs_device.specs.declared.journal.Stop.{Stop}
use Rattle.bfs_space.specs.Books.{SpaceBooks}
use Rattle.bfs_commit.specs.Entries.{HasEntryOf, HasReplyIn, IsAnsweredIn, IsEnded}

-- A hold was taken and let go: two entries came, of the session and with the tag. Let go whole it has bytes that were given; else it has none.
pub record HasReleased (before now : List Entry) (session tag : ℕ) (hold : Call) (id : ℕ) (given : List ℕ → Type 0) : Type 0 where
  pub stamp : ℤ
  pub later : ℤ
  pub bytes : List ℕ
  pub whole : Bool
  pub from : ℕ
  pub upto : ℕ
  pub appended : now ≡ (before ++ record { session = session; tag = tag; stamp = stamp; call = hold; reply = replies.Done } ∷ []) ++ record { session = session; tag = tag; stamp = later; call = calls.Release id bytes whole from upto; reply = replies.Done } ∷ []
  pub all : whole ≡ true → given bytes
  pub none : whole ≡ false → bytes ≡ []

-- the one entry of a hold that wasn't taken
pub record HasUntaken (before now : List Entry) (session tag : ℕ) (hold : Call) : Type 0 where
  pub reply : Reply
  pub refused : is_done reply ≡ false
  pub entry : HasEntryOf before now session tag hold reply

-- the entries of a piece: of a hold that wasn't taken, or of one that was and was let go
abbrev pub HasPiece : List Entry → List Entry → ℕ → ℕ → Call → ℕ → (List ℕ → Type 0) → Type 0
HasPiece before now session tag hold id given = HasUntaken before now session tag hold ⊎ HasReleased before now session tag hold id given

-- A release whose counts are these isn't whole only where the disk failed in a call of its piece, round which these are its counts of faults; or
-- where the device had stopped, with this count. A whole one has none.
abbrev pub IsReleaseCause : Option Stop → ℕ → ℕ → Bool → ℕ → ℕ → Type 0
IsReleaseCause stop faults later true from upto = (from ≡ 0) × (upto ≡ 0)
IsReleaseCause stop faults later false from upto = ((stop ≡ None) × (faults ≤ from) × Rose from upto × (upto ≤ later))
    ⊎ ((from ≡ upto) × (durable : ℕ) × (stop ≡ Some (record { durable = durable; faults = from })))

-- the last entry of a history is no release, or has such a cause
abbrev pub HasReleaseCause : List Entry → List Entry → Option Stop → ℕ → ℕ → Type 0
HasReleaseCause before now stop faults later = (front : List Entry) (e : Entry) → now ≡ front ++ e ∷ [] → (id : ℕ) (bytes : List ℕ) (whole : Bool) (from upto : ℕ) → e.call ≡ calls.Release id bytes whole from upto
    → IsReleaseCause stop faults later whole from upto

-- The hold of a piece was answered by the space, with its cause in the counts of the device, or ended by the device.
pub record HasHoldIn (old : SpaceBooks) (faults later session tag : ℕ) (hold : Call) (stop : Option Stop) : Type 0 where
  pub held : SpaceBooks
  pub replied : HasReplyIn old held faults later session tag hold ⊎ IsEnded old.view.history held.view.history session tag hold stop faults later

-- And over what the device told then, of a volume with this tree at mounting, it was entered.
pub record IsHoldIn (t0 : Mounted) (old : SpaceBooks) (faults later session tag : ℕ) (hold : Call) (stop : Option Stop) : Type 0 where
  pub held : SpaceBooks
  pub books : Books
  pub told : Option State
  pub answered : IsAnsweredIn t0 old held books told session tag hold ⊎ IsEnded old.view.history held.view.history session tag hold stop faults later
