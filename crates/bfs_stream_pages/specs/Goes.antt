-- What no call on the pages of a stream changes.
use Rattle.std.specs.Prelude.{◌≡◌, ◌<◌, ◌⊎◌, ℕ, List, Bool, true, Option, Some, None, IsSome}
use Rattle.bfs_bitmap.specs.Runs.{Room}
use Rattle.bfs_bitmap.specs.Fills.{IsBitmapBlock}
use Rattle.bfs_txn.specs.Faults.{Counts, AreLater}
use Rattle.bfs_txn.specs.Told.{StaysChanged}
use Rattle.bfs_stream.specs.Sizes.{Origin}
use Rattle.bfs_stream.specs.Places.{whole_at}
use Rattle.bfs_stream.specs.Told.{contents}
use Rattle.bfs_stream.specs.Grown.{AreWritten}
use Rattle.bfs_stream.specs.declared.fault.GrowFault.{GrowFault}
use Rattle.bfs_stream_pages.specs.Held.{Held}
use Rattle.bfs_stream_pages.specs.Moves.{ChangesFresh, Moved}
use Rattle.bfs_stream_pages.specs.Causes.{HasCause}

-- what is known of the volume has moved on, with the stream held as before, or is known no more since a page could not be
-- added
abbrev pub HasMoved : Origin → Room → Room → ℕ → ℕ → Option (ℕ → Option (List ℕ)) → Option (ℕ → Option (List ℕ)) → Option GrowFault → (ℕ → Bool) → (ℕ → Bool) → Type 0
HasMoved o v now long more None None failed old new = Unit {0}
HasMoved o v now long more None (Some map) failed old new = ⊥
HasMoved o v now long more (Some m) None failed old new = IsSome failed
HasMoved o v now long more (Some m) (Some map) failed old new = Held o v long m → Held o now more map × (Moved o v now m map × AreWritten v old new (whole_at o.sizes (contents map) o.id) × ChangesFresh o m map new)

-- the fault at which a page could not be added stays, and behind it nothing is asked of what lies below; or there is none; or
-- it is new, and has its cause
abbrev pub HasFault : Origin → Room → ℕ → Option (ℕ → Option (List ℕ)) → Option GrowFault → Option GrowFault → Counts → Counts → Type 0
HasFault o v long told (Some fault) now old new = (now ≡ Some fault) × (new ≡ old)
HasFault o v long told None None old new = Unit {0}
HasFault o v long told None (Some fault) old new = HasCause o v long told old new fault

-- The bitmap keeps all but its lower bound; what is known of the volume has moved on; a page that could not be added has its
-- cause; each block that was changed had been so, or holds bits, or is one of the volume; and what was changed stays so.
pub record GoesOn (o : Origin) (v now : Room) (long more : ℕ) (told told_now : Option (ℕ → Option (List ℕ))) (failed failed_now : Option GrowFault) (old new : ℕ → Bool) (counts counts_now : Counts) : Type 0 where
  pub rest : now ≡ record v { tally = now.tally }
  pub moved : HasMoved o v now long more told told_now failed_now old new
  pub fault : HasFault o v long told failed failed_now counts counts_now
  pub changed : (k : ℕ) → new k ≡ true → (old k ≡ true) ⊎ (IsBitmapBlock v k ⊎ (k < o.sizes.blocks))
  pub stays : StaysChanged old new
  pub later : AreLater counts counts_now

-- Pages were only read between: what is told of the blocks, which of them have been changed and how many, the bitmap's room,
-- the stream's length and the fault at which a page could not be added are as they were; the counts are later ones, or the
-- same where there is such a fault.
pub record IsRead (v now : Room) (long more : ℕ) (before after : Option (ℕ → Option (List ℕ))) (fault fault_now : Option GrowFault) (old new : ℕ → Bool) (n many : ℕ) (counts counts_now : Counts) : Type 0 where
  pub room : now ≡ v
  pub length : more ≡ long
  pub told : after ≡ before
  pub failed : fault_now ≡ fault
  pub changed : new ≡ old
  pub pairs : many ≡ n
  pub later : AreLater counts counts_now
  pub unasked : IsSome fault → counts_now ≡ counts

-- Blocks were only read between: what is told of them, which of them have been changed and how many, and the stream's length
-- are as they were; the counts are later ones.
pub record OnlyReads (long more : ℕ) (before after : Option (ℕ → Option (List ℕ))) (old new : ℕ → Bool) (n many : ℕ) (counts counts_now : Counts) : Type 0 where
  pub length : more ≡ long
  pub told : after ≡ before
  pub changed : new ≡ old
  pub pairs : many ≡ n
  pub later : AreLater counts counts_now
