-- What a session that asks for a hold is told, and what it is told of then.
use Rattle.std.specs.Prelude.{◌≡◌, ℕ, List, Bool, true, false, Option, Result, Ok, Err}
use Rattle.bfs_disk.specs.State.{State}
use Rattle.bfs_tree.specs.declared.call.Call.TheVariants as calls
use Rattle.bfs_device.specs.Books.{Books}
use Rattle.std.specs.declared.alloc.AllocError.{AllocError}
use Rattle.bfs_commit.specs.Books.{SpaceBooks}
use Rattle.bfs_commit.specs.Outcome.{Outcome}
use Rattle.bfs_commit.specs.Outcome.TheVariants.{Replied, Drain}
use Rattle.bfs_commit.specs.Pieces.{HasUntaken}
use Rattle.bfs_file_io.specs.declared.pieces.Asked.{Asked}
use Rattle.bfs_file_io.specs.declared.pieces.Asked.TheVariants.{Taken, Refused, PutOff}
use Rattle.bfs_commit.specs.Held.{TookHold}

-- what has become of a piece that was asked for once: it is held, or its hold was refused, or it was put off and nothing has changed
abbrev pub HasAsked : SpaceBooks → SpaceBooks → Books → Books → Option State → ℕ → ℕ → ℕ → ℕ → ℕ → Bool → List ℕ → Asked → Type 0
HasAsked old new b later told session tag id at count writes places Taken = TookHold old new b later told session tag id at count writes places
HasAsked old new b later told session tag id at count writes places Refused = HasUntaken old.view.history new.view.history session tag (calls.Hold id at count writes) × (new.promised ≡ old.promised)
HasAsked old new b later told session tag id at count writes places PutOff = new ≡ old

-- which of these it is, by what the space says and by whether the last entry's call was done
abbrev pub asked_by : Result Outcome AllocError → Bool → Result Asked AllocError
asked_by (Ok Replied) true = Ok Taken
asked_by (Ok Replied) false = Ok Refused
asked_by (Ok (Drain back)) done = Ok PutOff
asked_by (Err fault) done = Err fault

-- where it was held or refused, this is true
abbrev pub OnReply : Type 0 → Asked → Type 0
OnReply P Taken = P
OnReply P Refused = P
OnReply P PutOff = Unit {0}
