-- A space over what is told below it, and a call that was entered.
use Rattle.std.specs.Prelude.{◌≡◌, ◌⊎◌, ◌++◌, ℕ, List, [], ◌∷◌, Bool, true, false, Option, length}
use Rattle.bfs_super.specs.Geometry.{geometry_of}
use Rattle.bfs_bitmap.specs.Runs.{Fits}
use Rattle.bfs_txn.specs.Changed.{over}
use Rattle.bfs_txn.specs.Faults.{Counts}
use Rattle.bfs_tree.specs.declared.call.Call.{Call}
use Rattle.bfs_tree.specs.declared.call.Call.TheVariants as calls
use Rattle.bfs_tree.specs.declared.reply.Reply.{Reply}
use Rattle.bfs_tree.specs.declared.rows.Key.{Key}
use Rattle.bfs_tree.specs.declared.reply.Reply.TheVariants as replies
use Rattle.bfs_tree.specs.Histories.{Mounted, after}
use Rattle.bfs_tree.specs.Steps.{is_done}
use Rattle.bfs_calls.specs.Refusals.{is_own}
use Rattle.bfs_sound.specs.Need.{logged_need, need}
use Rattle.bfs_shift.specs.Shifts.{volume_in}
use Rattle.bfs_core.specs.Chains.{IsLinked}
use Rattle.bfs_core.specs.Spaces.{Entered, HasSet, IsSoundOver, SameSeals, face as face_of}
use Rattle.bfs_replies.specs.Kept.{IsWithin}
use Rattle.bfs_replies.specs.Books.{SpaceBooks, IsIdle, entry_noted}
use Rattle.bfs_replies.specs.Called.{IsFaceTold}
use Rattle.bfs_replies.specs.Files.{KeepsBlocks}
use Rattle.bfs_space.specs.Holds.{holds_after}
use Rattle.bfs_replies.specs.Resting.{SaysFound}
use Rattle.bfs_replies.specs.Replies.{HasReplyCause, IsOutside, IsPutOff}
use Rattle.bfs_space.specs.declared.space.Outcome.{Outcome}
use Rattle.bfs_space.specs.declared.space.Outcome.TheVariants.{Replied, Drain}

-- What is told below is what the space stands over: its Face is sound and told, and its bitmap fits it.
pub record IsFaceOf (t0 : Mounted) (b : SpaceBooks) (m : ℕ → Option (List ℕ)) : Type 0 where
  pub sound : IsSoundOver t0 b.view m
  pub told : IsFaceTold t0 b.view m
  pub fits : Fits b.room (over b.view.group m)

-- for some tree that stood at mounting
pub record HasFace (b : SpaceBooks) (m : ℕ → Option (List ℕ)) : Type 0 where
  pub t0 : Mounted
  pub face : IsFaceOf t0 b m

-- What is told below says of a map that the space stands over what a search of an index rests on, both under the open group.
pub record FacesFound (b : SpaceBooks) (m : ℕ → Option (List ℕ)) (name : List ℕ) (low high : Key) : Type 0 where
  pub t0 : Mounted
  pub whole : ℕ → Option (List ℕ)
  pub face : IsFaceOf t0 b whole
  pub says : SaysFound (geometry_of b.view.sup) (over b.view.group whole) (over b.view.group m) (after t0 b.view.history) name low high

-- what has to be told below of a call: what the space stands over; or for a search of an index, only what the search rests on
abbrev pub MayFace : SpaceBooks → (ℕ → Option (List ℕ)) → Call → Type 0
MayFace b m (calls.IndexFind name low high) = HasFace b m ⊎ FacesFound b m name low high
MayFace b m _ = HasFace b m

-- A reply that the tree alone gives: at most so many blocks have changed and at most so many more are used, and none where it is a refusal.
pub record IsByTree (logged taken : ℕ) (old new : SpaceBooks) (m : ℕ → Option (List ℕ)) (reply : Reply) : Type 0 where
  pub own : is_own reply ≡ true
  pub within : IsWithin logged taken old.room new.room m old.view.group new.view.group
  pub unchanged : is_done reply ≡ false → (new.view.group ≡ old.view.group) × (new.room.tally.used ≡ old.room.tally.used)

-- The tree alone gives the reply, and at most as many blocks have changed as Need for the log says, and at most as many more are used as Need
-- says; or the call was turned away from outside, and none has.
abbrev pub IsCaused : Mounted → SpaceBooks → SpaceBooks → (ℕ → Option (List ℕ)) → Call → Reply → Type 0
IsCaused t0 old new m call reply =
    IsByTree (logged_need (volume_in (geometry_of old.view.sup) (over old.view.group m)) (after t0 old.view.history) call) (need (volume_in (geometry_of old.view.sup) (over old.view.group m)) (after t0 old.view.history) call) old new m reply
    ⊎ ((new.view.group ≡ old.view.group) × (new.room ≡ old.room) × IsOutside (geometry_of old.view.sup) old.room (over old.view.group m) (after t0 old.view.history) (holds_after t0 old.view.history) (IsIdle old) call reply)

-- A call was entered: its entry may follow the history, Face stays sound with the tree after it, and what it set is in the open group; the
-- space still stands over what is told; blocks and reply are as Need and the causes of replies say, and so is Face after it beside Face before it;
-- and files have kept their blocks.
pub record HasEntered (t0 : Mounted) (old new : SpaceBooks) (m : ℕ → Option (List ℕ)) (session tag now : ℕ) (call : Call) : Type 0 where
  pub reply : Reply
  pub set : ℕ → Bool
  pub entered : Entered t0 old.view new.view m (entry_noted old session tag now call reply)
  pub has_set : HasSet t0 old.view new.view m set
  pub face : IsFaceOf t0 new m
  pub caused : IsCaused t0 old new m call reply
  pub linked : IsLinked t0 old.view new.view m (entry_noted old session tag now call reply)
  pub blocks : KeepsBlocks (face_of old.view m) (face_of new.view m) (after t0 old.view.history) (after t0 new.view.history) call

-- a hold that was taken promises its session an entry, that of its release
abbrev pub promised_after : ℕ → Call → Reply → List ℕ → List ℕ
promised_after session (calls.Hold id at count writes) replies.Done promised = promised ++ session ∷ []
promised_after session call reply promised = promised

-- An entry was appended, whose stamp was drawn from the clock; a reply by the disk has its cause; what only a seal, a promise, a release or a
-- note changes is as it was; and where no block waits for a seal, none did before, and as many are used as then.
pub record HasReplied (before after : Counts) (old new : SpaceBooks) (session tag now : ℕ) (call : Call) : Type 0 where
  pub reply : Reply
  pub history : new.view.history ≡ old.view.history ++ entry_noted old session tag now call reply ∷ []
  pub cause : HasReplyCause before after old.stop reply
  pub same : SameSeals old.view new.view
  pub idle : new.view.group ≡ [] → (old.view.group ≡ []) × (new.view.used ≡ old.view.used)
  pub promised : new.promised ≡ promised_after session call reply old.promised
  pub stop : new.stop ≡ old.stop
  pub left : new.left ≡ old.left

-- what has become of a call: it has an entry, or it was put off, and nothing has changed
abbrev pub IsOutcome : Mounted → SpaceBooks → SpaceBooks → (ℕ → Option (List ℕ)) → ℕ → ℕ → ℕ → Call → Outcome → Type 0
IsOutcome t0 old new m session tag now call Replied = HasEntered t0 old new m session tag now call
IsOutcome t0 old new m session tag now call (Drain back) = IsPutOff (geometry_of old.view.sup) old.room (over old.view.group m) (length old.view.group) (after t0 old.view.history) (holds_after t0 old.view.history) (IsIdle old) call

-- and that whatever is told
abbrev pub HasOutcome : Counts → Counts → SpaceBooks → SpaceBooks → ℕ → ℕ → ℕ → Call → Outcome → Type 0
HasOutcome before after old new session tag now call Replied = HasReplied before after old new session tag now call
HasOutcome before after old new session tag now call (Drain back) = (back ≡ call) × (new ≡ old)
