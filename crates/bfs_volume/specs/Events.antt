-- What one event of a volume has done: a call or a hold that was asked once, the next disk call of a piece, a piece that was let go, a seal, or a step of
-- the device.
use Rattle.std.specs.Prelude.{◌≡◌, ◌≢◌, ◌<◌, ◌≤◌, ◌⊎◌, ◌+◌, ◌++◌, ◌∷◌, [], ℕ, List, Bool, true, false, Option, Some, None, length, remove, slice_set}
use Rattle.std.specs.Option.{option_map}
use Rattle.bfs_disk.specs.State.{State}
use Rattle.bfs_txn.specs.Faults.{Counts}
use Rattle.bfs_tree.specs.declared.call.Call.{Call}
use Rattle.bfs_tree.specs.declared.call.Call.TheVariants as calls
use Rattle.bfs_tree.specs.Answers.{KeepsRanges}
use Rattle.bfs_tree.specs.declared.reply.Entry.{Entry}
use Rattle.bfs_tree.specs.declared.state.Hold.{Hold}
use Rattle.bfs_tree.specs.Histories.{Mounted}
use Rattle.bfs_tree.specs.Steps.{is_done}
use Rattle.bfs_core.specs.Cores.{newest_map}
use Rattle.bfs_device.specs.Books.{Books, sealed_of}
use Rattle.bfs_device.specs.Steps.{progress_to, stepped, IsStepFault}
use Rattle.bfs_file_io.specs.Books.{SpaceBooks}
use Rattle.bfs_file_io.specs.Faces.{HasOutcome, IsOutcome}
use Rattle.bfs_file_io.specs.Looks.{is_built}
use Rattle.bfs_file_io.specs.Outcome.{Outcome}
use Rattle.bfs_file_io.specs.Outcome.TheVariants.{Replied, Drain}
use Rattle.bfs_device.specs.declared.journal.DeviceFault.TheVariants as device
use Rattle.bfs_pieces.specs.Pieces.{HasPieceCause}
use Rattle.bfs_device.specs.declared.journal.Stop.{Stop}
use Rattle.bfs_file_io.specs.Entries.{HasEntry, IsEnded, IsStoppedEntry}
use Rattle.bfs_file_io.specs.Failing.{HasFailures, KeepsCounts}
use Rattle.bfs_file_io.specs.Held.{HasLetGo}
use Rattle.bfs_file_io.specs.Open.{HasMade, HoldsNone, HoldsOne, OpenView, calls_left, made_of, reads_next}
use Rattle.bfs_volume.specs.declared.event.Event.{Event}
use Rattle.bfs_volume.specs.declared.event.Event.TheVariants as events
use Rattle.bfs_volume.specs.declared.event.Happened.{Happened}
use Rattle.bfs_volume.specs.declared.event.Happened.TheVariants as happens

-- A call was asked once: it has an entry; or it was put off and is handed back, and no entry came.
abbrev pub HasTried : List Entry → List Entry → ℕ → ℕ → Call → Outcome → Type 0
HasTried before now session tag call Replied = HasEntry before now session tag call
HasTried before now session tag call (Drain back) = (back ≡ call) × (now ≡ before)

-- The space was asked while its history was as before, and this came of it, with its cause in the counts of the device, which lie between these.
-- The volume's space is since as the call left it, but for promises.
pub record HasOutcomeIn (old new : SpaceBooks) (faults later session tag : ℕ) (call : Call) (outcome : Outcome) : Type 0 where
  pub at : SpaceBooks
  pub books : SpaceBooks
  pub now : ℕ
  pub begun : Counts
  pub ended : Counts
  pub same : at.view ≡ old.view
  pub rest : new ≡ record books { promised = new.promised }
  pub from : faults ≤ begun.faults
  pub upto : ended.faults ≤ later
  pub outcome_is : HasOutcome begun ended at books session tag now call outcome

-- and so over what the device told then, and tells since, of a volume with this tree at mounting
pub record IsOutcomeIn (t0 : Mounted) (old new : SpaceBooks) (b : Books) (told : Option State) (session tag : ℕ) (call : Call) (outcome : Outcome) : Type 0 where
  pub at : SpaceBooks
  pub books : SpaceBooks
  pub map : ℕ → Option (List ℕ)
  pub now : ℕ
  pub same : at.view ≡ old.view
  pub rest : new ≡ record books { promised = new.promised }
  pub tells : option_map (newest_map b) told ≡ Some map
  pub outcome_is : IsOutcome t0 at books map session tag now call outcome

-- what has become of it, without the call
abbrev pub happened_by : Outcome → Happened
happened_by Replied = happens.Replied
happened_by (Drain back) = happens.Drain

-- Something was open, and all of it was sealed as one group; or nothing was, or 16 groups wait, and nothing has changed.
abbrev pub IsSealing : SpaceBooks → SpaceBooks → Books → Books → Bool → Type 0
IsSealing old new b later true = (old.view.sealed < length old.view.history) × (length b.groups < 16) × (sealed_of later ≡ length old.view.history)
IsSealing old new b later false = ((old.view.sealed ≡ length old.view.history) ⊎ (16 ≤ length b.groups)) × (new ≡ old) × (sealed_of later ≡ sealed_of b)

-- What has become of a call, or of a hold, that was asked once: it has an entry, which is the space's or the device's; or it was put off.
abbrev pub IsAsked : SpaceBooks → SpaceBooks → Option Stop → ℕ → ℕ → ℕ → ℕ → Call → Happened → Type 0
IsAsked old new stop faults faults' session tag call happens.Replied =
    HasEntry old.view.history new.view.history session tag call
    × (HasOutcomeIn old new faults faults' session tag call Replied ⊎ IsEnded old.view.history new.view.history session tag call stop faults faults')
IsAsked old new stop faults faults' session tag call happens.Drain =
    (new.view.history ≡ old.view.history) × HasOutcomeIn old new faults faults' session tag call (Drain call)
IsAsked old new stop faults faults' session tag call _ = ⊥

-- The pieces that are held after a hold: where it was taken one more, of which nothing was written or read; else those before.
abbrev pub Opens : List Entry → List Entry → List OpenView → List OpenView → Hold → (List ℕ → Type 0) → Type 0
Opens before now pieces pieces' hold given =
    ((e : Entry) → now ≡ before ++ e ∷ [] → is_done e.reply ≡ true → (p : OpenView) × (pieces' ≡ pieces ++ p ∷ []) × (p.hold ≡ hold) × given p.bytes × (p.done ≡ 0) × (p.fault ≡ None) × (p.loaded ≡ []))
    × (((e : Entry) → now ≡ before ++ e ∷ [] → is_done e.reply ≡ false) → pieces' ≡ pieces)

-- What has become of a piece that is to go on: nothing was left of it, and nothing was done; or its next disk call was made, and so many are left; or the
-- device has met a fault in that, which the piece keeps. Of a piece that is written the bytes stay.
abbrev pub HasGoneOn : ℕ → OpenView → OpenView → Option Stop → ℕ → ℕ → Happened → Type 0
HasGoneOn size p new stop faults faults' (happens.Pieced left) = ((calls_left size p ≡ 0) × (left ≡ 0) × (new ≡ p))
    ⊎ ((0 < calls_left size p) × (left ≡ calls_left size new) × HasMade size p new (reads_next size p) × (p.hold.write ≡ true → new.bytes ≡ p.bytes))
HasGoneOn size p new stop faults faults' (happens.Fault fault) = (0 < calls_left size p) × (new ≡ record p { fault = Some fault; bytes = new.bytes; loaded = [] }) × HasPieceCause stop faults faults' fault
HasGoneOn size p new stop faults faults' _ = ⊥

-- and of the session's piece among those that are held; where it has none nothing was done
pub record HasPieced (size : ℕ) (pieces pieces' : List OpenView) (session : ℕ) (stop : Option Stop) (faults faults' : ℕ) (happened : Happened) : Type 0 where
  pub one : HoldsOne pieces session
  pub new : OpenView
  pub now : pieces' ≡ slice_set pieces one.at new
  pub gone_on : HasGoneOn size one.piece new stop faults faults' happened

-- by the clock of a disk that tells what it has a piece makes one disk call, or none where nothing is left of it
abbrev pub HasCalled : ℕ → ℕ → ℕ → Happened → Type 0
HasCalled left clock clock' (happens.Pieced _) = ((left ≡ 0) × (clock' ≡ clock)) ⊎ ((0 < left) × (clock' ≡ clock + 1))
HasCalled left clock clock' _ = Unit {0}

-- the session's piece does, and where it has none nothing is called
abbrev pub HasCalledOnce : ℕ → List OpenView → ℕ → ℕ → ℕ → Happened → Type 0
HasCalledOnce size pieces session clock clock' happened = (HoldsNone pieces session × (clock' ≡ clock)) ⊎ ((one : HoldsOne pieces session) × HasCalled (calls_left size one.piece) clock clock' happened)

-- of the events this is asked of that of a piece
abbrev pub IsOneCall : ℕ → List OpenView → ℕ → ℕ → Event → Happened → Type 0
IsOneCall size pieces clock clock' (events.Piece session) happened = HasCalledOnce size pieces session clock clock' happened
IsOneCall size pieces clock clock' _ happened = Unit {0}

abbrev pub HasNoPiece : List OpenView → List OpenView → ℕ → Happened → Type 0
HasNoPiece pieces pieces' session happened = HoldsNone pieces session × (happened ≡ happens.Pieced 0) × (pieces' ≡ pieces)

-- The session's piece, of which nothing was left, was let go: whole with its bytes, or after a fault with its counts.
pub record HasLet (size : ℕ) (before now : List Entry) (pieces pieces' : List OpenView) (session tag : ℕ) : Type 0 where
  pub one : HoldsOne pieces session
  pub none : calls_left size one.piece ≡ 0
  pub gone : HasLetGo before now session tag one.piece.hold.id (made_of one.piece.fault) one.piece.bytes
  pub rest : pieces' ≡ remove pieces one.at

-- What was left of a session's piece when it was to be let go: it stays held.
pub record HasStayed (size : ℕ) (pieces : List OpenView) (session left : ℕ) : Type 0 where
  pub one : HoldsOne pieces session
  pub some : 0 < left
  pub left_is : left ≡ calls_left size one.piece

-- What has become of a piece that is to be let go: it was, or some of it is left and nothing has changed, or there is none.
abbrev pub HasEnded : SpaceBooks → SpaceBooks → List OpenView → List OpenView → ℕ → ℕ → Happened → Type 0
HasEnded old new pieces pieces' session tag happens.Replied = HasLet old.view.sup.block_size old.view.history new.view.history pieces pieces' session tag
HasEnded old new pieces pieces' session tag (happens.Pieced left) = (new ≡ old) × (pieces' ≡ pieces) × (((left ≡ 0) × HoldsNone pieces session) ⊎ HasStayed old.view.sup.block_size pieces session left)
HasEnded old new pieces pieces' session tag _ = ⊥

-- What has become of an event, by the books of the volume and the pieces that are held before and after it, and by the disk's counts of faults and
-- of stops. A call or a hold has an entry or was put off. The next disk call of a piece was made, or a fault was met; with nothing left nothing is done.
-- A piece was let go, or some of it is left. A seal has sealed, or not. A step has moved the device on, or has met a fault.
abbrev pub IsHappened : SpaceBooks → SpaceBooks → List OpenView → List OpenView → Books → Books → ℕ → ℕ → ℕ → ℕ → Event → Happened → Type 0
IsHappened old new pieces pieces' b later faults faults' stops stops' (events.Call session tag call) happened = IsAsked old new b.stop faults faults' session tag call happened × (pieces' ≡ pieces)
IsHappened old new pieces pieces' b later faults faults' stops stops' (events.HoldWrite session tag id at bytes) happened =
    IsAsked old new b.stop faults faults' session tag (calls.Hold id at (length bytes) true) happened
    × Opens old.view.history new.view.history pieces pieces' (record { session = session; id = id; at = at; length = length bytes; write = true }) (λ given. given ≡ bytes)
IsHappened old new pieces pieces' b later faults faults' stops stops' (events.HoldRead session tag id at count) happened =
    IsAsked old new b.stop faults faults' session tag (calls.Hold id at count false) happened
    × Opens old.view.history new.view.history pieces pieces' (record { session = session; id = id; at = at; length = count; write = false }) (λ given. length given ≡ count)
IsHappened old new pieces pieces' b later faults faults' stops stops' (events.Piece session) happened = (new ≡ old) × (HasNoPiece pieces pieces' session happened ⊎ HasPieced old.view.sup.block_size pieces pieces' session b.stop faults faults' happened)
IsHappened old new pieces pieces' b later faults faults' stops stops' (events.Release session tag) happened = HasEnded old new pieces pieces' session tag happened
IsHappened old new pieces pieces' b later faults faults' stops stops' events.Seal (happens.Sealed done) = IsSealing old new b later done × (pieces' ≡ pieces)
IsHappened old new pieces pieces' b later faults faults' stops stops' events.Step (happens.Stepped progress) =
    (b.stop ≡ None) × (progress ≡ progress_to b.groups b.phase) × (later ≡ stepped b) × (new.view.history ≡ old.view.history) × (pieces' ≡ pieces)
IsHappened old new pieces pieces' b later faults faults' stops stops' events.Step (happens.Fault fault) = IsStepFault b later faults faults' stops stops' fault × (new.view.history ≡ old.view.history) × (pieces' ≡ pieces)
IsHappened old new pieces pieces' b later faults faults' stops stops' _ _ = ⊥

-- of a call and of a hold: what came of it is as the space says it over what the device tells, or the device had stopped; nothing is said of other events
abbrev pub IsCalled : Mounted → SpaceBooks → SpaceBooks → Books → Books → Option State → ℕ → ℕ → ℕ → ℕ → Call → Happened → Type 0
IsCalled t0 old new b later told faults faults' session tag call happens.Replied =
    IsOutcomeIn t0 old new later told session tag call Replied ⊎ IsEnded old.view.history new.view.history session tag call b.stop faults faults'
IsCalled t0 old new b later told faults faults' session tag call happens.Drain = IsOutcomeIn t0 old new later told session tag call (Drain call)
IsCalled t0 old new b later told faults faults' session tag call _ = Unit {0}

abbrev pub HasReplied : Mounted → SpaceBooks → SpaceBooks → Books → Books → Option State → ℕ → ℕ → Event → Happened → Type 0
HasReplied t0 old new b later told faults faults' (events.Call session tag call) happened = IsCalled t0 old new b later told faults faults' session tag call happened
HasReplied t0 old new b later told faults faults' (events.HoldWrite session tag id at bytes) happened = IsCalled t0 old new b later told faults faults' session tag (calls.Hold id at (length bytes) true) happened
HasReplied t0 old new b later told faults faults' (events.HoldRead session tag id at count) happened = IsCalled t0 old new b later told faults faults' session tag (calls.Hold id at count false) happened
HasReplied t0 old new b later told faults faults' _ _ = Unit {0}

-- a call may be made by a session, one of those that are built but a sync, with numbers in their ranges; a hold by a session; and the others always
abbrev pub MayHappen : Event → Type 0
MayHappen (events.Call session tag call) = (session ≢ 0) × (call ≢ calls.Sync) × (is_built call ≡ true) × KeepsRanges call
MayHappen (events.HoldWrite session tag id at bytes) = session ≢ 0
MayHappen (events.HoldRead session tag id at count) = session ≢ 0
MayHappen _ = Unit {0}

-- The disk's counts beside the entries of an event are as those beside the entries of a call; but a piece that is let go has the counts of the fault
-- that it met before.
abbrev pub HasCountsOf : Event → List Entry → List Entry → Option Stop → Option Stop → ℕ → ℕ → ℕ → ℕ → Type 0
HasCountsOf (events.Release session tag) before now old new faults faults' stops stops' = KeepsCounts old new faults faults' stops stops'
HasCountsOf _ before now old new faults faults' stops stops' = HasFailures before now old new faults faults' stops stops'

-- An event may want memory, but for a step of the device and for a piece that is let go. The next block of a piece is told so only where the disk
-- tells nothing: no other block of a group that waits may be written, and there it isn't known that none is one of the file's.
abbrev pub MayWantMemory : Option State → Event → Type 0
MayWantMemory told events.Step = ⊥
MayWantMemory told (events.Release session tag) = ⊥
MayWantMemory told (events.Piece session) = told ≡ None
MayWantMemory told _ = Unit {0}

-- A call of a device that had stopped, asked once, isn't put off: its one entry says that the device has stopped.
abbrev pub IsStoppedTry : List Entry → List Entry → ℕ → ℕ → Call → Stop → Outcome → Type 0
IsStoppedTry before now session tag call s Replied = IsStoppedEntry before now session tag call s
IsStoppedTry before now session tag call s (Drain back) = ⊥

-- What has become of an event where the device had stopped: a call and a hold are answered so, with the numbers of that stop; a step answers the
-- same, and no entry came; so does a piece of which some is left. A seal may be made: its group waits. What was held is let go.
abbrev pub IsStoppedEvent : List Entry → List Entry → Stop → Event → Happened → Type 0
IsStoppedEvent before now s (events.Call session tag call) happened = (happened ≡ happens.Replied) × IsStoppedEntry before now session tag call s
IsStoppedEvent before now s (events.HoldWrite session tag id at bytes) happened = (happened ≡ happens.Replied) × IsStoppedEntry before now session tag (calls.Hold id at (length bytes) true) s
IsStoppedEvent before now s (events.HoldRead session tag id at count) happened = (happened ≡ happens.Replied) × IsStoppedEntry before now session tag (calls.Hold id at count false) s
IsStoppedEvent before now s (events.Piece session) happened = ((happened ≡ happens.Pieced 0) ⊎ (happened ≡ happens.Fault (device.Stopped s.durable s.faults))) × (now ≡ before)
IsStoppedEvent before now s (events.Release session tag) happened = Unit {0}
IsStoppedEvent before now s events.Seal happened = Unit {0}
IsStoppedEvent before now s events.Step happened = (happened ≡ happens.Fault (device.Stopped s.durable s.faults)) × (now ≡ before)
