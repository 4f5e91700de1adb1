-- What has become of a call that was asked once.
use Rattle.std.proofs.Common.{◌≡◌, ◌+◌, ◌++◌, ◌⊎◌, inl, inr, ℕ, List, [], ◌∷◌, length, length-append, Bool, true, false, Option, Some, Result, Ok, Err, refl, sym, ap, ◌∙◌, subst, arith}
use Rattle.std.specs.Prelude.{IfOk, IfErr, OnErr}
use Rattle.std.specs.declared.alloc.AllocError.{AllocError}
use Rattle.bfs_disk.specs.State.{State}
use Rattle.bfs_tree.specs.declared.call.Call.{Call}
use Rattle.bfs_tree.specs.declared.reply.Entry.{Entry}
use Rattle.bfs_tree.specs.declared.state.Hold.{Hold}
use Rattle.bfs_tree.specs.Histories.{Mounted}
use Rattle.bfs_device.specs.Books.{Books}
use Rattle.bfs_file_io.specs.Books.{SpaceBooks}
use Rattle.bfs_file_io.specs.Outcome.{Outcome}
use Rattle.bfs_file_io.specs.Outcome.TheVariants.{Replied, Drain}
use Rattle.bfs_file_io.specs.Entries.{IsEnded, IsStoppedEntry}
use Rattle.bfs_device.specs.declared.journal.Stop.{Stop}
use Rattle.bfs_volume.specs.Events.{HasOutcomeIn, HasTried, IsAsked, IsCalled, IsOutcomeIn, IsStoppedTry, Opens, happened_by}
use Rattle.bfs_file_io.specs.Open.{HasMade, OpenView}
use Rattle.bfs_device.specs.declared.journal.DeviceFault.{DeviceFault}
use Rattle.bfs_device.specs.declared.journal.DeviceFault.TheVariants as device
use Rattle.bfs_pieces.specs.Pieces.{HasPieceCause}
use Rattle.bfs_volume.specs.declared.event.Happened.{Happened}
use Rattle.bfs_volume.specs.declared.event.Happened.TheVariants as happens

-- an entry that was appended isn't none
no_more : (before : List Entry) (e : Entry) → before ≡ before ++ e ∷ [] → ⊥
no_more before e same =
    let one : length (before ++ e ∷ []) ≡ length before + 1 = length-append before (e ∷ []) in
    let two : length before ≡ length (before ++ e ∷ []) = ap length same in
    omega (arith, one, two)

module _ (t0 : Mounted) (old new : SpaceBooks) (b later : Books) (told : Option State) (faults faults' session tag : ℕ) (call : Call) where
  abbrev ended : Type 0
  ended = IsEnded old.view.history new.view.history session tag call b.stop faults faults'

  abbrev came : Outcome → Type 0
  came o = IsOutcomeIn t0 old new later told session tag call o ⊎ ended

  abbrev called : Happened → Type 0
  called h = IsCalled t0 old new b later told faults faults' session tag call h

  drained : (back : Call) → back ≡ call → new.view.history ≡ old.view.history → came (Drain back) → IsOutcomeIn t0 old new later told session tag call (Drain call)
  drained back is same (inl o) = subst (λ (k : Call). IsOutcomeIn t0 old new later told session tag call (Drain k)) is o
  drained back is same (inr e) = absurd (no_more old.view.history _ (sym same ∙ e.entry.appended))

  pub replied_by : (r : Result Outcome AllocError) (h : Result Happened AllocError) → IfOk r (λ o. h ≡ Ok (happened_by o)) → IfErr r (λ e. h ≡ Err e)
      → IfOk r (HasTried old.view.history new.view.history session tag call) → IfOk r came
      → IfOk h (IsCalled t0 old new b later told faults faults' session tag call)
  replied_by (Ok Replied) h ok err tried is = subst (λ (x : Result Happened AllocError). IfOk x called) (sym ok) is
  replied_by (Ok (Drain back)) h ok err tried is = subst (λ (x : Result Happened AllocError). IfOk x called) (sym ok) (drained back tried.0 tried.1 is)
  replied_by (Err e) h ok err tried is = subst (λ (x : Result Happened AllocError). IfOk x called) (sym err) tt

-- ---- whatever the disk tells

module _ (old new : SpaceBooks) (stop : Option Stop) (faults faults' session tag : ℕ) (call : Call) where
  abbrev noted : Outcome → Type 0
  noted o = HasOutcomeIn old new faults faults' session tag call o ⊎ IsEnded old.view.history new.view.history session tag call stop faults faults'

  abbrev asked : Happened → Type 0
  asked h = IsAsked old new stop faults faults' session tag call h

  put_off : (back : Call) → back ≡ call → new.view.history ≡ old.view.history → noted (Drain back) → HasOutcomeIn old new faults faults' session tag call (Drain call)
  put_off back is same (inl o) = subst (λ (k : Call). HasOutcomeIn old new faults faults' session tag call (Drain k)) is o
  put_off back is same (inr e) = absurd (no_more old.view.history _ (sym same ∙ e.entry.appended))

  pub asked_by : (r : Result Outcome AllocError) (h : Result Happened AllocError) → IfOk r (λ o. h ≡ Ok (happened_by o)) → IfErr r (λ e. h ≡ Err e)
      → IfOk r (HasTried old.view.history new.view.history session tag call) → IfOk r noted
      → IfOk h (IsAsked old new stop faults faults' session tag call)
  asked_by (Ok Replied) h ok err tried is = subst (λ (x : Result Happened AllocError). IfOk x asked) (sym ok) (tried, is)
  asked_by (Ok (Drain back)) h ok err tried is = subst (λ (x : Result Happened AllocError). IfOk x asked) (sym ok) (tried.1, put_off back tried.0 tried.1 is)
  asked_by (Err e) h ok err tried is = subst (λ (x : Result Happened AllocError). IfOk x asked) (sym err) tt

-- where no memory was found for it, nor is there for the event
pub wanted_by : (P : Type 0) (r : Result Outcome AllocError) (h : Result Happened AllocError) → IfOk r (λ o. h ≡ Ok (happened_by o)) → IfErr r (λ e. h ≡ Err e) → OnErr r P → OnErr h P
wanted_by P (Ok o) h ok err none = subst (λ (x : Result Happened AllocError). OnErr x P) (sym ok) tt
wanted_by P (Err e) h ok err none = subst (λ (x : Result Happened AllocError). OnErr x P) (sym err) none

-- ---- of a device that had stopped

module _ (before now : List Entry) (session tag : ℕ) (call : Call) (s : Stop) where
  abbrev ends : Happened → Type 0
  ends h = (h ≡ happens.Replied) × IsStoppedEntry before now session tag call s

  pub stopped_by : (r : Result Outcome AllocError) (h : Result Happened AllocError) → IfOk r (λ o. h ≡ Ok (happened_by o)) → IfErr r (λ e. h ≡ Err e)
      → IfOk r (IsStoppedTry before now session tag call s) → IfOk h (λ (x : Happened). (x ≡ happens.Replied) × IsStoppedEntry before now session tag call s)
  stopped_by (Ok Replied) h ok err entry = subst (λ (x : Result Happened AllocError). IfOk x ends) (sym ok) (refl, entry)
  stopped_by (Ok (Drain back)) h ok err entry = absurd entry
  stopped_by (Err e) h ok err entry = subst (λ (x : Result Happened AllocError). IfOk x ends) (sym err) tt

-- the pieces after a hold, by what is known of the new one's bytes
pub opens_as : (before now : List Entry) (pieces pieces' : List OpenView) (hold : Hold) (given other : List ℕ → Type 0) → ((bytes : List ℕ) → given bytes → other bytes) → Opens before now pieces pieces' hold given → Opens before now pieces pieces' hold other
opens_as before now pieces pieces' hold given other as_other opens = (
  (λ e is done. let at = opens.0 e is done in (at.0, at.1, at.2, as_other at.0.bytes at.3, at.4, at.5, at.6)),
  opens.1,
)

-- ---- a disk call of a piece

pub made_hold : (size : ℕ) (p new : OpenView) (read : Bool) → HasMade size p new read → new.hold ≡ p.hold
made_hold size p new true made = ap (λ (v : OpenView). v.hold) made.1
made_hold size p new false made = ap (λ (v : OpenView). v.hold) made

-- of a device that had stopped its fault has the numbers of the stop
pub stopped_fault : (stop : Option Stop) (s : Stop) (faults faults' : ℕ) (fault : DeviceFault) → stop ≡ Some s → HasPieceCause stop faults faults' fault → fault ≡ device.Stopped s.durable s.faults
stopped_fault stop s faults faults' (device.Disk before upto stops) is cause = absurd (let none = cause.0 in cc)
stopped_fault stop s faults faults' (device.Stopped durable count) is cause =
    let e : Some (record { durable = durable; faults = count }) ≡ Some s = sym cause ∙ is in
    let same : (let t : Stop = record { durable = durable; faults = count } in t) ≡ s = cc in
    (λ i. device.Stopped (same i).durable (same i).faults)
