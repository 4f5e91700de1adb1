-- The calls of a device, at Ok and after a fault, as what Core asks of them.
use Rattle.std.proofs.Common.{max, ◌≡◌, inl, inr, ℕ, List, Bool, Option, Some, None, Result, Ok, Err, OnOk, OnErr, IfOk, IfErr, refl, sym, ◌∙◌, ap, subst, arith}
use Rattle.bfs_base.proofs.Moments.{passed_none}
use Rattle.bfs_disk.specs.State.{State, Tells}
use Rattle.bfs_disk.specs.Disk.{MayLeave}
use Rattle.bfs_device.specs.declared.journal.Progress.{Progress}
use Rattle.bfs_device.specs.declared.journal.Progress.TheVariants.{Logged, LogSafe, Opened, Durable, Home, HomeSafe, TailMoved, TailSafe, Idle}
use Rattle.bfs_device.specs.declared.journal.DeviceFault.{DeviceFault}
use Rattle.bfs_device.specs.declared.journal.DeviceFault.TheVariants.{Disk, Stopped}
use Rattle.bfs_device.specs.declared.journal.Stop.{Stop}
use Rattle.bfs_device.specs.Books.{Books, IsRight, IsRightAs, AreSame, RecoversOne, durable_of}
use Rattle.bfs_device.specs.Data.{IsRested, moved_on}
use Rattle.bfs_device.specs.Steps.{counted, stepped, still_touched, progress_to, IsStepFault}
use Rattle.bfs_device.specs.Told.{HasMarked}
use Rattle.bfs_device.specs.Seals.{with_room}
use Rattle.bfs_device.specs.Ahead.{GoesOn, IsSteady}
use Rattle.bfs_device.proofs.Forward.{other_ahead}
use Rattle.bfs_device.proofs.Contents.{read_contents}
use Rattle.bfs_core.specs.Moments.{DeviceMoves, IsLessTouched, IsRightOn, IsWrittenAt, Marked}
use Rattle.bfs_core.proofs.Times.{step_touches}

untouched : (b new : Books) (t : ℕ → Bool) → new.left ≡ b.left → IsLessTouched b new t t
untouched b new t same = record { fewer = λ k is. is; barrier = inl same }

-- ---- a step

pub step_right : (b new : Books) (told told' : Option State) (t : ℕ → Bool) (right : Tells told (IsRight b t)) (f f' s s' : ℕ) (result : Result Progress DeviceFault)
    → IfOk result (λ p. (b.stop ≡ None) × (p ≡ progress_to b.groups b.phase) × (new ≡ stepped b)) → IfErr result (IsStepFault b new f f' s s')
    → OnOk result (Tells told' (λ st. IsRight new (still_touched b t) st × AreSame b right.0 new st)) → OnErr result (Tells told' (λ st. IsRight new t st × AreSame b right.0 new st)) → IsRightOn b new t right.0 told'
step_right b new told told' t right f f' s s' (Ok p) ok fault done failed =
    record { touched = still_touched b t; less = subst (λ (x : Books). IsLessTouched b x t (still_touched b t)) (sym ok.2) (step_touches b t); right = done }
step_right b new told told' t right f f' s s' (Err (Disk before after stopped)) ok fault done failed =
    record { touched = t; less = untouched b new t (ap (λ (x : Books). x.left) fault.6); right = failed }
step_right b new told told' t right f f' s s' (Err (Stopped durable count)) ok fault done failed =
    record { touched = t; less = untouched b new t (ap (λ (x : Books). x.left) fault.1); right = failed }

pub step_stops : (b new : Books) (f f' s s' : ℕ) (result : Result Progress DeviceFault)
    → IfOk result (λ p. (b.stop ≡ None) × (p ≡ progress_to b.groups b.phase) × (new ≡ stepped b)) → IfErr result (IsStepFault b new f f' s s') → new.stop ≡ None → b.stop ≡ None
step_stops b new f f' s s' (Ok p) ok fault none = ok.0
step_stops b new f f' s s' (Err (Disk before after stopped)) ok fault none = fault.0
step_stops b new f f' s s' (Err (Stopped durable count)) ok fault none = sym (ap (λ (x : Books). x.stop) fault.1) ∙ none

marked_by : (b new : Books) (p : Progress) → HasMarked b new p → Marked b.marks new.marks (durable_of new) new.moment
marked_by b new Logged is = inl is.1
marked_by b new LogSafe is = inl is.1
marked_by b new Opened is = inl is.1
marked_by b new (Durable n) is = inr (record { moment = new.moment; number = n }, is.1, refl, (let e = is.0 in omega (arith, e)))
marked_by b new (Home k) is = inl is.1
marked_by b new HomeSafe is = inl is.1
marked_by b new TailMoved is = inl is.1
marked_by b new TailSafe is = inl is.1
marked_by b new Idle is = inl is.1

pub step_marked : (b new : Books) (f f' s s' : ℕ) (result : Result Progress DeviceFault) → IfOk result (HasMarked b new) → IfErr result (IsStepFault b new f f' s s') → Marked b.marks new.marks (durable_of new) new.moment
step_marked b new f f' s s' (Ok p) ok fault = marked_by b new p ok
step_marked b new f f' s s' (Err (Disk before after stopped)) ok fault = inl (ap (λ (x : Books). x.marks) fault.6)
step_marked b new f f' s s' (Err (Stopped durable count)) ok fault = inl (ap (λ (x : Books). x.marks) fault.1)

-- ---- a read

pub read_ahead : (b new : Books) → IsRested b new → GoesOn b new
read_ahead b new rests = other_ahead b new (ap (λ (x : Books). x.sup) rests) (ap (λ (x : Books). x.groups) rests) (ap (λ (x : Books). x.phase) rests) (ap (λ (x : Books). x.left) rests)

same_versions : (b new : Books) (st : State) → IsRested b new → AreSame b st new st
same_versions b new st rests = subst (λ (x : Books). AreSame b st x st) (sym rests) (λ n is k d. refl)

pub read_right : (b new : Books) (told told' : Option State) (t : ℕ → Bool) (right : Tells told (IsRight b t)) → IsRested b new → told' ≡ told → ((s : State) → IsRight b t s → IsRight new t s) → IsRightOn b new t right.0 told'
read_right b new told told' t right rests same still =
    record { touched = t; less = untouched b new t (ap (λ (x : Books). x.left) rests); right = (right.0, same ∙ right.1, (still right.0 right.2, same_versions b new right.0 rests)) }

pub read_stops : (b new : Books) → IsRested b new → new.stop ≡ None → b.stop ≡ None
read_stops b new rests none = sym (ap (λ (x : Books). x.stop) rests) ∙ none

-- ---- a data write

-- books of which only the moment and the stop are others
rests_but : (b new : Books) → new.sup ≡ b.sup → new.groups ≡ b.groups → new.phase ≡ b.phase → new.left ≡ b.left → new.marks ≡ b.marks → new.spare ≡ b.spare → new ≡ record b { moment = new.moment; stop = new.stop }
rests_but b new sup groups phase left marks spare = λ i. record { sup = sup i; groups = groups i; phase = phase i; left = left i; marks = marks i; spare = spare i; moment = new.moment; stop = new.stop }

rests_as : (b new : Books) (m : ℕ) (o : Option Stop) → new ≡ record b { moment = m; stop = o } → new ≡ record b { moment = new.moment; stop = new.stop }
rests_as b new m o e = rests_but b new (ap (λ (x : Books). x.sup) e) (ap (λ (x : Books). x.groups) e) (ap (λ (x : Books). x.phase) e) (ap (λ (x : Books). x.left) e) (ap (λ (x : Books). x.marks) e) (ap (λ (x : Books). x.spare) e)

pub write_rests : {T : Type 0} (b new : Books) (f f' s s' : ℕ) (result : Result T DeviceFault) → OnOk result ((b.stop ≡ None) × (new ≡ moved_on b)) → IfErr result (IsStepFault b new f f' s s') → new ≡ record b { moment = new.moment; stop = new.stop }
write_rests b new f f' s s' (Ok done) ok fault = rests_as b new (counted b.moment) b.stop ok.1
write_rests b new f f' s s' (Err (Disk before after stopped)) ok fault = rests_as b new (counted b.moment) (Some (record { durable = durable_of b; faults = after })) fault.6
write_rests b new f f' s s' (Err (Stopped durable count)) ok fault = rests_as b new b.moment b.stop fault.1

pub write_stops : {T : Type 0} (b new : Books) (f f' s s' : ℕ) (result : Result T DeviceFault) → OnOk result ((b.stop ≡ None) × (new ≡ moved_on b)) → IfErr result (IsStepFault b new f f' s s') → new.stop ≡ None → b.stop ≡ None
write_stops b new f f' s s' (Ok done) ok fault none = ok.0
write_stops b new f f' s s' (Err (Disk before after stopped)) ok fault none = fault.0
write_stops b new f f' s s' (Err (Stopped durable count)) ok fault none = sym (ap (λ (x : Books). x.stop) fault.1) ∙ none

pub write_right : {T : Type 0} (block : ℕ) (b new : Books) (t : ℕ → Bool) (st : State) (told : Option State) (result : Result T DeviceFault) → OnOk result (IsWrittenAt block b new t st told) → OnErr result (IsWrittenAt block b new t st told) → IsWrittenAt block b new t st told
write_right block b new t st told (Ok done) right still = right
write_right block b new t st told (Err fault) right still = still

-- ---- room

module _ (b : Books) (spare : ℕ) where
  abbrev roomy : Books
  roomy = record b { spare = spare }

  roomy_one : (t : ℕ → Bool) (st : State) (image : List ℕ) → RecoversOne b t st image → RecoversOne roomy t st image
  roomy_one t st image one = record { number = one.number; is_version = one.is_version; recovers = one.recovers }

  roomy_right : (o : Option Stop) (t : ℕ → Bool) (st : State) → IsRightAs o b t st → IsRightAs o roomy t st
  roomy_right None t st right = right
  roomy_right (Some stop) t st right = λ image is. roomy_one t st image (right image is)

  roomy_moves : (told : Option State) (clock : ℕ) (since : ℕ → List ℕ → Type 0) → IsSteady roomy
      → ((t : ℕ → Bool) (right : Tells told (IsRight roomy t)) (image : List ℕ) → MayLeave told image → RecoversOne roomy t right.0 image) → ((c : List ℕ) → since clock c → MayLeave told c)
      → DeviceMoves b roomy told told clock clock since since
  roomy_moves told clock since steady now only = record {
    steady = steady;
    ahead = other_ahead b roomy refl refl refl refl;
    stops = λ none. none;
    right = λ t right. record { touched = t; less = untouched b roomy t refl; right = (right.0, right.1, (roomy_right b.stop t right.0 right.2, λ n is k d. refl)) };
    contents = λ st next is now. read_contents b roomy told told refl refl st next is now;
    time = record {
      meanwhile = λ t right. passed_none clock since (λ c. Tells told (λ s. RecoversOne b t s c));
      now = now;
      only = only;
      moved = inl (refl, refl);
      marked = inl refl;
    };
  }

spare_alone : (b new : Books) (n : ℕ) → new ≡ record b { spare = n } → new ≡ record b { spare = new.spare }
spare_alone b new n e = λ i. record {
  sup = ap (λ (x : Books). x.sup) e i;
  groups = ap (λ (x : Books). x.groups) e i;
  phase = ap (λ (x : Books). x.phase) e i;
  left = ap (λ (x : Books). x.left) e i;
  marks = ap (λ (x : Books). x.marks) e i;
  spare = new.spare;
  moment = ap (λ (x : Books). x.moment) e i;
  stop = ap (λ (x : Books). x.stop) e i;
}

-- the books after room was made, or not
pub room_rests : {E : Type 0} (b new : Books) (result : Result Unit E) → OnOk result (new ≡ with_room b) → OnErr result (new ≡ b) → new ≡ record b { spare = new.spare }
room_rests b new (Ok done) ok err = spare_alone b new (max b.spare 2) ok
room_rests b new (Err e) ok err = spare_alone b new b.spare err

pub room_moves : (b new : Books) (told : Option State) (clock : ℕ) (since : ℕ → List ℕ → Type 0) → new ≡ record b { spare = new.spare } → IsSteady new
    → ((t : ℕ → Bool) (right : Tells told (IsRight new t)) (image : List ℕ) → MayLeave told image → RecoversOne new t right.0 image) → ((c : List ℕ) → since clock c → MayLeave told c)
    → DeviceMoves b new told told clock clock since since
room_moves b new told clock since rests steady now only =
    subst (λ (x : Books). DeviceMoves b x told told clock clock since since) (sym rests)
    (roomy_moves b new.spare told clock since (subst IsSteady rests steady)
    (subst (λ (x : Books). (t : ℕ → Bool) (right : Tells told (IsRight x t)) (image : List ℕ) → MayLeave told image → RecoversOne x t right.0 image) rests now) only)
