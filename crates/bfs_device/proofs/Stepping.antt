-- A step keeps a device right, at Ok and after a fault.
use Rattle.std.proofs.Common.{◌≡◌, ℕ, ◌*◌, ◌<◌, ◌≤◌, List, [], ◌∷◌, length, refl, sym, ◌∙◌, ap, subst, arith, Bool, true, false, Option, Some, None, IfSome, Result}
use Rattle.bfs_base.specs.Moments.{Elapses, Passed}
use Rattle.bfs_base.proofs.Moments.{passed_one}
use Rattle.bfs_disk.specs.State.{State, IsImage, Filled, Tells}
use Rattle.bfs_disk.specs.Disk.{MayLeave}
use Rattle.bfs_super.specs.declared.sup.Super.{Super}
use Rattle.bfs_super.specs.Conditions.{natural, IsValid}
use Rattle.bfs_log.specs.Replay.{log_from, log_to}
use Rattle.bfs_txn.specs.declared.group.Group.{Group}
use Rattle.bfs_device.specs.declared.journal.Phase.{Phase}
use Rattle.bfs_device.specs.declared.journal.Phase.TheVariants.{Log, LogSafe, Open, OpenSafe, Home as GoHome, HomeSafe, Tail, TailSafe, Pass}
use Rattle.bfs_device.specs.declared.journal.Stop.{Stop}
use Rattle.bfs_device.specs.Layouts.{Layout, IsData, layout_of}
use Rattle.bfs_device.specs.Calls.{Call, Write, Barrier, told_after, state_after, IsFailed}
use Rattle.bfs_device.specs.Phases.{none}
use Rattle.bfs_device.specs.declared.journal.Journal.{Journal}
use Rattle.bfs_device.specs.Books.{Books, Ready, books_of, Follow, IsPhaseFor, IsOnDisk, IsRight, IsRightAs, RecoversOne, AreSame, is_durable}
use Rattle.bfs_device.specs.Steps.{call_of, after_phase, told_front, FailedFront, LeftFront, ReadFront, still_touched, halted, stepped}
use Rattle.bfs_device.proofs.Phasing.{Agrees}
use Rattle.bfs_device.proofs.Right.{at, reading, right_after, versions_after, during_one, standing_one, kept_by, later_one, Reading, rest_one}
use Rattle.bfs_device.proofs.Failing.{failed_reading, failed_one}

-- what a device knows of its books
pub record Known (b : Books) : Type 0 where
  pub valid : IsValid b.sup
  pub empty : log_from b.sup ≡ log_to b.sup
  pub follow : Follow (layout_of b.sup) b.sup.block_size b.left (natural b.sup.used_blocks) b.groups
  pub phase : IsPhaseFor b.groups b.phase

-- the volume lies on a disk that tells
pub on_state : (s : Super) (size : Option ℕ) (told : Option State) (st : State) → IfSome told (λ x. size ≡ Some x.size) → IsOnDisk size s → told ≡ Some st → (layout_of s).sectors * (layout_of s).blocks ≤ st.size
on_state s size None st law on is = absurd (cc)
on_state s None (Some x) st law on is = absurd on
on_state s (Some n) (Some x) st law on is =
    let e : x ≡ st = cc in
    let m : n ≡ x.size = cc in
    omega (arith, on, m, ap (λ (y : State). y.size) e)

-- a superblock of the same volume
pub on_layout : (size : Option ℕ) (s u : Super) → layout_of u ≡ layout_of s → IsOnDisk size s → IsOnDisk size u
on_layout None s u same on = on
on_layout (Some n) s u same on = subst (λ (l : Layout). l.sectors * l.blocks ≤ n) (sym same) on

pub filled_state : (told : Option State) (st : State) → IfSome told Filled → told ≡ Some st → Filled st
filled_state None st law is = absurd (cc)
filled_state (Some x) st law is = let e : x ≡ st = cc in subst Filled e law

stop_after : (g : Group) (gs : List Group) (b : Books) (p : Phase) → (after_phase g gs b p).stop ≡ b.stop
stop_after g gs b (Log i) = refl
stop_after g gs b LogSafe = refl
stop_after g gs b Open = refl
stop_after g gs b OpenSafe = refl
stop_after g gs b (GoHome i) = refl
stop_after g gs b HomeSafe = refl
stop_after g gs b Tail = refl
stop_after g gs b TailSafe = refl
stop_after g gs b Pass = refl

told_is : (call : Call) (st : State) → told_after call (Some st) ≡ Some (state_after call st)
told_is (Write at bytes) st = refl
told_is Barrier st = refl

-- a right device that hasn't stopped stands in its phase
pub standing_of : (b : Books) (t : ℕ → Bool) (st : State) → b.stop ≡ None → IsRight b t st → IsRightAs None b t st
standing_of b t st none_yet right = subst (λ (o : Option Stop). IsRightAs o b t st) none_yet right

-- ---- at Ok

ok_front : (b : Books) (groups : List Group) → (let c : Books = record b { groups = groups } in Known c) → 0 < length groups → ReadFront b.sup groups b.phase → b.stop ≡ None
    → (t : ℕ → Bool) (st : State) (new : Option State) → IfSome new Filled → (layout_of b.sup).sectors * (layout_of b.sup).blocks ≤ st.size
    → new ≡ told_front b.sup groups b.phase (Some st) → (let c : Books = record b { groups = groups } in IsRight c t st)
    → (let c : Books = record b { groups = groups } in Tells new (λ s. IsRight (stepped c) (still_touched c t) s × AreSame c st (stepped c) s))
ok_front b [] know some read none_yet t st new filled sized is right = absurd (omega arith)
ok_front b (g ∷ gs) know some read none_yet t st new filled sized is right =
    let p : Phase = b.phase in
    let st' : State = state_after (call_of b.sup g p) st in
    let told : new ≡ Some st' = is ∙ told_is (call_of b.sup g p) st in
    let full : Filled st' = filled_state new st' filled told in
    let stands = standing_of (record b { groups = g ∷ gs }) t st none_yet right in (
      st',
      told,
      (
        subst (λ (o : Option Stop). IsRightAs o (stepped (record b { groups = g ∷ gs })) (still_touched (record b { groups = g ∷ gs }) t) st') (sym (stop_after g gs (record b { groups = g ∷ gs }) p ∙ none_yet))
            (right_after b g gs know.valid know.empty know.follow t st sized p know.phase read full stands),
        versions_after b g gs know.valid know.empty know.follow t st sized p know.phase read full stands,
      ),
    )

pub ok_right : (b : Books) → Known b → 0 < length b.groups → ReadFront b.sup b.groups b.phase → b.stop ≡ None → (size : Option ℕ) → IsOnDisk size b.sup
    → (t : ℕ → Bool) (old new : Option State) → IfSome old (λ x. size ≡ Some x.size) → IfSome new Filled → new ≡ told_front b.sup b.groups b.phase old
    → (right : Tells old (IsRight b t)) → Tells new (λ s. IsRight (stepped b) (still_touched b t) s × AreSame b right.0 (stepped b) s)
ok_right b know some read none_yet size on t old new law filled is right =
    ok_front b b.groups know some read none_yet t right.0 new filled (on_state b.sup size old right.0 law on right.1) (is ∙ ap (told_front b.sup b.groups b.phase) right.1) right.2

-- ---- after a fault

failed_told : (call : Call) (st : State) (new : Option State) → IsFailed call (Some st) new → (half : State) × (new ≡ Some half) × IsFailed call (Some st) (Some half)
failed_told (Write at bytes) st new failed = (failed.0, failed.1, (failed.0, refl, failed.2))
failed_told Barrier st new failed = (st, failed, refl)

pub again_one : (b : Books) (moment : ℕ) (stop : Option Stop) (t : ℕ → Bool) (st : State) (image : List ℕ) → RecoversOne b t st image → (let c : Books = record b { moment = moment; stop = stop } in RecoversOne c t st image)
again_one b moment stop t st image one = record { number = one.number; is_version = one.is_version; recovers = one.recovers }

agrees_of : (b : Books) (g : Group) (gs : List Group) (valid : IsValid b.sup) (empty : log_from b.sup ≡ log_to b.sup) (follow : Follow (layout_of b.sup) b.sup.block_size b.left (natural b.sup.used_blocks) (g ∷ gs)) (st new : State) (d : Bool)
    → Reading b g gs valid empty follow (reading b g gs valid empty follow st) none new d → (k : ℕ) → IsData (layout_of b.sup) k → Agrees g (reading b g gs valid empty follow st) (reading b g gs valid empty follow new) d k
agrees_of b g gs valid empty follow st new true same k is_data = sym (same.with_it k is_data refl)
agrees_of b g gs valid empty follow st new false same k is_data = sym (same.without refl k is_data refl)

err_front : (b : Books) (groups : List Group) (after : ℕ) → (let c : Books = record b { groups = groups } in Known c) → ReadFront b.sup groups b.phase → b.stop ≡ None
    → (t : ℕ → Bool) (st : State) (new : Option State) → (layout_of b.sup).sectors * (layout_of b.sup).blocks ≤ st.size
    → FailedFront b.sup groups b.phase (Some st) new → (let c : Books = record b { groups = groups } in IsRight c t st)
    → (let c : Books = record b { groups = groups } in Tells new (λ s. IsRight (halted c after) t s × AreSame c st (halted c after) s))
err_front b [] after know read none_yet t st new sized failed right = absurd failed
err_front b (g ∷ gs) after know read none_yet t st new sized failed right =
    let p : Phase = b.phase in
    let half = failed_told (call_of b.sup g p) st new failed in
    let stands = standing_of (record b { groups = g ∷ gs }) t st none_yet right in (
      half.0,
      half.1,
      (
        λ image is. again_one (record b { groups = g ∷ gs }) _ _ t half.0 image (failed_one b g gs know.valid know.empty know.follow t st half.0 p know.phase read sized stands half.2 image is),
        λ n version_of k is_data. kept_by b g gs know.valid know.empty know.follow t st sized (is_durable p) n half.0 k
            (agrees_of b g gs know.valid know.empty know.follow st half.0 (is_durable p) (failed_reading b g gs know.valid know.empty know.follow none st half.0 p know.phase read half.2) k is_data)
            (later_one b g gs know.valid know.empty know.follow t st sized n p version_of),
      ),
    )

pub err_right : (b : Books) (after : ℕ) → Known b → ReadFront b.sup b.groups b.phase → b.stop ≡ None → (size : Option ℕ) → IsOnDisk size b.sup
    → (t : ℕ → Bool) (old new : Option State) → IfSome old (λ x. size ≡ Some x.size) → FailedFront b.sup b.groups b.phase old new
    → (right : Tells old (IsRight b t)) → Tells new (λ s. IsRight (halted b after) t s × AreSame b right.0 (halted b after) s)
err_right b after know read none_yet size on t old new law failed right =
    err_front b b.groups after know read none_yet t right.0 new (on_state b.sup size old right.0 law on right.1) (subst (λ (o : Option State). FailedFront b.sup b.groups b.phase o new) right.1 failed) right.2

-- ---- the moments of the call

during_front : (b : Books) (groups : List Group) → (let c : Books = record b { groups = groups } in Known c) → 0 < length groups → ReadFront b.sup groups b.phase → b.stop ≡ None
    → (t : ℕ → Bool) (st : State) → (layout_of b.sup).sectors * (layout_of b.sup).blocks ≤ st.size → (let c : Books = record b { groups = groups } in IsRight c t st)
    → (image : List ℕ) → LeftFront b.sup groups b.phase (Some st) image → (let c : Books = record b { groups = groups } in RecoversOne c t st image)
during_front b [] know some read none_yet t st sized right image left = absurd (omega arith)
during_front b (g ∷ gs) know some read none_yet t st sized right image left =
    during_one b g gs know.valid know.empty know.follow t st b.phase know.phase read sized (standing_of (record b { groups = g ∷ gs }) t st none_yet right) image left

pub step_moments : {T E : Type 0} (b : Books) → Known b → 0 < length b.groups → ReadFront b.sup b.groups b.phase → b.stop ≡ None → (size : Option ℕ) → IsOnDisk size b.sup
    → (t : ℕ → Bool) (told : Option State) → IfSome told (λ x. size ≡ Some x.size) → (result : Result T E) (before now : ℕ) (past since : ℕ → List ℕ → Type 0)
    → Elapses told result before now past since (LeftFront b.sup b.groups b.phase told) → Tells told (IsRight b t)
    → Passed before now past since (λ c. Tells told (λ s. RecoversOne b t s c))
step_moments b know some read none_yet size on t told law result before now past since time right =
    passed_one _ time (λ c left. (
      right.0,
      right.1,
      during_front b b.groups know some read none_yet t right.0 (on_state b.sup size told right.0 law on right.1) right.2 c
          (subst (λ (o : Option State). LeftFront b.sup b.groups b.phase o c) right.1 left),
    ))

-- ---- what a right device's disk leaves now

now_front : (b : Books) (groups : List Group) → (let c : Books = record b { groups = groups } in Known c) → (t : ℕ → Bool) (st : State) → (layout_of b.sup).sectors * (layout_of b.sup).blocks ≤ st.size
    → (let c : Books = record b { groups = groups } in IsRightAs None c t st) → (image : List ℕ) → IsImage st image → (let c : Books = record b { groups = groups } in RecoversOne c t st image)
now_front b [] know t st sized right image is = rest_one b know.valid know.empty t st sized right image is
now_front b (g ∷ gs) know t st sized right image is = standing_one b g gs know.valid know.empty know.follow t st b.phase know.phase sized right image is

pub now_as : (o : Option Stop) (b : Books) → Known b → (t : ℕ → Bool) (st : State) → (layout_of b.sup).sectors * (layout_of b.sup).blocks ≤ st.size → IsRightAs o b t st → (image : List ℕ) → IsImage st image → RecoversOne b t st image
now_as None b know t st sized right image is = now_front b b.groups know t st sized right image is
now_as (Some stop) b know t st sized right image is = right image is

pub now_right : (b : Books) → Known b → (size : Option ℕ) → IsOnDisk size b.sup → (t : ℕ → Bool) (told : Option State) → IfSome told (λ x. size ≡ Some x.size) → (right : Tells told (IsRight b t))
    → (image : List ℕ) → MayLeave told image → RecoversOne b t right.0 image
now_right b know size on t told law right image left =
    now_as b.stop b know t right.0 (on_state b.sup size told right.0 law on right.1) right.2 image (subst (λ (o : Option State). MayLeave o image) right.1 left)

pub known_of : (j : Journal) → Ready j → Known (books_of j)
known_of j ready = record { valid = ready.valid; empty = ap natural ready.empty; follow = ready.follow; phase = ready.phase }
