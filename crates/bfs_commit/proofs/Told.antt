-- What a step says of a device, at Ok and after a fault.
use Rattle.std.proofs.Common.{◌≡◌, ◌≢◌, ◌≤◌, ◌<◌, inl, ℕ, List, [], ◌∷◌, Option, Some, None, IsSome, Result, Ok, Err, OnOk, OnErr, IfOk, IfErr, refl, sym, ◌∙◌, ap, subst, arith}
use Rattle.std.specs.Prelude.{is_some}
use Rattle.std.proofs.lemmas.Bool.{true≢false}
use Rattle.bfs_base.specs.Counts.{Rose}
use Rattle.bfs_disk.specs.State.{State}
use Rattle.bfs_super.specs.declared.sup.Super.{Super}
use Rattle.bfs_txn.specs.declared.group.Group.{Group}
use Rattle.bfs_device.specs.declared.journal.Phase.{Phase}
use Rattle.bfs_device.specs.declared.journal.Phase.TheVariants as phases
use Rattle.bfs_device.specs.declared.journal.Progress.{Progress}
use Rattle.bfs_device.specs.declared.journal.Progress.TheVariants as made
use Rattle.bfs_device.specs.declared.journal.DeviceFault.{DeviceFault}
use Rattle.bfs_device.specs.declared.journal.DeviceFault.TheVariants.{Disk, Stopped}
use Rattle.bfs_device.specs.declared.journal.Stop.{Stop}
use Rattle.bfs_device.specs.Books.{Books}
use Rattle.bfs_device.specs.Calls.{Call, Write, Barrier, told_after, IsFailed}
use Rattle.bfs_device.specs.Steps.{after_phase, call_of, told_front, FailedFront, IsStepFault, IsUnmoved, progress_in, progress_to, stepped, stepped_in}
use Rattle.bfs_device.specs.Told.{HasCounted}
use Rattle.bfs_commit.specs.Faults.{HasStepCause}

-- ---- a disk that tells nothing tells nothing after a step

after_none : (c : Call) → told_after c None ≡ None
after_none (Write at bytes) = refl
after_none Barrier = refl

front_none : (s : Super) (gs : List Group) (phase : Phase) → told_front s gs phase None ≡ None
front_none s [] phase = refl
front_none s (g ∷ gs) phase = after_none (call_of s g phase)

failed_none : (c : Call) (new : Option State) → IsFailed c None new → new ≡ None
failed_none (Write at bytes) new failed = failed
failed_none Barrier new failed = failed

failed_front : (s : Super) (gs : List Group) (phase : Phase) (new : Option State) → FailedFront s gs phase None new → new ≡ None
failed_front s [] phase new failed = absurd failed
failed_front s (g ∷ gs) phase new failed = failed_none (call_of s g phase) new failed

still_none : (b new : Books) (told : Option State) (f f' s s' : ℕ) (result : Result Progress DeviceFault) → OnOk result (told ≡ told_front b.sup b.groups b.phase None) → (b.stop ≡ None → OnErr result (FailedFront b.sup b.groups b.phase None told))
    → IfErr result (IsStepFault b new f f' s s') → (IsUnmoved b → told ≡ None) → told ≡ None
still_none b new told f f' s s' (Ok p) call failed fault unmoved = call ∙ front_none b.sup b.groups b.phase
still_none b new told f f' s s' (Err (Disk before after stopped)) call failed fault unmoved = failed_front b.sup b.groups b.phase told (failed fault.0)
still_none b new told f f' s s' (Err (Stopped durable count)) call failed fault unmoved = unmoved (inl (subst (λ (o : Option Stop). IsSome o) (sym fault.0) refl))

-- so what tells after a step told before it
pub told_before : (b new : Books) (old told : Option State) (f f' s s' : ℕ) (result : Result Progress DeviceFault) → OnOk result (told ≡ told_front b.sup b.groups b.phase old) → (b.stop ≡ None → OnErr result (FailedFront b.sup b.groups b.phase old told))
    → IfErr result (IsStepFault b new f f' s s') → (IsUnmoved b → told ≡ old) → (st : State) → told ≡ Some st → (was : State) × (old ≡ Some was)
told_before b new (Some was) told f f' s s' result call failed fault unmoved st is = (was, refl)
told_before b new None told f f' s s' result call failed fault unmoved st is = absurd (true≢false (ap is_some (sym is ∙ still_none b new told f f' s s' result call failed fault unmoved)))

-- ---- numbers that a step keeps

after_spare : (g : Group) (gs : List Group) (b : Books) (p : Phase) → (after_phase g gs b p).spare ≡ b.spare
after_spare g gs b (phases.Log at) = refl
after_spare g gs b phases.LogSafe = refl
after_spare g gs b phases.Open = refl
after_spare g gs b phases.OpenSafe = refl
after_spare g gs b (phases.Home at) = refl
after_spare g gs b phases.HomeSafe = refl
after_spare g gs b phases.Tail = refl
after_spare g gs b phases.TailSafe = refl
after_spare g gs b phases.Pass = refl

after_stop : (g : Group) (gs : List Group) (b : Books) (p : Phase) → (after_phase g gs b p).stop ≡ b.stop
after_stop g gs b (phases.Log at) = refl
after_stop g gs b phases.LogSafe = refl
after_stop g gs b phases.Open = refl
after_stop g gs b phases.OpenSafe = refl
after_stop g gs b (phases.Home at) = refl
after_stop g gs b phases.HomeSafe = refl
after_stop g gs b phases.Tail = refl
after_stop g gs b phases.TailSafe = refl
after_stop g gs b phases.Pass = refl

front_spare : (gs : List Group) (b : Books) → (stepped_in gs b).spare ≡ b.spare
front_spare [] b = refl
front_spare (g ∷ gs) b = after_spare g gs b b.phase

front_stop : (gs : List Group) (b : Books) → (stepped_in gs b).stop ≡ b.stop
front_stop [] b = refl
front_stop (g ∷ gs) b = after_stop g gs b b.phase

pub step_spare : (b new : Books) (f f' s s' : ℕ) (result : Result Progress DeviceFault) → IfOk result (λ p. (b.stop ≡ None) × (p ≡ progress_to b.groups b.phase) × (new ≡ stepped b)) → IfErr result (IsStepFault b new f f' s s') → new.spare ≡ b.spare
step_spare b new f f' s s' (Ok p) ok fault = ap (λ (x : Books). x.spare) ok.2 ∙ front_spare b.groups b
step_spare b new f f' s s' (Err (Disk before after stopped)) ok fault = ap (λ (x : Books). x.spare) fault.6
step_spare b new f f' s s' (Err (Stopped durable count)) ok fault = ap (λ (x : Books). x.spare) fault.1

pub step_stop : (b new : Books) (result : Result Progress DeviceFault) → IfOk result (λ p. (b.stop ≡ None) × (p ≡ progress_to b.groups b.phase) × (new ≡ stepped b)) → OnOk result ((b.stop ≡ None) × (new.stop ≡ None))
step_stop b new (Ok p) ok = (ok.0, ap (λ (x : Books). x.stop) ok.2 ∙ front_stop b.groups b ∙ ok.0)
step_stop b new (Err e) ok = tt

-- ---- a step that finds nothing to do

busy : (g : Group) (p : Phase) → made.Idle ≡ progress_in g p → ⊥
busy g (phases.Log at) e = cc
busy g phases.LogSafe e = cc
busy g phases.Open e = cc
busy g phases.OpenSafe e = cc
busy g (phases.Home at) e = cc
busy g phases.HomeSafe e = cc
busy g phases.Tail e = cc
busy g phases.TailSafe e = cc
busy g phases.Pass e = cc

idle_groups : (gs : List Group) (p : Phase) → made.Idle ≡ progress_to gs p → gs ≡ []
idle_groups [] p e = refl
idle_groups (g ∷ gs) p e = absurd (busy g p e)

pub idle_is_empty : (b new : Books) → made.Idle ≡ progress_to b.groups b.phase → new ≡ stepped b → new.groups ≡ []
idle_is_empty b new idle is =
    let none : b.groups ≡ [] = idle_groups b.groups b.phase idle in
    ap (λ (x : Books). x.groups) (is ∙ ap (λ (gs : List Group). stepped_in gs b) none) ∙ none

pub counted_less : (old new : ℕ) (p : Progress) → p ≢ made.Idle → HasCounted old new p → new < old
counted_less old new made.Logged other c = omega (arith, c)
counted_less old new made.LogSafe other c = omega (arith, c)
counted_less old new made.Opened other c = omega (arith, c)
counted_less old new (made.Durable n) other c = omega (arith, c)
counted_less old new (made.Home b) other c = omega (arith, c)
counted_less old new made.HomeSafe other c = omega (arith, c)
counted_less old new made.TailMoved other c = omega (arith, c)
counted_less old new made.TailSafe other c = omega (arith, c)
counted_less old new made.Idle other c = absurd (other refl)

-- ---- why steps have ended

some_not_none : (s : Stop) → Some s ≢ None
some_not_none s e = true≢false (ap is_some e)

pub step_cause : (b new : Books) (f f' s s' : ℕ) (fault : DeviceFault) → IsStepFault b new f f' s s' fault → HasStepCause b.stop new.stop f f' fault
step_cause b new f f' s s' (Disk before after stopped) is =
    let at = is.1 in
    let end = is.2 in
    (is.0, (λ e. some_not_none _ (sym (ap (λ (x : Books). x.stop) is.6) ∙ e)), omega (arith, at), subst (λ (x : ℕ). Rose x after) (sym is.1) (subst (λ (y : ℕ). Rose f y) (sym is.2) is.3), omega (arith, end), is.4)
step_cause b new f f' s s' (Stopped durable count) is = (is.0, ap (λ (x : Books). x.stop) is.1)

-- after steps that went well, and that left the stop as it was
pub cause_since : (old mid new : Option Stop) (f g h : ℕ) (fault : DeviceFault) → mid ≡ old → f ≤ g → HasStepCause mid new g h fault → HasStepCause old new f h fault
cause_since old mid new f g h (Disk before after stopped) same le is = let low = is.2 in (sym same ∙ is.0, is.1, omega (arith, le, low), is.3, is.4, is.5)
cause_since old mid new f g h (Stopped durable count) same le is = (sym same ∙ is.0, is.1 ∙ same)
