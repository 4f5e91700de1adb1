-- What becomes of a call that what lies below has refused.
use Rattle.std.proofs.Common.{◌≡◌, ◌≤◌, ◌+◌, ◌∙◌, ◌⊎◌, inr, ℕ, ℤ, List, false, Option, Some, refl, sym, ap, subst, arith}
use Rattle.std.specs.Prelude.{Result, Ok, Err, IfOk, IfErr}
use Rattle.bfs_super.specs.declared.geometry.Geometry.{Geometry}
use Rattle.bfs_super.specs.declared.sup.Super.{Super}
use Rattle.bfs_super.specs.Conditions.{IsValid, ceil}
use Rattle.bfs_super.specs.Geometry.{geometry_of}
use Rattle.bfs_txn.specs.Changed.{over}
use Rattle.bfs_device.specs.Layouts.{layout_of}
use Rattle.bfs_bitmap.specs.Runs.{Room}
use Rattle.bfs_node.specs.declared.fault.TreeFault.{TreeFault}
use Rattle.bfs_node.specs.declared.fault.TreeFault.TheVariants as tree
use Rattle.bfs_stream.specs.Scans.{IsDamage}
use Rattle.bfs_stream.specs.declared.fault.GrowFault.{GrowFault}
use Rattle.bfs_stream.specs.declared.fault.GrowFault.TheVariants as grow
use Rattle.bfs_txn.specs.Faults.{AreLater, Counts}
use Rattle.bfs_txn.specs.declared.fault.BlockFault.{BlockFault}
use Rattle.bfs_txn.specs.declared.fault.BlockFault.TheVariants as block
use Rattle.bfs_stream.specs.Faults.{IsCauseIn}
use Rattle.bfs_tree.specs.declared.call.Call.{Call}
use Rattle.bfs_tree.specs.declared.reply.Reply.{Reply}
use Rattle.bfs_tree.specs.declared.state.Hold.{Hold}
use Rattle.bfs_tree.specs.declared.reply.Reply.TheVariants as replies
use Rattle.bfs_tree.specs.States.{State}
use Rattle.bfs_tree.specs.Steps.{Turn}
use Rattle.bfs_tree.specs.Trees.{Tree}
use Rattle.bfs_device.specs.declared.journal.Stop.{Stop}
use Rattle.bfs_calls.specs.Done.{HasAnswerCause, IsUnanswered}
use Rattle.bfs_answers.specs.Written.{HasWriteCause}
use Rattle.bfs_sound.specs.Need.{need}
use Rattle.bfs_shift.specs.Shifts.{volume_in}
use Rattle.bfs_core.specs.Caused.{takes_out}
use Rattle.bfs_replies.specs.Replies.{HasFewRuns, array_run, HasReplyCause, IsChange, IsNoReply, IsOutside, IsPutOff, IsReplied, IsThat, IsTooLong, reply_to, reply_to_block}
use Rattle.bfs_replies.specs.declared.replying.NoReply.{NoReply}
use Rattle.bfs_replies.specs.declared.replying.NoReply.TheVariants.{NoMemory, Drain}

-- one reply or none
some_reply : (o : Option Reply) (r s : Reply) → o ≡ Some r → o ≡ Some s → s ≡ r
some_reply o r s a b = let e : Some r ≡ Some s = sym a ∙ b in cc

module _ (g : Geometry) (v : Room) (m : ℕ → Option (List ℕ)) (t : Tree) (holds : List Hold) (Idle : Type 0) (call : Call) where
  -- a fault of a block that is no damage
  pub block_outside : (f : BlockFault) (r : Reply) → reply_to_block f ≡ Some r → ¬ IsDamage f → IsOutside g v m t holds Idle call r
  block_outside (block.Disk before after) r is fine = let e : replies.DiskFault before after false ≡ r = cc in subst (IsOutside g v m t holds Idle call) e refl
  block_outside (block.Stopped durable faults) r is fine = let e : replies.Stopped durable faults ≡ r = cc in subst (IsOutside g v m t holds Idle call) e tt
  block_outside (block.Damaged b) r is fine = absurd (fine tt)
  block_outside block.NoMemory r is fine = absurd cc

  pub step_outside : (f : TreeFault GrowFault) (r : Reply) → reply_to f ≡ Some r → IsUnanswered f → IsOutside g v m t holds Idle call r
  step_outside tree.Exists r is why = absurd why
  step_outside tree.Absent r is why = absurd why
  step_outside (tree.Damaged page sort) r is why = absurd why
  step_outside (tree.Pages (grow.NoRun wanted free)) r is why = absurd cc
  step_outside (tree.Pages (grow.Full room)) r is why = absurd cc
  step_outside (tree.Pages (grow.Block f)) r is why = block_outside f r is why
  step_outside tree.NoMemory r is why = absurd cc

-- and its cause
pub block_caused : (old new : Counts) (stop : Option Stop) (f : BlockFault) (r : Reply) → reply_to_block f ≡ Some r → IsCauseIn old new f → HasReplyCause old new stop r
block_caused old new stop (block.Disk before after) r is cause = let e : replies.DiskFault before after false ≡ r = cc in subst (HasReplyCause old new stop) e (refl, cause)
block_caused old new stop (block.Stopped durable faults) r is cause = let e : replies.Stopped durable faults ≡ r = cc in subst (HasReplyCause old new stop) e (inr cause)
block_caused old new stop (block.Damaged b) r is cause = let e : replies.Damaged b ≡ r = cc in subst (HasReplyCause old new stop) e tt
block_caused old new stop block.NoMemory r is cause = absurd cc

pub step_caused : (blocks : ℕ) (old new : Counts) (stop : Option Stop) (f : TreeFault GrowFault) (r : Reply) → reply_to f ≡ Some r → HasWriteCause blocks old new f → HasReplyCause old new stop r
step_caused blocks old new stop tree.Exists r is cause = absurd cause
step_caused blocks old new stop tree.Absent r is cause = absurd cause
step_caused blocks old new stop (tree.Damaged page sort) r is cause = absurd cc
step_caused blocks old new stop (tree.Pages (grow.NoRun wanted free)) r is cause = absurd cc
step_caused blocks old new stop (tree.Pages (grow.Full room)) r is cause = absurd cc
step_caused blocks old new stop (tree.Pages (grow.Block f)) r is cause = block_caused old new stop f r is cause
step_caused blocks old new stop tree.NoMemory r is cause = absurd cc

pub step_answered : (old new : Counts) (stop : Option Stop) (f : TreeFault GrowFault) (r : Reply) → reply_to f ≡ Some r → HasAnswerCause old new f → HasReplyCause old new stop r
step_answered old new stop tree.Exists r is cause = absurd cause
step_answered old new stop tree.Absent r is cause = absurd cause
step_answered old new stop (tree.Damaged page sort) r is cause = absurd cc
step_answered old new stop (tree.Pages (grow.NoRun wanted free)) r is cause = absurd cc
step_answered old new stop (tree.Pages (grow.Full room)) r is cause = absurd cc
step_answered old new stop (tree.Pages (grow.Block f)) r is cause = block_caused old new stop f r is cause
step_answered old new stop tree.NoMemory r is cause = absurd cc

-- a reply to a fault says of no call that it was done
pub block_undone : (f : BlockFault) (r : Reply) → reply_to_block f ≡ Some r → r ≡ replies.Done → ⊥
block_undone (block.Disk before after) r is done = let bad : Some (replies.DiskFault before after false) ≡ Some replies.Done = is ∙ ap (λ (x : Reply). Some x) done in absurd cc
block_undone (block.Stopped durable faults) r is done = let bad : Some (replies.Stopped durable faults) ≡ Some replies.Done = is ∙ ap (λ (x : Reply). Some x) done in absurd cc
block_undone (block.Damaged b) r is done = let bad : Some (replies.Damaged b) ≡ Some replies.Done = is ∙ ap (λ (x : Reply). Some x) done in absurd cc
block_undone block.NoMemory r is done = absurd cc

pub step_undone : (f : TreeFault GrowFault) (r : Reply) → reply_to f ≡ Some r → r ≡ replies.Done → ⊥
step_undone tree.Exists r is done = absurd cc
step_undone tree.Absent r is done = absurd cc
step_undone (tree.Damaged page sort) r is done = absurd cc
step_undone (tree.Pages (grow.NoRun wanted free)) r is done = absurd cc
step_undone (tree.Pages (grow.Full room)) r is done = absurd cc
step_undone (tree.Pages (grow.Block f)) r is done = block_undone f r is done
step_undone tree.NoMemory r is done = absurd cc

-- what holds of the one reply that there may be
pub that_ok : (o : Option Reply) (P : Reply → Type 0) (result : Result Reply NoReply) → IsThat o result → ((r : Reply) → o ≡ Some r → P r) → IfOk result P
that_ok o P (Ok r) that each = each r that
that_ok o P (Err e) that each = tt

pub that_err : (o : Option Reply) (P : NoReply → Type 0) (result : Result Reply NoReply) → IsThat o result → P NoMemory → IfErr result P
that_err o P (Ok r) that none = tt
that_err o P (Err e) that none = subst P (sym that.1) none

-- why a call was turned away, for another word on what is held back
pub outside_for : (g : Geometry) (v : Room) (m : ℕ → Option (List ℕ)) (t : Tree) (holds : List Hold) (P Q : Type 0) (call : Call) (r : Reply) → (P → Q) → IsOutside g v m t holds P call r → IsOutside g v m t holds Q call r
outside_for g v m t holds P Q call (replies.NoSpace free needed) f w = record { change = w.change; idle = f w.idle; takes = w.takes; free_is = w.free_is; within = w.within; why = w.why }
outside_for g v m t holds P Q call (replies.NoLogRoom blocks room) f w = record { change = w.change; idle = f w.idle; room_is = w.room_is; within = w.within; why = w.why }
outside_for g v m t holds P Q call (replies.DiskFault before after stops) f w = w
outside_for g v m t holds P Q call (replies.Stopped durable faults) f w = tt
outside_for g v m t holds P Q call _ f w = absurd w

pub put_off_for : (g : Geometry) (v : Room) (m : ℕ → Option (List ℕ)) (begun : ℕ) (t : Tree) (holds : List Hold) (P Q : Type 0) (call : Call) → (Q → P) → IsPutOff g v m begun t holds P call → IsPutOff g v m begun t holds Q call
put_off_for g v m begun t holds P Q call f w = record { change = w.change; busy = λ q. w.busy (f q); needed = w.needed; why = w.why }

-- a call that was turned away is a turn, which leaves the state as it was
pub outside_turn : (g : Geometry) (v : Room) (m : ℕ → Option (List ℕ)) (Idle : Type 0) (session : ℕ) (stamp : ℤ) (call : Call) (r : Reply) (s : State) → IsOutside g v m s.tree s.holds Idle call r → Turn session stamp call r s s
outside_turn g v m Idle session stamp call (replies.NoSpace free needed) s w = Turn.no_room (w.change.fine s refl refl) w.change.changes refl refl
outside_turn g v m Idle session stamp call (replies.NoLogRoom blocks room) s w = Turn.no_room (w.change.fine s refl refl) w.change.changes refl refl
outside_turn g v m Idle session stamp call (replies.DiskFault before after stops) s w = Turn.by_disk refl refl
outside_turn g v m Idle session stamp call (replies.Stopped durable faults) s w = Turn.by_disk refl refl
outside_turn g v m Idle session stamp call _ s w = absurd w

pub outside_unsynced : (g : Geometry) (v : Room) (m : ℕ → Option (List ℕ)) (t : Tree) (holds : List Hold) (Idle : Type 0) (call : Call) (r : Reply) (upto : ℕ) → IsOutside g v m t holds Idle call r → r ≡ replies.Synced upto → ⊥
outside_unsynced g v m t holds Idle call r upto w is = subst (IsOutside g v m t holds Idle call) is w

-- more blocks are too long where fewer are
pub longer : (g : Geometry) (n k : ℕ) → n ≤ k → IsTooLong g n → IsTooLong g k
longer g n k le long = let more : n + ceil n 126 ≤ k + ceil k 126 = grind (arith, le) in omega (arith, long, more)

-- a call that found no run is put off where space is short
pub put_off_of : (g : Geometry) (v : Room) (m : ℕ → Option (List ℕ)) (begun : ℕ) (t : Tree) (holds : List Hold) (Idle : Type 0) (call : Call) (needed : ℕ) (e : NoReply) → IsChange t holds call → ¬ Idle → takes_out call ≡ false → needed ≤ need (volume_in g m) t call
    → (e ≡ Drain → HasFewRuns v m 1 needed ⊎ HasFewRuns v m (array_run v) needed) → IsNoReply g v m begun t holds Idle call e
put_off_of g v m begun t holds Idle call needed NoMemory change busy takes within few = tt
put_off_of g v m begun t holds Idle call needed Drain change busy takes within few = record { change = change; busy = busy; needed = needed; why = inr (within, takes, few refl) }

-- a reply that comes from outside, after nothing has changed
pub away : (g : Geometry) (v new : Room) (m : ℕ → Option (List ℕ)) (before now : List (ℕ × List ℕ)) (t : Tree) (holds : List Hold) (Idle : Type 0) (stamp : ℤ) (call : Call) (r : Reply) → new ≡ v → now ≡ before → IsOutside g v (over before m) t holds Idle call r → IsReplied g v new m before now t holds Idle stamp call r
away g v new m before now t holds Idle stamp call r room group why = inr (record { room = room; group = group; why = why })

-- the blocks of the log are two at least
pub too_long : (sup : Super) (n : ℕ) → IsValid sup → (layout_of sup).len ≤ n + ceil n 126 → IsTooLong (geometry_of sup) n
too_long sup n valid long = let two = valid.log.2 in omega (arith, two, long)

-- a cause since a later moment is one since an earlier one
pub reply_earlier : (old mid new : Counts) (stop : Option Stop) (r : Reply) → AreLater old mid → HasReplyCause mid new stop r → HasReplyCause old new stop r
reply_earlier old mid new stop (replies.DiskFault before after stops) later cause = (cause.0, (let a = later.faults in let b = cause.1.0 in omega (arith, a, b), cause.1.1, cause.1.2))
reply_earlier old mid new stop (replies.Stopped durable faults) later cause = cause
reply_earlier old mid new stop _ later cause = tt
