-- Where the disk's count of faults didn't rise, each entry is answered by the plain tree, or for want of room.
use Rattle.std.proofs.Common.{◌≡◌, ◌≤◌, ◌++◌, ◌-◌, ◌^◌, ◌⊎◌, ⊎_elim, inl, inr, min, ℕ, zero, suc, List, [], ◌∷◌, true, false, Option, Some, None, refl, sym, subst, take, arith, append_assoc, append-nil}
use Rattle.std.specs.Prelude.{IsTrue, slice_get}
use Rattle.bfs_base.specs.Counts.{Rose}
use Rattle.bfs_tree.specs.declared.call.Call.{Call}
use Rattle.bfs_tree.specs.declared.call.Call.TheVariants as calls
use Rattle.bfs_tree.specs.declared.reply.Reply.{Reply}
use Rattle.bfs_tree.specs.declared.reply.Reply.TheVariants as replies
use Rattle.bfs_tree.specs.declared.reply.Entry.{Entry}
use Rattle.bfs_tree.specs.Refusals.{own_refusal}
use Rattle.bfs_tree.specs.Steps.{ByTree, Step, by_tree, by_disk, no_room, changes_tree, is_by_disk, is_for_room, next}
use Rattle.bfs_tree.specs.States.{State}
use Rattle.bfs_tree.specs.Histories.{Mounted, Legal, LegalFrom, state_after}
use Rattle.bfs_device.specs.declared.journal.Stop.{Stop}
use Rattle.bfs_volume.specs.Failing.{AreCountedIn, HasFailures, IsLetGoIn, IsReplyIn}
use Rattle.bfs_run.specs.Complete.{AreAnswered, IsAnswered, IsWholePiece}

-- a count is at most a later one, or that stands at its end
abbrev Near : ℕ → ℕ → Type 0
Near a b = min a (2 ^ 64 - 1) ≤ b

near_trans : (a b c : ℕ) → Near a b → Near b c → Near a c
near_trans a b c one two = omega (arith, one, two)

-- a count that rose between two others
rose_between : (a b c d e f : ℕ) → Near a b → b ≤ c → Rose c d → d ≤ e → Near e f → Rose a f
rose_between a b c d e f one two rose three four = omega (arith, one, two, rose, three, four)

near_rose : (b c d e : ℕ) → b ≤ c → Rose c d → d ≤ e → Near b e
near_rose b c d e one rose two = omega (arith, one, rose, two)

near_le : (a b : ℕ) → a ≤ b → Near a b
near_le a b le = omega (arith, le)

near_call : (stop : Option Stop) (low high : ℕ) (call : Call) → IsLetGoIn stop low high call → Near low high
near_call stop low high (calls.Release id bytes false from upto) is = ⊎_elim (λ a. near_rose low from upto high a.0 a.1 a.2) (λ a. near_le low high a.0) is
near_call stop low high (calls.Release id bytes true from upto) is = near_le low high is
near_call stop low high _ is = near_le low high is

near_reply : (stop : Option Stop) (low high : ℕ) (call : Call) (reply : Reply) → IsReplyIn stop low high call reply → Near low high
near_reply stop low high call (replies.DiskFault before after stops) is = near_rose low before after high is.0 is.1 is.2
near_reply stop low high call (replies.Stopped durable n) is = near_le low high is.0
near_reply stop low high call _ is = near_call stop low high call is

near_all : (stop : Option Stop) (low high : ℕ) (es : List Entry) → AreCountedIn stop low high es → Near low high
near_all stop low high [] is = near_le low high is
near_all stop low high (e ∷ es) is = near_trans low is.0 high (near_reply stop low is.0 e.call e.reply is.1) (near_all stop is.0 high es is.2)

-- a step that no disk has refused
stepped : (e : Entry) (old new : State) → (IsTrue (is_by_disk e.reply) → ⊥) → Step old e new → ByTree e.session e.stamp e.call e.reply old new ⊎ ((own_refusal e.call old ≡ None) × IsTrue (changes_tree e.call) × IsTrue (is_for_room e.reply))
stepped e old new other (by_tree is) = inl is
stepped e old new other (by_disk is same) = absurd (other is)
stepped e old new other (no_room none changes room same) = inr (none, changes, room)

module _ (t0 : Mounted) (faults faults' : ℕ) (stop : Option Stop) (level : Rose faults faults' → ⊥) (going : (s : Stop) → stop ≡ Some s → Rose faults faults') where
  unfailed : (low high : ℕ) (call : Call) (reply : Reply) → Near faults low → Near high faults' → IsReplyIn stop low high call reply → IsTrue (is_by_disk reply) → ⊥
  unfailed low high call (replies.DiskFault before after stops) from upto is by = level (rose_between faults low before after high faults' from is.0 is.1 is.2 upto)
  unfailed low high call (replies.Stopped durable n) from upto is by = level (going _ is.1)
  unfailed low high call _ from upto is by = absurd (let e : false ≡ true = by in cc)

  whole_call : (low high : ℕ) (call : Call) → Near faults low → Near high faults' → IsLetGoIn stop low high call → IsWholePiece call
  whole_call low high (calls.Release id bytes false before after) from upto is = absurd (level (⊎_elim (λ a. rose_between faults low before after high faults' from a.0 a.1 a.2 upto) (λ a. going _ a.3) is))
  whole_call low high (calls.Release id bytes true before after) from upto is = refl
  whole_call low high _ from upto is = tt

  whole_piece : (low high : ℕ) (call : Call) (reply : Reply) → Near faults low → Near high faults' → IsReplyIn stop low high call reply → IsWholePiece call
  whole_piece low high call (replies.DiskFault before after stops) from upto is = absurd (level (rose_between faults low before after high faults' from is.0 is.1 is.2 upto))
  whole_piece low high call (replies.Stopped durable n) from upto is = absurd (level (going _ is.1))
  whole_piece low high call _ from upto is = whole_call low high call from upto is

  abbrev Good : List Entry → Entry → Type 0
  Good before e = IsAnswered t0 before e × IsWholePiece e.call

  answered : (before es : List Entry) (low high : ℕ) → LegalFrom t0 before es → AreCountedIn stop low high es → Near faults low → Near high faults' → (n : ℕ) (e : Entry) → slice_get es n ≡ Some e → Good (before ++ take n es) e
  answered before [] low high legal counted from upto n e is = absurd (cc)
  answered before (x ∷ xs) low high legal counted from upto zero e is =
      let end = near_trans counted.0 high faults' (near_all stop counted.0 high xs counted.2) upto in
      let here : Good before x = (stepped x (state_after t0 before) (next (state_after t0 before) x) (unfailed low counted.0 x.call x.reply from end counted.1) legal.0.step, whole_piece low counted.0 x.call x.reply from end counted.1) in
      let same : x ≡ e = cc in
      subst (Good (before ++ [])) same (subst (λ (h : List Entry). Good h x) (sym (append-nil before)) here)
  answered before (x ∷ xs) low high legal counted from upto (suc n) e is =
      subst (λ (h : List Entry). Good h e) (append_assoc before (x ∷ []) (take n xs))
      (answered (before ++ x ∷ []) xs counted.0 high legal.1 counted.2 (near_trans faults low counted.0 from (near_reply stop low counted.0 x.call x.reply counted.1)) upto n e is)

pub all_answered : (t0 : Mounted) (history : List Entry) (stop : Option Stop) (faults faults' stops stops' : ℕ) → Legal t0 history → HasFailures [] history None stop faults faults' stops stops' → (Rose faults faults' → ⊥) → AreAnswered t0 history
all_answered t0 history stop faults faults' stops stops' legal has level n e is =
    let going : (s : Stop) → stop ≡ Some s → Rose faults faults' = λ s halted. let at = has.counts.stopped refl s halted in let rose = at.0 in let le = at.1 in omega (arith, rose, le) in
    answered t0 faults faults' stop level going [] history faults faults' legal (subst (AreCountedIn stop faults faults') (sym has.appended) has.counted) (near_le faults faults (omega arith)) (near_le faults' faults' (omega arith)) n e is
