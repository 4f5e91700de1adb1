-- A hold that is taken: what its call is answered, and what it has made of the volume.
use Rattle.std.proofs.Common.{◌≡◌, ◌≤◌, ℕ, ℤ, List, Bool, true, false, Option, None, refl, sym, ap, subst}
use Rattle.bfs_super.specs.declared.geometry.Geometry.{Geometry}
use Rattle.bfs_bitmap.specs.Runs.{Room}
use Rattle.bfs_tree.specs.Changes.{changed}
use Rattle.bfs_tree.specs.declared.call.Call.TheVariants as calls
use Rattle.bfs_tree.specs.declared.reply.Reply.TheVariants as replies
use Rattle.bfs_tree.specs.declared.state.Hold.{Hold}
use Rattle.bfs_tree.specs.Refusals.{own_refusal}
use Rattle.bfs_tree.specs.States.{State}
use Rattle.bfs_tree.specs.Steps.{ByTree}
use Rattle.bfs_tree.specs.Trees.{Tree}
use Rattle.bfs_sound.specs.Need.{logged_need}
use Rattle.bfs_shift.specs.Lists.{Lists}
use Rattle.bfs_shift.specs.Shifts.{volume_in}
use Rattle.bfs_look.specs.Ready.{IsReady}
use Rattle.bfs_calls.specs.Allowances.{allowance}
use Rattle.bfs_hold.specs.Held.{IsHeldSo, with_stamps}
use Rattle.bfs_answers.specs.Answered.{AnswersIn, IsAnswered}
use Rattle.bfs_answers.specs.Looks.{IsAllowed}
use Rattle.bfs_answers.proofs.Alike.{allowed_alike}
use Rattle.bfs_answers.proofs.Done.{done_is_called}
use Rattle.bfs_answers.proofs.Keeping.{goes_on_keeps}

module _ (tree : Tree) (holds : List Hold) (id at count : ℕ) where
  -- the call has no refusal of its own
  abbrev IsFine : Bool → Type 0
  IsFine write = (s : State) → s.tree ≡ tree → s.holds ≡ holds → own_refusal (calls.Hold id at count write) s ≡ None

  -- a hold to read leaves the tree
  pub reads_held : (write : Bool) → write ≡ false → IsFine write → (stamp : ℤ) → AnswersIn stamp (calls.Hold id at count write) replies.Done tree holds tree
  reads_held true is fine stamp = let bad : true ≡ false = is in absurd cc
  reads_held false is fine stamp = λ s same held session. (changed session stamp (calls.Hold id at count false) replies.Done s, same, ByTree.answered (fine s same held) refl refl)

  -- and one to write leaves that of the file's stamps
  pub writes_held : (write : Bool) → write ≡ true → IsFine write → (stamp : ℤ) → AnswersIn stamp (calls.Hold id at count write) replies.Done tree holds (with_stamps tree id stamp)
  writes_held false is fine stamp = let bad : false ≡ true = is in absurd cc
  writes_held true is fine stamp = λ s same held session. (changed session stamp (calls.Hold id at count true) replies.Done s, ap (λ (t : Tree). with_stamps t id stamp) same, ByTree.answered (fine s same held) refl refl)

  -- what one to write is allowed
  pub hold_allowed : (g : Geometry) (m : ℕ → Option (List ℕ)) (n : ℕ) (write : Bool) → write ≡ true → IsFine write → n ≡ allowance (volume_in g m) tree (calls.Hold id at count true) → n ≤ logged_need (volume_in g m) tree (calls.Hold id at count true)
      → IsAllowed g m tree holds (calls.Hold id at count write) (record { logged = n; taken = n })
  hold_allowed g m n false is fine counted within = let bad : false ≡ true = is in absurd cc
  hold_allowed g m n true is fine counted within = allowed_alike g m tree holds (calls.Hold id at count true) n refl fine refl counted within

  pub held_is_answered : (g : Geometry) (v now : Room) (m : ℕ → Option (List ℕ)) (lists : Lists) (stamp : ℤ) (write : Bool) (told : Option (ℕ → Option (List ℕ))) (old new : ℕ → Bool) → IsReady g v m tree lists
      → write ≡ true → IsFine write → IsHeldSo g v now m tree id stamp told old new → IsAnswered g v now m tree holds stamp (calls.Hold id at count write) replies.Done told old new
  held_is_answered g v now m lists stamp write told old new ready is fine so = record {
    map = so.done.step.map;
    is = so.done.step.is;
    after = so.after;
    called = done_is_called g v now m tree lists told old new ready so.after so.done;
    by_tree = subst (λ (t : Tree). AnswersIn stamp (calls.Hold id at count write) replies.Done tree holds t) (sym so.after_is) (writes_held write is fine stamp);
    blocks = goes_on_keeps g v now m so.done.step.map tree so.after old new (calls.Hold id at count write) so.done.step.goes_on;
  }
