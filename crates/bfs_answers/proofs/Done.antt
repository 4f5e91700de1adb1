-- A call that gives nothing back and was done.
use Rattle.std.proofs.Common.{◌≡◌, ◌⊎◌, inl, inr, ℕ, ℤ, List, [], Option, Bool, true, false, sym, ap, refl, ◌∙◌, subst, append-nil, Some}
use Rattle.bfs_super.specs.declared.geometry.Geometry.{Geometry}
use Rattle.bfs_bitmap.specs.Runs.{Room, is_reserved}
use Rattle.bfs_tree.specs.declared.call.Call.{Call}
use Rattle.bfs_tree.specs.declared.reply.Reply.{Reply}
use Rattle.bfs_tree.specs.declared.state.Hold.{Hold}
use Rattle.bfs_tree.specs.Trees.{Tree}
use Rattle.bfs_sound.specs.Owners.{IsMetadata}
use Rattle.bfs_shift.specs.Lists.{Lists}
use Rattle.bfs_shift.specs.Shifts.{volume_in}
use Rattle.bfs_moves.specs.Laws.{IsApart, IsCallKept}
use Rattle.bfs_moves.proofs.Ends.{call_is_kept, goes_on_same}
use Rattle.bfs_look.specs.Ready.{IsReady}
use Rattle.bfs_calls.specs.Done.{IsDone, IsDoneSo}
use Rattle.bfs_core.specs.Spaces.{IsFresh}
use Rattle.bfs_answers.specs.Called.{IsCalled}
use Rattle.bfs_answers.specs.Answered.{AnswersIn, IsAnswered}
use Rattle.bfs_answers.proofs.Keeping.{goes_on_keeps, still_keeps}

module _ (g : Geometry) (v now : Room) (m : ℕ → Option (List ℕ)) (tree : Tree) (lists : Lists) (told : Option (ℕ → Option (List ℕ))) (old new : ℕ → Bool) (ready : IsReady g v m tree lists) where
  module _ (after : Tree) (done : IsDone g v now m tree after told old new) where
    kept : IsCallKept g m done.step.map tree after old new
    kept = call_is_kept g v now m done.step.map tree after lists done.lists old new ready.work done.step.work done.step.goes_on

    same_given : now.given ≡ v.given
    same_given = ap (λ (r : Room). r.given) done.step.goes_on.rest

    by_change : (k : ℕ) → (old k ≡ true) ⊎ (IsMetadata (volume_in g done.step.map) after k × IsApart g k) → (old k ≡ true) ⊎ (IsApart g k × (IsMetadata (volume_in g done.step.map) after k ⊎ IsFresh now.given k))
    by_change k (inl e) = inl e
    by_change k (inr h) = inr (h.1, inl h.0)

    by_set : (k : ℕ) → IsMetadata (volume_in g m) tree k ⊎ (new k ≡ true) → new k ≡ false → IsMetadata (volume_in g m) tree k
    by_set k (inl h) none = h
    by_set k (inr e) none = let bad : true ≡ false = sym e ∙ none in absurd cc

    pub done_is_called : IsCalled g v now m done.step.map tree after old new
    done_is_called = record {
      lists = done.lists;
      work = done.step.work;
      agrees = done.agrees;
      root = done.root;
      given = [];
      longer = same_given ∙ sym (append-nil v.given);
      reserved = λ k r. let before = subst (λ gs. is_reserved gs k ≡ true) same_given r in done.step.goes_on.reserved k before (ready.reserved k before);
      blocks = λ k marked. inl (record { marked = kept.marked k marked; metadata = kept.metadata k marked });
      kept = done.step.goes_on.kept;
      changed = λ k h. by_change k (kept.changed k h);
      set = λ k meta none. by_set k (done.step.goes_on.entered k meta) none;
    }

  pub done_is_answered : (holds : List Hold) (stamp : ℤ) (call : Call) (reply : Reply) → IsDoneSo g v now m tree stamp call reply told old new → IsAnswered g v now m tree holds stamp call reply told old new
  done_is_answered holds stamp call reply so = record {
    map = so.done.step.map;
    is = so.done.step.is;
    after = so.after;
    called = done_is_called so.after so.done;
    by_tree = λ s same held session. let a = so.answers s same in (a.0, a.1, a.2 session);
    blocks = goes_on_keeps g v now m so.done.step.map tree so.after old new call so.done.step.goes_on;
  }

-- a call that was answered and has changed nothing
pub read_is_answered : (g : Geometry) (v : Room) (m : ℕ → Option (List ℕ)) (tree : Tree) (holds : List Hold) (lists : Lists) (told : Option (ℕ → Option (List ℕ))) (old : ℕ → Bool) (stamp : ℤ) (call : Call) (reply : Reply)
    → IsReady g v m tree lists → told ≡ Some m → AnswersIn stamp call reply tree holds tree → IsAnswered g v v m tree holds stamp call reply told old old
read_is_answered g v m tree holds lists told old stamp call reply ready is answers = record {
  map = m;
  is = is;
  after = tree;
  called = done_is_called g v v m tree lists told old old ready tree (record {
    lists = lists;
    step = record { map = m; is = is; work = ready.work; goes_on = goes_on_same g v m tree old };
    agrees = ready.agrees;
    root = refl;
  });
  by_tree = answers;
  blocks = still_keeps (volume_in g m) tree call;
}
