-- A call that may have given blocks back, and was done.
use Rattle.std.proofs.Common.{◌≡◌, ◌⊎◌, inl, inr, ℕ, ℤ, List, [], ◌∷◌, ◌++◌, Option, Bool, true, false, refl, sym, subst}
use Rattle.std.specs.Prelude.{◌||◌, None}
use Rattle.std.specs.List.{AllByRecursion}
use Rattle.bfs_super.specs.declared.geometry.Geometry.{Geometry}
use Rattle.bfs_bitmap.specs.declared.given.Given.{Given}
use Rattle.bfs_bitmap.specs.Bits.{in_run}
use Rattle.bfs_bitmap.specs.Runs.{Room, IsSettled, is_reserved}
use Rattle.bfs_tree.specs.declared.call.Call.{Call}
use Rattle.bfs_tree.specs.declared.call.Call.TheVariants.{SetSize}
use Rattle.bfs_tree.specs.declared.reply.Reply.{Reply}
use Rattle.bfs_tree.specs.declared.reply.Reply.TheVariants.{Done}
use Rattle.bfs_tree.specs.declared.state.Hold.{Hold}
use Rattle.bfs_tree.specs.Trees.{Tree}
use Rattle.bfs_sound.specs.Owners.{IsMetadata}
use Rattle.bfs_shift.specs.Lists.{Lists, Agrees}
use Rattle.bfs_shift.specs.Shifts.{volume_in}
use Rattle.bfs_shift.specs.Work.{IsAtWork}
use Rattle.bfs_moves.specs.Laws.{IsApart}
use Rattle.bfs_leave.specs.Laws.{IsCallLeft, StaysSo}
use Rattle.bfs_leave.specs.Leaving.{GivesBack, IsLeft}
use Rattle.bfs_leave.proofs.Steps.{call_is_left}
use Rattle.bfs_look.specs.Ready.{IsReady}
use Rattle.bfs_hold.specs.Sized.{IsSizedSo}
use Rattle.bfs_hold.proofs.Steps.{sized_is_left}
use Rattle.bfs_core.specs.Spaces.{IsFresh}
use Rattle.bfs_answers.specs.Called.{IsCalled, StaysAs}
use Rattle.bfs_answers.specs.Answered.{AnswersIn, IsAnswered}
use Rattle.bfs_answers.proofs.Keeping.{given_back_keeps, resized_keeps}

-- a reserved block of runs without a number was given back since the last seal
fresh_of : (gs : List Given) (k : ℕ) → AllByRecursion (λ run. run.group ≡ None) gs → is_reserved gs k ≡ true → IsFresh gs k
fresh_of [] k none is = absurd (let bad : false ≡ true = is in cc)
fresh_of (g ∷ gs) k none is = by_run (in_run g.first g.len k) refl is (λ r. fresh_of gs k none.1 r)
  where
    by_run : (b : Bool) → in_run g.first g.len k ≡ b → (b || is_reserved gs k) ≡ true → (is_reserved gs k ≡ true → IsFresh gs k) → IsFresh (g ∷ gs) k
    by_run true here r rest = inl (here, none.0)
    by_run false here r rest = inr (rest r)

-- and so it is behind others
fresh_behind : (gs more : List Given) (k : ℕ) → IsFresh more k → IsFresh (gs ++ more) k
fresh_behind [] more k fresh = fresh
fresh_behind (g ∷ gs) more k fresh = inr (fresh_behind gs more k fresh)

module _ (g : Geometry) (v now : Room) (m map : ℕ → Option (List ℕ)) (tree after : Tree) (lists : Lists) (old new : ℕ → Bool)
    (work : IsAtWork g now map after lists []) (agrees : Agrees after lists) (root : after.root ≡ tree.root) (left : IsCallLeft g v now m map tree after old new) where
  fresh : (k : ℕ) → is_reserved left.given k ≡ true → IsFresh now.given k
  fresh k is = subst (λ (gs : List Given). IsFresh gs k) (sym left.longer) (fresh_behind v.given left.given k (fresh_of left.given k left.unnumbered is))

  by_block : (k : ℕ) → StaysSo g m map tree after k ⊎ (is_reserved left.given k ≡ true) → StaysAs g m map tree after k ⊎ IsFresh now.given k
  by_block k (inl stays) = inl (record { marked = stays.marked; metadata = stays.metadata })
  by_block k (inr is) = inr (fresh k is)

  by_change : (k : ℕ) → (old k ≡ true) ⊎ (IsApart g k × (IsMetadata (volume_in g map) after k ⊎ (is_reserved left.given k ≡ true))) → (old k ≡ true) ⊎ (IsApart g k × (IsMetadata (volume_in g map) after k ⊎ IsFresh now.given k))
  by_change k (inl e) = inl e
  by_change k (inr (apart, inl meta)) = inr (apart, inl meta)
  by_change k (inr (apart, inr is)) = inr (apart, inr (fresh k is))

  pub ended_is_called : IsCalled g v now m map tree after old new
  ended_is_called = record {
    lists = lists;
    work = work;
    agrees = agrees;
    root = root;
    given = left.given;
    longer = left.longer;
    reserved = left.reserved;
    blocks = λ k marked. by_block k (left.blocks k marked);
    kept = left.kept;
    changed = λ k h. by_change k (left.changed k h);
    set = left.set;
  }

pub left_is_called : (g : Geometry) (v now : Room) (m map : ℕ → Option (List ℕ)) (tree after : Tree) (before lists : Lists) (old new : ℕ → Bool)
    → IsReady g v m tree before → IsSettled v → IsAtWork g now map after lists [] → Agrees after lists → after.root ≡ tree.root → GivesBack g v now m map tree after old new
    → IsCalled g v now m map tree after old new
left_is_called g v now m map tree after before lists old new ready settled work agrees root gives =
    ended_is_called g v now m map tree after lists old new work agrees root (call_is_left g v now m map tree after before lists old new settled ready.reserved ready.work work gives)

-- its answer
pub left_is_answered : (g : Geometry) (v now : Room) (m : ℕ → Option (List ℕ)) (tree after : Tree) (before lists : Lists) (holds : List Hold) (stamp : ℤ) (call : Call) (reply : Reply) (told : Option (ℕ → Option (List ℕ))) (old new : ℕ → Bool)
    → IsReady g v m tree before → IsSettled v → IsLeft g v now m tree after lists [] told old new → Agrees after lists → after.root ≡ tree.root → AnswersIn stamp call reply tree holds after
    → IsAnswered g v now m tree holds stamp call reply told old new
left_is_answered g v now m tree after before lists holds stamp call reply told old new ready settled left agrees root answers = record {
  map = left.map;
  is = left.is;
  after = after;
  called = left_is_called g v now m left.map tree after before lists old new ready settled left.work agrees root left.gives;
  by_tree = answers;
  blocks = given_back_keeps g v now m left.map tree after lists old new call left.work left.gives;
}

-- the answer of a call that has given a file a size
pub sized_is_answered : (g : Geometry) (v now : Room) (m : ℕ → Option (List ℕ)) (tree : Tree) (lists : Lists) (holds : List Hold) (stamp : ℤ) (id size : ℕ) (told : Option (ℕ → Option (List ℕ))) (old new : ℕ → Bool)
    → IsReady g v m tree lists → IsSettled v → IsSizedSo g v now m tree holds stamp id size told old new → IsAnswered g v now m tree holds stamp (SetSize id size) Done told old new
sized_is_answered g v now m tree lists holds stamp id size told old new ready settled sized = record {
  map = sized.step.map;
  is = sized.step.is;
  after = sized.after;
  called = ended_is_called g v now m sized.step.map tree sized.after sized.lists old new sized.step.work sized.agrees sized.root (sized_is_left g v now m tree lists holds stamp id size told old new settled ready sized);
  by_tree = λ s same held session. let a = sized.answers s same held in (a.0, a.1, a.3 session);
  blocks = resized_keeps g v now m sized.step.map tree sized.after id size sized.grows old new sized.step.resizes;
}
