-- How a run ends.
use Rattle.std.proofs.Common.{◌≡◌, ◌∙◌, inl, inr, ℕ, pos, ◌⊎◌, List, [], length, Bool, Option, Some, None, Result, Ok, Err, OnOk, refl, sym, ap, subst}
use Rattle.std.specs.List.{All}
use Rattle.std.proofs.lemmas.List.Elements.{All-nil, All-weaker}
use Rattle.bfs_disk.specs.State.{State, Tells, ReadsAs}
use Rattle.bfs_disk.specs.Disk.{MayLeave}
use Rattle.bfs_tree.specs.declared.reply.Entry.{Entry}
use Rattle.bfs_tree.specs.Histories.{Mounted, Legal, after}
use Rattle.bfs_tree.specs.Trees.{Tree}
use Rattle.bfs_count.specs.Counts.{nodes_of}
use Rattle.bfs_command.specs.declared.line.Line.{Line}
use Rattle.bfs_command.specs.Spelled.{Spelled, SpelledSoFar}
use Rattle.bfs_sound.specs.Whole.{Recovers}
use Rattle.bfs_device.specs.Books.{Books, durable_of}
use Rattle.bfs_device.specs.declared.journal.DeviceFault.{DeviceFault}
use Rattle.bfs_core.specs.Spaces.{SpaceView}
use Rattle.bfs_core.specs.Chains.{Image, IsChain}
use Rattle.bfs_core.specs.Settled.{KeepsKnown}
use Rattle.bfs_core.specs.Cores.{Core, IsAcknowledged, IsKnown, RecoversFrom}
use Rattle.bfs_volume.specs.Unmounted.{Unmounted}
use Rattle.bfs_volume.specs.Stamps.{AreDrawn, HasDrawn}
use Rattle.bfs_volume.specs.Closing.{IsChained, IsLeft}
use Rattle.bfs_volume.specs.Failing.{HasFailures}
use Rattle.bfs_device.specs.declared.journal.Stop.{Stop}
use Rattle.bfs_run.specs.declared.run.Closed.{Closed}
use Rattle.bfs_run.specs.declared.run.Run.{Run}
use Rattle.bfs_run.specs.declared.run.Run.TheVariants as runs
use Rattle.bfs_run.specs.Runs.{AreLinesOf, HasHistory, HasNoScript, HasRun, HasRunFailures, IsClosedWell, IsCounted, IsEarly, IsScriptOf, IsSpelledBy, IsUnmountedRun, SaysScript}
use Rattle.bfs_run.specs.Sources.{IsReadOf}
use Rattle.bfs_run.proofs.Complete.{all_answered}
use Rattle.bfs_script.specs.Scripts.{script_of}

-- no line was run
early_history : (run : Run) → IsEarly run → HasHistory run []
early_history (runs.Unmounted why) early = absurd early
early_history runs.Unread early = refl
early_history (runs.BadLine number) early = refl
early_history runs.NoMemory early = tt
early_history (runs.Closed closed) early = absurd early

early_spelled : (run : Run) (root : ℕ) (lines : List Line) → IsEarly run → IsSpelledBy run root [] lines
early_spelled (runs.Unmounted why) root lines early = absurd early
early_spelled runs.Unread root lines early = refl
early_spelled (runs.BadLine number) root lines early = refl
early_spelled runs.NoMemory root lines early = inl refl
early_spelled (runs.Closed closed) root lines early = absurd early

early_counted : (run : Run) → IsEarly run → (tree : Tree) → IsCounted run tree
early_counted (runs.Unmounted why) early tree = tt
early_counted runs.Unread early tree = tt
early_counted (runs.BadLine number) early tree = tt
early_counted runs.NoMemory early tree = tt
early_counted (runs.Closed closed) early tree = absurd early

early_open : (run : Run) → IsEarly run → IsClosedWell run → ⊥
early_open (runs.Unmounted why) early well = early
early_open runs.Unread early well = well
early_open (runs.BadLine number) early well = well
early_open runs.NoMemory early well = well
early_open (runs.Closed closed) early well = early

pub early_run : (t0 : Mounted) (first : Image) (run : Run) (lines : List Line) (told : Option State) (begun : ℕ) (since : ℕ → List ℕ → Type 0) (stands : Option ℕ) (history : List Entry) (durable faults faults' stops stops' : ℕ) → IsEarly run → history ≡ [] → ((image : List ℕ) → MayLeave told image → RecoversFrom t0 history durable image)
    → ((c : List ℕ) → since begun c → ∥ RecoversFrom t0 history 0 c ∥₁) → HasFailures [] [] None None faults faults' stops stops' → IsChained t0 first history told ⊥ → ((image : List ℕ) → MayLeave told image → KeepsKnown t0 history durable image) → HasRun t0 first run lines told begun since stands faults faults' stops stops'
early_run t0 first run lines told begun since stands history durable faults faults' stops stops' early none leaves moments failures chained keeps = record {
  history = [];
  is = early_history run early;
  legal = tt;
  spelled = early_spelled run t0.tree.root lines early;
  durable = durable;
  acknowledged = All-nil (IsAcknowledged durable);
  leaves = λ image left. subst (λ (h : List Entry). RecoversFrom t0 h durable image) none (leaves image left);
  all = λ well. absurd (early_open run early well);
  left = λ well. absurd (early_open run early well);
  moments = λ c left. subst (λ (h : List Entry). ∥ RecoversFrom t0 h 0 c ∥₁) none (moments c left);
  keeps = λ image left. subst (λ (h : List Entry). KeepsKnown t0 h durable image) none (keeps image left);
  keeps_all = λ well. absurd (early_open run early well);
  chained = record {
    images = chained.images;
    chain = subst (λ (h : List Entry). IsChain t0 first h chained.images) none chained.chain;
    last = λ well. absurd (early_open run early well);
  };
  counted = early_counted run early (after t0 []);
  stamps = λ s is. tt;
  stop = None;
  failures = failures;
  answered = all_answered t0 [] None faults faults' stops stops' tt failures;
}

pub early_failures : (run : Run) (faults faults' stops stops' : ℕ) → IsEarly run → HasFailures [] [] None None faults faults' stops stops' → HasRunFailures run faults faults' stops stops'
early_failures run faults faults' stops stops' early failures = record { history = []; is = early_history run early; stop = None; failures = failures }

-- and it isn't for want of a volume
pub early_mounted : (run : Run) → IsEarly run → IsUnmountedRun run → ⊥
early_mounted (runs.Unmounted why) early not = early
early_mounted runs.Unread early not = not
early_mounted (runs.BadLine number) early not = not
early_mounted runs.NoMemory early not = not
early_mounted (runs.Closed closed) early not = not

-- two reasons of which each is a run's are one
pub same_why : (a b : Unmounted) → runs.Unmounted a ≡ runs.Unmounted b → a ≡ b
same_why a b e = cc

-- ---- lines were run

on_well : (ended : Result Unit DeviceFault) (P : Type 0) → OnOk ended P → ended ≡ Ok tt → P
on_well (Ok u) P all well = all
on_well (Err fault) P all well = absurd (let bad : Err fault ≡ Ok tt = well in cc)

module _ (t0 : Mounted) (sp : SpaceView) (b : Books) (touched : ℕ → Bool) (told : Option State) (at : State) (core : Core t0 sp b touched at) (history : List Entry) (same : history ≡ sp.history)
    (leaves : (image : List ℕ) → MayLeave told image → RecoversFrom t0 sp.history (durable_of b) image) (begun : ℕ) (since : ℕ → List ℕ → Type 0) (moments : (c : List ℕ) → since begun c → ∥ RecoversFrom t0 sp.history 0 c ∥₁)
    (stands : Option ℕ) (stamps : (s : ℕ) → stands ≡ Some s → HasDrawn [] sp.history s) (faults faults' stops stops' : ℕ) (failed : (stop : Option Stop) × HasFailures [] history None stop faults faults' stops stops') (first : Image) (keeps : (image : List ℕ) → MayLeave told image → KeepsKnown t0 sp.history (durable_of b) image) where
  acknowledged : All (IsAcknowledged (durable_of b)) history
  acknowledged = subst (All (IsAcknowledged (durable_of b))) (sym same) (All-weaker (IsKnown b) (IsAcknowledged (durable_of b)) (λ e known. known.0) sp.history core.one.known)

  legal_history : Legal t0 history
  legal_history = subst (Legal t0) (sym same) core.space.legal

  leaves_history : (image : List ℕ) → MayLeave told image → RecoversFrom t0 history (durable_of b) image
  leaves_history image left = subst (λ (h : List Entry). RecoversFrom t0 h (durable_of b) image) (sym same) (leaves image left)

  moments_history : (c : List ℕ) → since begun c → ∥ RecoversFrom t0 history 0 c ∥₁
  moments_history c left = subst (λ (h : List Entry). ∥ RecoversFrom t0 h 0 c ∥₁) (sym same) (moments c left)

  keeps_history : (image : List ℕ) → MayLeave told image → KeepsKnown t0 history (durable_of b) image
  keeps_history image left = subst (λ (h : List Entry). KeepsKnown t0 h (durable_of b) image) (sym same) (keeps image left)

  drawn_history : (s : ℕ) → stands ≡ Some s → AreDrawn (pos 0) s history
  drawn_history s is = let all = stamps s is in subst (AreDrawn (pos 0) s) (sym (same ∙ all.appended)) all.drawn

  pub closed_run : (closed : Closed) (lines : List Line) → closed.history.items ≡ history → Spelled t0.tree.root history lines → OnOk closed.ended ((image : List ℕ) → MayLeave told image → Recovers image (after t0 sp.history))
      → OnOk closed.ended ((image : List ℕ) → Tells told (λ st. ReadsAs st image) → IsLeft t0 sp.history image) → closed.nodes ≡ nodes_of (after t0 sp.history) → IsChained t0 first sp.history told (closed.ended ≡ Ok tt) → OnOk closed.ended ((image : List ℕ) → MayLeave told image → KeepsKnown t0 sp.history (length sp.history) image) → HasRun t0 first (runs.Closed closed) lines told begun since stands faults faults' stops stops'
  closed_run closed lines items spelled all left counted chained keeps_all = record {
    history = history;
    is = items;
    legal = legal_history;
    spelled = spelled;
    durable = durable_of b;
    acknowledged = acknowledged;
    leaves = leaves_history;
    all = λ well image left. subst (λ (h : List Entry). Recovers image (after t0 h)) (sym same) (on_well closed.ended ((image : List ℕ) → MayLeave told image → Recovers image (after t0 sp.history)) all well image left);
    left = λ well image reads. subst (λ (h : List Entry). IsLeft t0 h image) (sym same) (on_well closed.ended ((image : List ℕ) → Tells told (λ st. ReadsAs st image) → IsLeft t0 sp.history image) left well image reads);
    moments = moments_history;
    keeps = keeps_history;
    keeps_all = λ well image left. subst (λ (h : List Entry). KeepsKnown t0 h (length h) image) (sym same) (on_well closed.ended ((image : List ℕ) → MayLeave told image → KeepsKnown t0 sp.history (length sp.history) image) keeps_all well image left);
    chained = subst (λ (h : List Entry). IsChained t0 first h told (closed.ended ≡ Ok tt)) (sym same) chained;
    counted = counted ∙ sym (ap (λ (h : List Entry). nodes_of (after t0 h)) same);
    stamps = drawn_history;
    stop = failed.0;
    failures = failed.1;
    answered = all_answered t0 history failed.0 faults faults' stops stops' legal_history failed.1;
  }

  pub broken_run : (lines : List Line) → SpelledSoFar t0.tree.root history lines → {Well : Type 0} → IsChained t0 first sp.history told Well → HasRun t0 first runs.NoMemory lines told begun since stands faults faults' stops stops'
  broken_run lines spelled chained = record {
    history = history;
    is = tt;
    legal = legal_history;
    spelled = inr spelled;
    durable = durable_of b;
    acknowledged = acknowledged;
    leaves = leaves_history;
    all = λ well. absurd well;
    left = λ well. absurd well;
    moments = moments_history;
    keeps = keeps_history;
    keeps_all = λ well. absurd well;
    chained = record { images = chained.images; chain = subst (λ (h : List Entry). IsChain t0 first h chained.images) (sym same) chained.chain; last = λ well. absurd well };
    counted = tt;
    stamps = drawn_history;
    stop = failed.0;
    failures = failed.1;
    answered = all_answered t0 history failed.0 faults faults' stops stops' legal_history failed.1;
  }

-- ---- the lines of a script

pub early_lines : (told : Option (List ℕ)) (run : Run) → SaysScript told run → (lines : List Line) × AreLinesOf told run lines
early_lines None run says = ([], λ left bad. absurd (let e : None ≡ Some left = bad in cc))
early_lines (Some first) run says = by_script (says first refl)
  where
    moved : (left : List ℕ) → Some first ≡ Some left → first ≡ left
    moved left e = cc

    by_script : HasNoScript run ⊎ ((read : List ℕ) × IsReadOf first read × IsScriptOf run read) → (lines : List Line) × AreLinesOf (Some first) run lines
    by_script (inl none) = ([], λ left e. inl (none, refl))
    by_script (inr (read, is, says_so)) = (script_of read, λ left e. inr (read, subst (λ (l : List ℕ). IsReadOf l read) (moved left e) is, refl, says_so))
