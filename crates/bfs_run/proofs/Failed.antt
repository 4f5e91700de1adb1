-- The disk's counts beside the entries of a run.
use Rattle.std.proofs.Common.{◌≡◌, ◌≤◌, ℕ, List, [], Option, None, refl, subst, arith}
use Rattle.bfs_disk.specs.State.{State}
use Rattle.bfs_tree.specs.declared.reply.Entry.{Entry}
use Rattle.bfs_tree.specs.Histories.{Mounted}
use Rattle.bfs_command.specs.declared.line.Line.{Line}
use Rattle.bfs_device.specs.declared.journal.Stop.{Stop}
use Rattle.bfs_core.specs.Chains.{Image}
use Rattle.bfs_volume.specs.Failing.{HasFailures, KeepsCounts}
use Rattle.bfs_volume.proofs.Failed.{counts_kept, failed_none, failed_then, failed_within}
use Rattle.bfs_run.specs.declared.run.Run.{Run}
use Rattle.bfs_run.specs.Runs.{HasRun, HasRunFailures}
use Rattle.bfs_run.proofs.Complete.{all_answered}

-- nothing was done
pub unfailed : (history : List Entry) (stop : Option Stop) (f s : ℕ) → HasFailures history history stop stop f f s s
unfailed history stop f s = failed_none history history stop stop f f s s refl (counts_kept stop stop f f s s refl (omega arith) (omega arith))

-- the lines were run on a volume that had no entry and went on, and it was closed
pub closed_failures : (before now history : List Entry) (old mid : Option Stop) (f g h s t u : ℕ) → before ≡ [] → old ≡ None → HasFailures before now old mid f g s t → history ≡ now → (stop : Option Stop) × KeepsCounts mid stop g h t u
    → (stop : Option Stop) × HasFailures [] history None stop f h s u
closed_failures before now history old mid f g h s t u fresh going has same closed =
    let all = failed_then before now history old mid closed.0 f g h s t u has same closed.1 in
    (closed.0, subst (λ (b : List Entry). HasFailures b history None closed.0 f h s u) fresh (subst (λ (o : Option Stop). HasFailures before history o closed.0 f h s u) going all))

-- the counts may have risen before the volume was mounted
failed_since : (history : List Entry) (stop : Option Stop) (f g h s t u : ℕ) → f ≤ g → s ≤ t → HasFailures [] history None stop g h t u → HasFailures [] history None stop f h s u
failed_since history stop f g h s t u faults stops has = failed_within [] [] history history None None stop f g h s t u (counts_kept None None f g s t refl faults stops) refl refl has

pub failures_since : (run : Run) (f g h s t u : ℕ) → f ≤ g → s ≤ t → HasRunFailures run g h t u → HasRunFailures run f h s u
failures_since run f g h s t u faults stops has = record { history = has.history; is = has.is; stop = has.stop; failures = failed_since has.history has.stop f g h s t u faults stops has.failures }

pub run_since : (t0 : Mounted) (first : Image) (run : Run) (lines : List Line) (told : Option State) (begun : ℕ) (since : ℕ → List ℕ → Type 0) (stands : Option ℕ) (f g h s t u : ℕ) → f ≤ g → s ≤ t → HasRun t0 first run lines told begun since stands g h t u → HasRun t0 first run lines told begun since stands f h s u
run_since t0 first run lines told begun since stands f g h s t u faults stops r = record {
  history = r.history;
  is = r.is;
  legal = r.legal;
  spelled = r.spelled;
  durable = r.durable;
  acknowledged = r.acknowledged;
  leaves = r.leaves;
  all = r.all;
  left = r.left;
  moments = r.moments;
  keeps = r.keeps;
  keeps_all = r.keeps_all;
  chained = r.chained;
  counted = r.counted;
  stamps = r.stamps;
  stop = r.stop;
  failures = failed_since r.history r.stop f g h s t u faults stops r.failures;
  answered = all_answered t0 r.history r.stop f h s u r.legal (failed_since r.history r.stop f g h s t u faults stops r.failures);
}
