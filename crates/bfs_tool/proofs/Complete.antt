-- How commands end that can be done, where no count rose.
use Rattle.std.proofs.Common.{◌≡◌, ◌≤◌, ◌<◌, ◌⊎◌, ◌+◌, ◌∙◌, ⊎_elim, inl, inr, ℕ, List, [], length, Bool, true, false, cond, Option, Some, None, refl, sym, ap, subst, arith, length-append}
use Rattle.std.specs.Prelude.{◌||◌, is_err}
use Rattle.bfs_disk.specs.Disk.{HasSectors}
use Rattle.bfs_super.proofs.Refused.{refused_not_valid}
use Rattle.bfs_tree.specs.Trees.{Tree}
use Rattle.bfs_tree.specs.declared.reply.Entry.{Entry}
use Rattle.bfs_tree.specs.Histories.{Mounted, Legal}
use Rattle.bfs_script.specs.Scripts.{bad_line}
use Rattle.bfs_sound.specs.Whole.{Recovers}
use Rattle.bfs_replay.specs.declared.recovery.MountFault.{MountFault}
use Rattle.bfs_replay.specs.declared.recovery.MountFault.TheVariants as mounts
use Rattle.bfs_run.specs.Unmounted.{Unmounted}
use Rattle.bfs_run.specs.Unmounted.TheVariants.{Unread, Wrong}
use Rattle.bfs_run.specs.Mounts.{IsHindered}
use Rattle.bfs_run.specs.Runs.{HasHistory, IsUnmountedRun, SaysScript}
use Rattle.bfs_run.specs.declared.run.Closed.{Closed}
use Rattle.bfs_run.specs.declared.run.Run.{Run}
use Rattle.bfs_run.specs.declared.run.Run.TheVariants as endings_of_runs
use Rattle.bfs_run.proofs.Hindered.{recovers_mounted}
use Rattle.bfs_tool.specs.declared.checking.Checking.{Checking}
use Rattle.bfs_tool.specs.declared.checking.Checking.TheVariants as checkings
use Rattle.bfs_tool.specs.declared.label.Ending.{Ending}
use Rattle.bfs_tool.specs.declared.label.Ending.TheVariants as endings
use Rattle.bfs_tool.specs.declared.make.Making.{Making}
use Rattle.bfs_tool.specs.declared.make.Making.TheVariants as makings
use Rattle.bfs_tool.specs.Check.{ChecksBy, IsWhole, checking_status}
use Rattle.bfs_tool.specs.Label.{EndsBy, IsGood, label_status}
use Rattle.bfs_tool.specs.Make.{MakesBy, IsMade, least, making_status, sectors_of}
use Rattle.bfs_words.specs.Words.{IsLabelCommand, IsMakeCommand, IsCheckCommand, IsShellCommand, IsSoakCommand}
use Rattle.bfs_tool.specs.Complete.{CanBeDone, HasScript, IsCompleteStatus, nothing, labels, makes, checks, runs, works}
use Rattle.bfs_tool.specs.Shell.{EndsAs, RunsBy, fault_status, has_damage, has_failed, run_status, unmounted_status}
use Rattle.bfs_tool.proofs.Undamaged.{undamaged}

-- ---- the statuses of endings

fault_good : (fault : MountFault) → (fault_status fault ≡ 4 → ⊥) → IsHindered (Unread fault) → IsCompleteStatus (fault_status fault)
fault_good (mounts.Short sectors needed) level is = absurd is
fault_good (mounts.Super fault) level is = absurd is
fault_good (mounts.Entry fault) level is = absurd is
fault_good (mounts.Disk before after) level is = absurd (level refl)
fault_good mounts.NoMemory level is = inr refl

unmounted_good : (why : Unmounted) → (unmounted_status why ≡ 4 → ⊥) → IsHindered why → IsCompleteStatus (unmounted_status why)
unmounted_good (Unread fault) level is = fault_good fault level is
unmounted_good (Wrong finding) level is = absurd is

checking_good : (image : List ℕ) (tree : Tree) (checking : Checking) → Recovers image tree → (checking_status checking ≡ 4 → ⊥) → ChecksBy image checking → IsCompleteStatus (checking_status checking)
checking_good image tree (checkings.Whole nodes used) recovers level is = inl refl
checking_good image tree (checkings.Wrong finding) recovers level is = absurd (recovers_mounted image tree (Wrong finding) recovers is)
checking_good image tree (checkings.Short sectors needed) recovers level is = absurd (recovers_mounted image tree (Unread (mounts.Short sectors needed)) recovers is)
checking_good image tree (checkings.NotVolume fault) recovers level is = absurd (recovers_mounted image tree (Unread (mounts.Super fault)) recovers is)
checking_good image tree (checkings.Malformed fault) recovers level is = absurd (recovers_mounted image tree (Unread (mounts.Entry fault)) recovers is)
checking_good image tree checkings.DiskFailed recovers level is = absurd (level refl)
checking_good image tree checkings.NoMemory recovers level is = inr refl

label_good : (image : List ℕ) (ending : Ending) → IsGood image → (label_status ending ≡ 4 → ⊥) → EndsBy image ending → IsCompleteStatus (label_status ending)
label_good image endings.Done good level ends = inl refl
label_good image (endings.Short sectors) good level ends = absurd (let long = good.long in let short = ends.1 in omega (arith, long, short))
label_good image (endings.NotVolume fault) good level ends = absurd (refused_not_valid _ fault ends.1 good.valid)
label_good image (endings.LogBusy start end) good level ends = absurd (ends.4 (ends.2 ∙ good.empty_log ∙ sym ends.3))
label_good image endings.DiskFailed good level ends = absurd (level refl)

no_small : (have need n : ℕ) (sectors : Option ℕ) → sectors ≡ Some have → have < need → need ≡ n → HasSectors sectors n → ⊥
no_small have need n None is less same has = has
no_small have need n (Some k) is less same has = let e : k ≡ have = cc in omega (arith, less, same, has, e)

making_good : (sectors : Option ℕ) (blocks size : ℕ) (making : Making) → least blocks size ≤ blocks → HasSectors sectors (sectors_of blocks size) → (making_status making ≡ 4 → ⊥) → MakesBy sectors blocks size making → IsCompleteStatus (making_status making)
making_good sectors blocks size (makings.Made made used) enough fits level by = inl refl
making_good sectors blocks size (makings.Small have need) enough fits level by = absurd (⊎_elim (λ few. let a = few.0 in let b = few.1 in let c = few.2 in omega (arith, enough, a, b, c)) (λ short. no_small have need (sectors_of blocks size) sectors short.1 short.3 short.2 fits) by)
making_good sectors blocks size makings.DiskFailed enough fits level by = absurd (level refl)
making_good sectors blocks size makings.NoMemory enough fits level by = inr refl

abbrev IsFour : ℕ → Type 0
IsFour n = n ≡ 4

closed_good : (failed damaged : Bool) → damaged ≡ false → (IsFour (cond failed 4 (cond damaged 14 0)) → ⊥) → IsCompleteStatus (cond failed 4 (cond damaged 14 0))
closed_good true damaged sound level = absurd (level refl)
closed_good false true sound level = absurd (cc)
closed_good false false sound level = inl refl

run_good : (image : List ℕ) (tree : Tree) (run : Run) → Recovers image tree → (run_status run ≡ 4 → ⊥) → (run_status run ≡ 5 → ⊥) → ((number : ℕ) → run ≡ endings_of_runs.BadLine number → ⊥) → RunsBy image run → ((closed : Closed) → run ≡ endings_of_runs.Closed closed → has_damage closed.history.items ≡ false) → IsCompleteStatus (run_status run)
run_good image tree (endings_of_runs.Unmounted why) recovers level read lines by sound = unmounted_good why level (recovers_mounted image tree why recovers (by why refl))
run_good image tree endings_of_runs.Unread recovers level read lines by sound = absurd (read refl)
run_good image tree (endings_of_runs.BadLine number) recovers level read lines by sound = absurd (lines number refl)
run_good image tree endings_of_runs.NoMemory recovers level read lines by sound = inr refl
run_good image tree (endings_of_runs.Closed closed) recovers level read lines by sound = closed_good (is_err closed.ended || has_failed closed.history.items) (has_damage closed.history.items) (sound closed refl) level

-- ---- the status of the call: that of its ending, or the output failed, or memory was wanting

level_of : (n status : ℕ) → n ≡ status → (n ≡ 4 → ⊥) → status ≡ 4 → ⊥
level_of n status same level four = level (same ∙ four)

pub usage_ends : (n : ℕ) → (n ≡ 0) ⊎ (n ≡ 6) → (n ≡ 6 → ⊥) → IsCompleteStatus n
usage_ends n (inl done) output = inl done
usage_ends n (inr six) output = absurd (output six)

pub label_ends : (image : List ℕ) (n : ℕ) (ending : Ending) → IsGood image → (n ≡ 4 → ⊥) → n ≡ label_status ending → EndsBy image ending → IsCompleteStatus n
label_ends image n ending good level same ends = subst IsCompleteStatus (sym same) (label_good image ending good (λ four. level (same ∙ four)) ends)

pub making_ends : (sectors : Option ℕ) (blocks size n : ℕ) (making : Making) → least blocks size ≤ blocks → HasSectors sectors (sectors_of blocks size) → (n ≡ 4 → ⊥) → (n ≡ 6 → ⊥) → (n ≡ making_status making) ⊎ (IsMade making × (n ≡ 6)) → MakesBy sectors blocks size making → IsCompleteStatus n
making_ends sectors blocks size n making enough fits level output (inl same) by = subst IsCompleteStatus (sym same) (making_good sectors blocks size making enough fits (λ four. level (same ∙ four)) by)
making_ends sectors blocks size n making enough fits level output (inr six) by = absurd (output six.1)

pub checking_ends : (image : List ℕ) (tree : Tree) (n : ℕ) (checking : Checking) → Recovers image tree → (n ≡ 4 → ⊥) → (n ≡ 6 → ⊥) → (n ≡ checking_status checking) ⊎ (IsWhole checking × (n ≡ 6)) → ChecksBy image checking → IsCompleteStatus n
checking_ends image tree n checking recovers level output (inl same) by = subst IsCompleteStatus (sym same) (checking_good image tree checking recovers (λ four. level (same ∙ four)) by)
checking_ends image tree n checking recovers level output (inr six) by = absurd (output six.1)

pub run_ends : (image : List ℕ) (tree : Tree) (n : ℕ) (run : Run) → Recovers image tree → (n ≡ 4 → ⊥) → (n ≡ 5 → ⊥) → (n ≡ 6 → ⊥) → ((number : ℕ) → run ≡ endings_of_runs.BadLine number → n ≡ 9 → ⊥) → RunsBy image run → ((closed : Closed) → run ≡ endings_of_runs.Closed closed → has_damage closed.history.items ≡ false) → EndsAs run n → IsCompleteStatus n
run_ends image tree n run recovers level read output lines by sound (inl seven) = inr seven
run_ends image tree n run recovers level read output lines by sound (inr (inl same)) =
    subst IsCompleteStatus (sym same) (run_good image tree run recovers (λ four. level (same ∙ four)) (λ five. read (same ∙ five)) (λ number is. lines number is (same ∙ ap run_status is)) by sound)
run_ends image tree n run recovers level read output lines by sound (inr (inr six)) = absurd (output six.1)

-- ---- what is known of a run

-- no line of a valid script is bad
pub no_bad_line : (told : Option (List ℕ)) (run : Run) → SaysScript told run → HasScript told → (number : ℕ) → run ≡ endings_of_runs.BadLine number → ⊥
no_bad_line told (endings_of_runs.BadLine number) says script n is =
    ⊎_elim (λ none. none)
    (λ r. ⊎_elim
    (λ same. let e : Some number ≡ None = sym r.2 ∙ ap bad_line same ∙ script.2.good in absurd (cc))
    (λ far.
    let long = far.0 in
    let both : length script.0 ≡ length r.0 + length far.1 = ap length far.2 ∙ length-append r.0 far.1 in
    let few = script.2.few in
    omega (arith, long, both, few))
    r.1)
    (says script.0 script.1)
no_bad_line told (endings_of_runs.Unmounted why) says script n is = absurd (cc)
no_bad_line told endings_of_runs.Unread says script n is = absurd (cc)
no_bad_line told endings_of_runs.NoMemory says script n is = absurd (cc)
no_bad_line told (endings_of_runs.Closed closed) says script n is = absurd (cc)

-- no entry of a volume that was closed tells of damage
pub no_damage : (t0 : Mounted) (run : Run) → IsUnmountedRun run ⊎ ((history : List Entry) × HasHistory run history × Legal t0 history) → (closed : Closed) → run ≡ endings_of_runs.Closed closed → has_damage closed.history.items ≡ false
no_damage t0 (endings_of_runs.Closed c) (inl none) closed is = absurd none
no_damage t0 (endings_of_runs.Closed c) (inr r) closed is = let same : c ≡ closed = cc in subst (λ (x : Closed). has_damage x.history.items ≡ false) same (ap has_damage r.1 ∙ undamaged t0 [] r.0 r.2)
no_damage t0 (endings_of_runs.Unmounted why) r closed is = absurd (cc)
no_damage t0 endings_of_runs.Unread r closed is = absurd (cc)
no_damage t0 (endings_of_runs.BadLine number) r closed is = absurd (cc)
no_damage t0 endings_of_runs.NoMemory r closed is = absurd (cc)

-- ---- what can be done is one of these

pub can_elim : {P : Type 0} (words : List (List ℕ)) (sectors : Option ℕ) (image : List ℕ) (script : Option (List ℕ)) → CanBeDone words sectors image script
    → (words ≡ [] → P)
    → ((name : List ℕ) → IsLabelCommand words name → IsGood image → P)
    → ((blocks size : ℕ) (label : List ℕ) → IsMakeCommand words blocks size label → least blocks size ≤ blocks → HasSectors sectors (sectors_of blocks size) → P)
    → ((tree : Tree) → IsCheckCommand words → Recovers image tree → P)
    → ((tree : Tree) → IsShellCommand words → Recovers image tree → HasScript script → P)
    → ((seed count : ℕ) (tree : Tree) → IsSoakCommand words seed count → Recovers image tree → P)
    → P
can_elim words sectors image script (nothing none) a b c d e f = a none
can_elim words sectors image script (labels name is good) a b c d e f = b name is good
can_elim words sectors image script (makes blocks size label is enough fits) a b c d e f = c blocks size label is enough fits
can_elim words sectors image script (checks tree is recovers) a b c d e f = d tree is recovers
can_elim words sectors image script (runs tree is recovers valid) a b c d e f = e tree is recovers valid
can_elim words sectors image script (works seed count tree is recovers) a b c d e f = f seed count tree is recovers
