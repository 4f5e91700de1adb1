-- The statuses of runs, and the words that ask for none.
use Rattle.std.proofs.Common.{◌≡◌, ◌⊎◌, inl, inr, ◌∙◌, ℕ, List, Bool, true, false, cond, refl, ap, subst, arith}
use Rattle.std.specs.Prelude.{IfOk, Ok, Result}
use Rattle.std.specs.declared.alloc.AllocError.{AllocError}
use Rattle.std.specs.Prelude.{◌||◌}
use Rattle.std.specs.Prelude.{is_err}
use Rattle.bfs_replay.specs.declared.recovery.MountFault.{MountFault}
use Rattle.bfs_replay.specs.declared.recovery.MountFault.TheVariants as mounts
use Rattle.bfs_run.specs.Unmounted.TheVariants as mounting
use Rattle.bfs_run.specs.declared.run.Run.{Run}
use Rattle.bfs_run.specs.declared.run.Run.TheVariants as runs
use Rattle.bfs_words.specs.declared.command.Command.{Command}
use Rattle.bfs_words.specs.declared.command.Command.TheVariants as commands
use Rattle.bfs_words.specs.declared.command.Workload.{Workload}
use Rattle.bfs_words.specs.Words.{Asks, IsShellCommand, IsSoakCommand}
use Rattle.bfs_words.proofs.Callers.{no_shell_label, no_shell_make, no_shell_check, no_words_shell, no_soak_label, no_soak_make, no_soak_check, no_soak_shell, no_words_soak}
use Rattle.bfs_tool.specs.Shell.{run_status, fault_status, has_failed, has_damage}
use Rattle.bfs_tool.specs.Tool.{Runs}

-- a status that `sh` never ends with
abbrev IsOther : ℕ → Type 0
IsOther n = (n ≡ 2) ⊎ ((n ≡ 6) ⊎ ((n ≡ 8) ⊎ ((n ≡ 10) ⊎ (n ≡ 11))))

fault_other : (f : MountFault) → IsOther (fault_status f) → ⊥
fault_other (mounts.Short sectors needed) o = grind (arith, o)
fault_other (mounts.Super fault) o = grind (arith, o)
fault_other (mounts.Entry fault) o = grind (arith, o)
fault_other (mounts.Disk before now) o = grind (arith, o)
fault_other mounts.NoMemory o = grind (arith, o)

closed_other : (failed damaged : Bool) → IsOther (cond failed 4 (cond damaged 14 0)) → ⊥
closed_other true damaged o = grind (arith, o)
closed_other false true o = grind (arith, o)
closed_other false false o = grind (arith, o)

pub run_other : (run : Run) → IsOther (run_status run) → ⊥
run_other (runs.Unmounted (mounting.Unread fault)) o = fault_other fault o
run_other (runs.Unmounted (mounting.Wrong finding)) o = grind (arith, o)
run_other runs.Unread o = grind (arith, o)
run_other (runs.BadLine number) o = grind (arith, o)
run_other runs.NoMemory o = grind (arith, o)
run_other (runs.Closed closed) o = closed_other (is_err closed.ended || has_failed closed.history.items) (has_damage closed.history.items) o

-- the script couldn't be read only where the run says so
fault_unread : (f : MountFault) → fault_status f ≡ 5 → ⊥
fault_unread (mounts.Short sectors needed) o = grind (arith, o)
fault_unread (mounts.Super fault) o = grind (arith, o)
fault_unread (mounts.Entry fault) o = grind (arith, o)
fault_unread (mounts.Disk before now) o = grind (arith, o)
fault_unread mounts.NoMemory o = grind (arith, o)

abbrev IsFive : ℕ → Type 0
IsFive n = n ≡ 5

closed_unread : (failed damaged : Bool) → IsFive (cond failed 4 (cond damaged 14 0)) → ⊥
closed_unread true damaged o = grind (arith, o)
closed_unread false true o = grind (arith, o)
closed_unread false false o = grind (arith, o)

pub run_unread : (run : Run) → run_status run ≡ 5 → run ≡ runs.Unread
run_unread (runs.Unmounted (mounting.Unread fault)) o = absurd (fault_unread fault o)
run_unread (runs.Unmounted (mounting.Wrong finding)) o = absurd (let bad : 3 ≡ 5 = o in grind (arith, bad))
run_unread runs.Unread o = refl
run_unread (runs.BadLine number) o = absurd (let bad : 9 ≡ 5 = o in grind (arith, bad))
run_unread runs.NoMemory o = absurd (let bad : 7 ≡ 5 = o in grind (arith, bad))
run_unread (runs.Closed closed) o = absurd (closed_unread (is_err closed.ended || has_failed closed.history.items) (has_damage closed.history.items) o)

-- the status 9 tells of a wrong line
fault_good : (f : MountFault) → fault_status f ≡ 9 → ⊥
fault_good (mounts.Short sectors needed) o = grind (arith, o)
fault_good (mounts.Super fault) o = grind (arith, o)
fault_good (mounts.Entry fault) o = grind (arith, o)
fault_good (mounts.Disk before now) o = grind (arith, o)
fault_good mounts.NoMemory o = grind (arith, o)

abbrev IsNine : ℕ → Type 0
IsNine n = n ≡ 9

closed_good : (failed damaged : Bool) → IsNine (cond failed 4 (cond damaged 14 0)) → ⊥
closed_good true damaged o = grind (arith, o)
closed_good false true o = grind (arith, o)
closed_good false false o = grind (arith, o)

pub run_wrong : (run : Run) → ((number : ℕ) → run ≡ runs.BadLine number → ⊥) → run_status run ≡ 9 → ⊥
run_wrong (runs.Unmounted (mounting.Unread fault)) good o = fault_good fault o
run_wrong (runs.Unmounted (mounting.Wrong finding)) good o = let bad : 3 ≡ 9 = o in grind (arith, bad)
run_wrong runs.Unread good o = let bad : 5 ≡ 9 = o in grind (arith, bad)
run_wrong (runs.BadLine number) good o = good number refl
run_wrong runs.NoMemory good o = let bad : 7 ≡ 9 = o in grind (arith, bad)
run_wrong (runs.Closed closed) good o = closed_good (is_err closed.ended || has_failed closed.history.items) (has_damage closed.history.items) o

-- words that ask for another command don't ask for `sh`
not_shell : (words : List (List ℕ)) (command : Command) → Asks words command → (command ≡ commands.Shell → ⊥) → IsShellCommand words → ⊥
not_shell words commands.Usage asks other is = no_words_shell words asks is
not_shell words (commands.Label name) asks other is = no_shell_label words name.now is asks
not_shell words (commands.Make volume) asks other is = no_shell_make words volume.blocks volume.block_size volume.label.now is asks
not_shell words commands.Check asks other is = no_shell_check words is asks
not_shell words commands.Shell asks other is = other refl
not_shell words (commands.Soak workload) asks other is = no_soak_shell words workload.seed workload.count asks is
not_shell words (commands.Faulty complaint) asks other is = asks.no_shell is

-- and none for `soak`
not_soak : (words : List (List ℕ)) (command : Command) → Asks words command → ((w : Workload) → command ≡ commands.Soak w → ⊥) → (seed count : ℕ) → IsSoakCommand words seed count → ⊥
not_soak words commands.Usage asks other seed count is = no_words_soak words seed count asks is
not_soak words (commands.Label name) asks other seed count is = no_soak_label words seed count name.now is asks
not_soak words (commands.Make volume) asks other seed count is = no_soak_make words seed count volume.blocks volume.block_size volume.label.now is asks
not_soak words commands.Check asks other seed count is = no_soak_check words seed count is asks
not_soak words commands.Shell asks other seed count is = no_soak_shell words seed count is asks
not_soak words (commands.Soak workload) asks other seed count is = other workload refl
not_soak words (commands.Faulty complaint) asks other seed count is = asks.no_soak seed count is

-- and where the words were read, and asked for no `sh` and no `soak`, they ask for no run
pub read_otherwise : (words : List (List ℕ)) (read : Result Command AllocError) (command : Command) → read ≡ Ok command → IfOk read (Asks words) → (read ≡ Ok commands.Shell → ⊥) → ((w : Workload) → read ≡ Ok (commands.Soak w) → ⊥) → Runs words → ⊥
read_otherwise words read command is asks no_shell no_soak (inl shell) = not_shell words command (subst (λ r. IfOk r (Asks words)) is asks) (λ same. no_shell (is ∙ ap Ok same)) shell
read_otherwise words read command is asks no_shell no_soak (inr soak) = not_soak words command (subst (λ r. IfOk r (Asks words)) is asks) (λ w same. no_soak w (is ∙ ap Ok same)) soak.0 soak.1 soak.2

-- words that were read as `sh` ask for it
pub shell_asked : (words : List (List ℕ)) (read : Result Command AllocError) → read ≡ Ok commands.Shell → IfOk read (Asks words) → IsShellCommand words
shell_asked words read is asks = subst (λ r. IfOk r (Asks words)) is asks
