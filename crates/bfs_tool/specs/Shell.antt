-- How `sh` and `soak` end, and what they print.
use Rattle.std.specs.Prelude.{◌≡◌, ◌⊎◌, ◌++◌, ◌||◌, ℕ, List, [], Bool, true, false, not, codes, is_err, if◌then◌else◌}
use Rattle.std.specs.Fmt.{decimal}
use Rattle.std.specs.List.{list_any}
use Rattle.bfs_tree.specs.declared.call.Call.{Call}
use Rattle.bfs_tree.specs.declared.call.Call.TheVariants as calls
use Rattle.bfs_tree.specs.declared.reply.Reply.{Reply}
use Rattle.bfs_tree.specs.declared.reply.Reply.TheVariants as replies
use Rattle.bfs_tree.specs.declared.reply.Entry.{Entry}
use Rattle.bfs_tree.specs.Steps.{is_by_disk}
use Rattle.bfs_script.specs.Texts.{text_of}
use Rattle.bfs_soak.specs.Summary.{summary_of}
use Rattle.bfs_finding.specs.declared.finding.Finding.TheVariants as finds
use Rattle.bfs_finding_text.specs.Texts.{words_of, short_words, entry_words, line_of}
use Rattle.bfs_replay.specs.Recover.{GoesOn}
use Rattle.bfs_replay.specs.declared.recovery.MountFault.{MountFault}
use Rattle.bfs_replay.specs.declared.recovery.MountFault.TheVariants as mounts
use Rattle.bfs_run.specs.Unmounted.{Unmounted}
use Rattle.bfs_run.specs.Unmounted.TheVariants.{Unread, Wrong}
use Rattle.bfs_run.specs.Mounts.{IsUnmounted}
use Rattle.bfs_run.specs.Runs.{IsUnmountedRun}
use Rattle.bfs_run.specs.declared.run.Closed.{Closed}
use Rattle.bfs_run.specs.declared.run.Run.{Run}
use Rattle.bfs_run.specs.declared.run.Run.TheVariants as runs

-- a piece that was let go, but not whole
abbrev pub is_broken : Call → Bool
is_broken (calls.Release id bytes whole before now) = not whole
is_broken _ = false

abbrev pub is_damage : Reply → Bool
is_damage (replies.Damaged block) = true
is_damage _ = false

-- an entry that a failed disk has answered, or that lets a piece go which it has spoiled; and one that tells of damage
abbrev pub has_failed : List Entry → Bool
has_failed history = list_any (λ e. is_by_disk e.reply || is_broken e.call) history

abbrev pub has_damage : List Entry → Bool
has_damage history = list_any (λ e. is_damage e.reply) history

-- the status of a volume that was closed behind the run
abbrev pub closed_status : Closed → ℕ
closed_status closed = if is_err closed.ended || has_failed closed.history.items then 4 else (if has_damage closed.history.items then 14 else 0)

-- the status of a volume that isn't mounted, and what is printed of it
abbrev pub fault_status : MountFault → ℕ
fault_status (mounts.Short sectors needed) = 3
fault_status (mounts.Super fault) = 3
fault_status (mounts.Entry fault) = 3
fault_status (mounts.Disk before after) = 4
fault_status mounts.NoMemory = 7

abbrev pub fault_text : MountFault → List ℕ
fault_text (mounts.Short sectors needed) = line_of (short_words sectors needed)
fault_text (mounts.Super fault) = line_of (words_of (finds.Super fault))
fault_text (mounts.Entry fault) = line_of (entry_words fault)
fault_text (mounts.Disk before after) = []
fault_text mounts.NoMemory = []

abbrev pub unmounted_status : Unmounted → ℕ
unmounted_status (Unread fault) = fault_status fault
unmounted_status (Wrong finding) = 3

abbrev pub unmounted_text : Unmounted → List ℕ
unmounted_text (Unread fault) = fault_text fault
unmounted_text (Wrong finding) = line_of (words_of finding)

-- the status in which `sh` ends, and `soak`
abbrev pub run_status : Run → ℕ
run_status (runs.Unmounted why) = unmounted_status why
run_status runs.Unread = 5
run_status (runs.BadLine number) = 9
run_status runs.NoMemory = 7
run_status (runs.Closed closed) = closed_status closed

-- what `sh` prints: the text of the history, where the lines were run
abbrev pub run_text : Run → List ℕ
run_text (runs.Unmounted why) = unmounted_text why
run_text runs.Unread = []
run_text (runs.BadLine number) = codes "line " ++ decimal number ++ codes "\n"
run_text runs.NoMemory = []
run_text (runs.Closed closed) = text_of closed.history.items

-- what `soak` prints: the summary of so many lines, where they were run
abbrev pub soak_text : ℕ → Run → List ℕ
soak_text lines (runs.Unmounted why) = unmounted_text why
soak_text lines (runs.Closed closed) = summary_of lines closed.history.items closed.nodes
soak_text lines _ = []

-- it ends so, or for want of memory, or where all was well, by the output
abbrev pub EndsAs : Run → ℕ → Type 0
EndsAs run status = (status ≡ 7) ⊎ ((status ≡ run_status run) ⊎ ((run_status run ≡ 0) × (status ≡ 6)))

-- where the volume isn't mounted, what a crash at any moment since then left is the image, or is replayed to the same
abbrev pub LeavesUnmounted : List ℕ → Run → ℕ → (ℕ → List ℕ → Type 0) → Type 0
LeavesUnmounted image run begun since = IsUnmountedRun run → (c : List ℕ) → since begun c → ∥ GoesOn image c ∥₁

-- why a volume isn't mounted is true of the image
abbrev pub RunsBy : List ℕ → Run → Type 0
RunsBy image run = (why : Unmounted) → run ≡ runs.Unmounted why → IsUnmounted image why
