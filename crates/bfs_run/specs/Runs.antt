-- How a run of the shell ends, and what it leaves on the disk.
use Rattle.std.specs.Prelude.{◌≡◌, ◌⊎◌, ℕ, pos, List, [], length, Option, Some, None, Ok}
use Rattle.std.specs.List.{All}
use Rattle.bfs_disk.specs.State.{State, Tells, ReadsAs}
use Rattle.bfs_disk.specs.Disk.{MayLeave}
use Rattle.bfs_tree.specs.declared.reply.Entry.{Entry}
use Rattle.bfs_tree.specs.Histories.{Mounted, Legal, after}
use Rattle.bfs_tree.specs.Trees.{Tree}
use Rattle.bfs_count.specs.Counts.{nodes_of}
use Rattle.bfs_command.specs.declared.line.Line.{Line}
use Rattle.bfs_command.specs.Spelled.{Spelled, SpelledSoFar}
use Rattle.bfs_script.specs.Scripts.{script_of, bad_line}
use Rattle.bfs_sound.specs.Whole.{Recovers}
use Rattle.bfs_core.specs.Chains.{Image}
use Rattle.bfs_core.specs.Settled.{KeepsKnown}
use Rattle.bfs_core.specs.Cores.{IsAcknowledged, RecoversFrom}
use Rattle.bfs_volume.specs.Stamps.{AreDrawn}
use Rattle.bfs_volume.specs.Closing.{IsChained, IsLeft}
use Rattle.bfs_volume.specs.Failing.{HasFailures}
use Rattle.bfs_device.specs.declared.journal.Stop.{Stop}
use Rattle.bfs_base.specs.Counts.{Rose}
use Rattle.bfs_run.specs.Sources.{IsReadOf}
use Rattle.bfs_run.specs.Complete.{AreAnswered}
use Rattle.bfs_run.specs.declared.run.Run.{Run}
use Rattle.bfs_run.specs.declared.run.Run.TheVariants as runs

-- the entries that a run has made, as far as it tells them
abbrev pub HasHistory : Run → List Entry → Type 0
HasHistory (runs.Unmounted why) history = history ≡ []
HasHistory runs.Unread history = history ≡ []
HasHistory (runs.BadLine number) history = history ≡ []
HasHistory runs.NoMemory history = Unit {0}
HasHistory (runs.Closed closed) history = closed.history.items ≡ history

-- The entries are those of the lines, each session's in their order; where memory was wanting the first of them, or none; and none where no line was
-- run.
abbrev pub IsSpelledBy : Run → ℕ → List Entry → List Line → Type 0
IsSpelledBy (runs.Closed closed) root history lines = Spelled root history lines
IsSpelledBy runs.NoMemory root history lines = (history ≡ []) ⊎ SpelledSoFar root history lines
IsSpelledBy _ root history lines = history ≡ []

-- what a run says of a script: this line is bad, the first such; or none is
abbrev pub IsScriptOf : Run → List ℕ → Type 0
IsScriptOf (runs.BadLine number) bytes = bad_line bytes ≡ Some number
IsScriptOf (runs.Closed closed) bytes = bad_line bytes ≡ None
IsScriptOf _ bytes = Unit {0}

-- the volume was closed, and all of it has reached its place
abbrev pub IsClosedWell : Run → Type 0
IsClosedWell (runs.Closed closed) = closed.ended ≡ Ok tt
IsClosedWell _ = ⊥

-- the number of nodes that a closed volume tells is that of the tree
abbrev pub IsCounted : Run → Tree → Type 0
IsCounted (runs.Closed closed) tree = closed.nodes ≡ nodes_of tree
IsCounted _ tree = Unit {0}

-- the volume was not mounted
abbrev pub IsUnmountedRun : Run → Type 0
IsUnmountedRun (runs.Unmounted why) = Unit {0}
IsUnmountedRun _ = ⊥

-- the volume was mounted, and no line was run
abbrev pub IsEarly : Run → Type 0
IsEarly (runs.Unmounted why) = ⊥
IsEarly (runs.Closed closed) = ⊥
IsEarly _ = Unit {0}

-- perhaps no script was read
abbrev pub HasNoScript : Run → Type 0
HasNoScript (runs.BadLine number) = ⊥
HasNoScript (runs.Closed closed) = ⊥
HasNoScript _ = Unit {0}

-- The entries of a run on a volume that was mounted have their failures one behind the other between the disk's counts before and after the run; the device
-- hadn't stopped at first, and has in the end or hasn't.
pub record HasRunFailures (run : Run) (faults faults' stops stops' : ℕ) : Type 0 where
  pub history : List Entry
  pub is : HasHistory run history
  pub stop : Option Stop
  pub failures : HasFailures [] history None stop faults faults' stops stops'

-- A run on a volume with this tree and these bytes at mounting: its entries form one history, which is the plain tree's, and they are those of the
-- lines. What a crash may leave then recovers to the tree after so many of them at least, which are all that a sync has acknowledged; and where the
-- volume was closed well, after all of them; the disk as it reads is whole with that tree then, and its files have the bytes that are known. And what a
-- crash might have left at any moment since the run began recovers to the tree after a prefix of them. There is one image behind each of them, from the one that
-- was mounted on: each is whole with its tree, and each entry is caused between the image before it and the one behind it; where the volume was closed
-- well, the last is what the disk reads, but for block 0 and the log. Where the clock tells at which second it stands, each of them has its stamp of that
-- second. Of files, what a crash leaves keeps each byte that was known since the durable entries, and where the volume was closed well each that is
-- known. The number of nodes is that of the tree after all of them. Their failures lie one behind the other between the disk's counts before and after the
-- run; and where the count of faults didn't rise, each of them is answered by the plain tree, or for want of room.
pub record HasRun (t0 : Mounted) (first : Image) (run : Run) (lines : List Line) (told : Option State) (begun : ℕ) (since : ℕ → List ℕ → Type 0) (stands : Option ℕ) (faults faults' stops stops' : ℕ) : Type 0 where
  pub history : List Entry
  pub is : HasHistory run history
  pub legal : Legal t0 history
  pub spelled : IsSpelledBy run t0.tree.root history lines
  pub durable : ℕ
  pub acknowledged : All (IsAcknowledged durable) history
  pub leaves : (image : List ℕ) → MayLeave told image → RecoversFrom t0 history durable image
  pub all : IsClosedWell run → (image : List ℕ) → MayLeave told image → Recovers image (after t0 history)
  pub left : IsClosedWell run → (image : List ℕ) → Tells told (λ st. ReadsAs st image) → IsLeft t0 history image
  pub keeps : (image : List ℕ) → MayLeave told image → KeepsKnown t0 history durable image
  pub keeps_all : IsClosedWell run → (image : List ℕ) → MayLeave told image → KeepsKnown t0 history (length history) image
  pub chained : IsChained t0 first history told (IsClosedWell run)
  pub moments : (c : List ℕ) → since begun c → ∥ RecoversFrom t0 history 0 c ∥₁
  pub counted : IsCounted run (after t0 history)
  pub stamps : (s : ℕ) → stands ≡ Some s → AreDrawn (pos 0) s history
  pub stop : Option Stop
  pub failures : HasFailures [] history None stop faults faults' stops stops'
  pub answered : (Rose faults faults' → ⊥) → AreAnswered t0 history

-- the script that was read of a source, where that tells, is one of which the run says what is true; or none was read
abbrev pub SaysScript : Option (List ℕ) → Run → Type 0
SaysScript told run = (left : List ℕ) → told ≡ Some left → HasNoScript run ⊎ ((read : List ℕ) × IsReadOf left read × IsScriptOf run read)

-- and these are its lines, or no line where none was read
abbrev pub AreLinesOf : Option (List ℕ) → Run → List Line → Type 0
AreLinesOf told run lines = (left : List ℕ) → told ≡ Some left → (HasNoScript run × (lines ≡ [])) ⊎ ((read : List ℕ) × IsReadOf left read × (lines ≡ script_of read) × IsScriptOf run read)
