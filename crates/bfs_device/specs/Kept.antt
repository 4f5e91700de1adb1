-- The cache of a device, and which block each disk call writes.
use Rattle.std.specs.Prelude.{◌≡◌, ℕ, List, [], ◌∷◌, Option, Some, None, IfSome}
use Rattle.bfs_disk.specs.State.{State}
use Rattle.bfs_cache.specs.Kept.{kept_of}
use Rattle.bfs_cache.specs.Agreement.{Agrees}
use Rattle.bfs_super.specs.declared.sup.Super.{Super}
use Rattle.bfs_log.specs.Replay.{log_from}
use Rattle.bfs_txn.specs.Changed.{number_at}
use Rattle.bfs_txn.specs.declared.group.Group.{Group}
use Rattle.bfs_device.specs.declared.journal.Phase.{Phase}
use Rattle.bfs_device.specs.declared.journal.Phase.TheVariants.{Log, LogSafe, Open, OpenSafe, Home as GoHome, HomeSafe, Tail, TailSafe, Pass}
use Rattle.bfs_device.specs.Layouts.{layout_of, slot}

-- the block that the call of a phase writes
abbrev pub written_in : Super → Group → Phase → Option ℕ
written_in s g (Log at) = Some (slot (layout_of s) (log_from s) at)
written_in s g LogSafe = None
written_in s g Open = Some 0
written_in s g OpenSafe = None
written_in s g (GoHome at) = Some (number_at g.blocks at)
written_in s g HomeSafe = None
written_in s g Tail = Some 0
written_in s g TailSafe = None
written_in s g Pass = None

-- that of the first group's phase
abbrev pub written_front : Super → List Group → Phase → Option ℕ
written_front s [] phase = None
written_front s (g ∷ gs) phase = written_in s g phase

-- the block, where there is one, isn't kept
abbrev pub IsOut : Option ℕ → List (ℕ × List ℕ) → Type 0
IsOut block kept = IfSome block (λ k. kept_of kept k ≡ None)

-- what is kept agrees with the disk after a call, as it did before, where this block isn't kept
abbrev pub KeepsAgreed : Option ℕ → ℕ → Option State → Option State → Type 0
KeepsAgreed block r old new = (kept : List (ℕ × List ℕ)) → IsOut block kept → Agrees old r kept → Agrees new r kept
