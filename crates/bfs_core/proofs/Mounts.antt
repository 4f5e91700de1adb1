-- Core of a device that has adopted a disk, with what a crash might have left since what led there began.
use Rattle.std.proofs.Common.{◌≡◌, ◌≤◌, ℕ, List, [], Bool, Option, Some, IfSome, arith}
use Rattle.std.proofs.lemmas.List.Elements.{All-nil}
use Rattle.bfs_disk.specs.State.{State, Tells, Holds, Filled}
use Rattle.bfs_log.specs.Replay.{super_of, Replayed}
use Rattle.bfs_tree.specs.Histories.{Mounted}
use Rattle.bfs_sound.specs.Whole.{Recovers}
use Rattle.bfs_device.specs.declared.journal.Mark.{Mark}
use Rattle.bfs_device.specs.Phases.{none}
use Rattle.bfs_device.specs.Books.{IsOnDisk}
use Rattle.bfs_device.specs.Seals.{adopted}
use Rattle.bfs_device.proofs.Stepping.{on_state, filled_state}
use Rattle.bfs_core.specs.Spaces.{opened}
use Rattle.bfs_core.specs.Chains.{Image}
use Rattle.bfs_core.specs.Cores.{Core}
use Rattle.bfs_core.specs.Moments.{Adoption, IsCore, IsKept, Kept, KeptSince, adopted_from}
use Rattle.bfs_core.proofs.Openings.{core_mounted}

-- Core, on what is held
pub mount_core : (t0 : Mounted) (image result : List ℕ) (told : Option State) (size : Option ℕ) → Recovers image t0.tree → Replayed image result → Tells told (Holds result)
    → IfSome told Filled → IfSome told (λ x. size ≡ Some x.size) → IsOnDisk size (super_of result) → Tells told (λ st. (t : ℕ → Bool) × Core t0 (opened (super_of result)) (adopted (super_of result)) t st)
mount_core t0 image result told size recovers replayed holds filled sized on =
    let here : IsOnDisk (Some holds.0.size) (super_of result) = on_state (super_of result) size told holds.0 sized on holds.1 in
    (holds.0, holds.1, (none, core_mounted t0 image result holds.0 recovers replayed holds.2 (filled_state told holds.0 filled holds.1) here))

-- and what a crash might have left
pub mount_kept : (t0 : Mounted) (first : Option Image) (begun clock : ℕ) (since : ℕ → List ℕ → Type 0) → begun ≤ clock → KeptSince t0 [] clock since begun 0 → (let at_it : Adoption = adopted_from begun clock first in Kept t0 [] at_it [] 0 0 clock since)
mount_kept t0 first begun clock since early kept =
    let at_it : Adoption = adopted_from begun clock first in
    record {
      slow = λ few. omega arith;
      early = early;
      low = omega arith;
      first = kept;
      marked = All-nil (IsKept t0 [] at_it clock since);
      reached = All-nil (λ (m : Mark). m.number ≤ 0);
    }

pub mount_event : (t0 : Mounted) (first : Option Image) (image result : List ℕ) (told : Option State) (size : Option ℕ) (begun clock : ℕ) (since : ℕ → List ℕ → Type 0) → begun ≤ clock → KeptSince t0 [] clock since begun 0 → Recovers image t0.tree → Replayed image result → Tells told (Holds result)
    → IfSome told Filled → IfSome told (λ x. size ≡ Some x.size) → IsOnDisk size (super_of result)
    → IsCore t0 (adopted_from begun clock first) (opened (super_of result)) (adopted (super_of result)) told clock since
mount_event t0 first image result told size begun clock since early kept recovers replayed holds filled sized on = (mount_core t0 image result told size recovers replayed holds filled sized on, mount_kept t0 first begun clock since early kept)
