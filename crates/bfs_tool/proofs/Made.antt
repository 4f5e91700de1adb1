-- A disk that is formatted.
use Rattle.std.proofs.Common.{◌≡◌, ◌<◌, ℕ, ℤ, pos, ◌*◌, ◌^◌, List, Option, subst, arith}
use Rattle.bfs_mkfs.specs.Format.{IsNew}
use Rattle.bfs_ports.specs.Ports.{StandsAt}
use Rattle.bfs_super.specs.declared.geometry.Geometry.{Geometry}
use Rattle.bfs_super.specs.Geometry.{IsPlan, log_length}
use Rattle.bfs_tool.specs.declared.make.Making.{Making}
use Rattle.bfs_tool.specs.declared.make.Making.TheVariants as makings
use Rattle.bfs_tool.specs.Make.{IsNewVolume, IsMade, making_status}

-- a new volume, with the stamp of the clock
pub new_volume : (blocks size : ℕ) (label : List ℕ) (stands : Option ℕ) (g : Geometry) (seconds : ℕ) (stamp : ℤ) (c : List ℕ)
    → IsPlan blocks size (log_length blocks) g → seconds < 2 ^ 40 → StandsAt stands seconds → stamp ≡ pos (seconds * 65536) → IsNew g label stamp c → IsNewVolume blocks size label stands c
new_volume blocks size label stands g seconds stamp c plan early told is new = record {
  layout = g;
  plan = plan;
  seconds = seconds;
  early = early;
  told = told;
  new = subst (λ z. IsNew g label z c) is new;
}

-- status 0 is for a volume that was made, and 6 is the status of no ending
pub made_of : (making : Making) → making_status making ≡ 0 → IsMade making
made_of (makings.Made made used) is = tt
made_of (makings.Small have need) is = absurd (omega arith)
made_of makings.DiskFailed is = absurd (omega arith)
made_of makings.NoMemory is = absurd (omega arith)

pub never_six : (making : Making) → making_status making ≡ 6 → ⊥
never_six (makings.Made made used) is = omega arith
never_six (makings.Small have need) is = omega arith
never_six makings.DiskFailed is = omega arith
never_six makings.NoMemory is = omega arith
