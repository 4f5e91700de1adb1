-- What is kept of a disk that is only read: windows of 64 sectors, each in one of 32 slots.
use Rattle.std.specs.Prelude.{◌≡◌, ◌<◌, ℕ, ◌+◌, ◌*◌, List, get_or, Option, Some}
use Rattle.bfs_base.specs.Images.{sector}
use Rattle.bfs_disk.specs.State.{State, newest}

-- A slot's tag is the number of its window and one, or zero where it has none. The 64 sectors of a slot that has a window are
-- those that the disk reads there, where it tells.
abbrev pub AreKept : Option State → List ℕ → List ℕ → Type 0
AreKept told tags bytes = (s : State) → told ≡ Some s → (i j w : ℕ) → i < 32 → j < 64 → get_or tags i 0 ≡ w + 1 → sector (64 * i + j) bytes ≡ newest s (64 * w + j)
