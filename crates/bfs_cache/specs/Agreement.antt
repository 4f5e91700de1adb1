-- What is kept of a disk's blocks agrees with the disk. A block has r sectors.
use Rattle.std.specs.Prelude.{◌≡◌, ◌≤◌, ℕ, ◌+◌, ◌*◌, ◌/◌, List, length, Option, None, IfSome}
use Rattle.std.specs.Option.{option_map}
use Rattle.bfs_disk.specs.State.{State, settled}
use Rattle.bfs_disk.specs.Blocks.{AreRead}
use Rattle.bfs_disk.specs.Disk.{HalfWritten, told_written}
use Rattle.bfs_cache.specs.Kept.{kept_of}

-- what is kept of this block has a block's length, and is what the disk reads there, where it tells
abbrev pub AgreesAt : Option State → ℕ → List (ℕ × List ℕ) → ℕ → Type 0
AgreesAt told r kept block = IfSome (kept_of kept block) (λ bytes. (length bytes ≡ 512 * r) × AreRead told r block bytes)

-- so is what is kept of each block
abbrev pub Agrees : Option State → ℕ → List (ℕ × List ℕ) → Type 0
Agrees told r kept = (block : ℕ) → AgreesAt told r kept block

-- these bytes, from a sector on, lie inside of one block
abbrev pub IsInside : ℕ → ℕ → ℕ → List ℕ → Type 0
IsInside r block at bytes = (r * block ≤ at) × (at + length bytes / 512 ≤ r * block + r)

-- a write inside of a block that isn't kept
abbrev pub WriteKeeps : Type 0
WriteKeeps = (told : Option State) (r block at : ℕ) (bytes : List ℕ) (kept : List (ℕ × List ℕ)) → kept_of kept block ≡ None → IsInside r block at bytes
    → Agrees told r kept → Agrees (told_written told at bytes) r kept

-- one that failed
abbrev pub FailedWriteKeeps : Type 0
FailedWriteKeeps = (told new : Option State) (r block at : ℕ) (bytes : List ℕ) (kept : List (ℕ × List ℕ)) → kept_of kept block ≡ None → IsInside r block at bytes
    → HalfWritten told at bytes new → Agrees told r kept → Agrees new r kept

-- a barrier
abbrev pub BarrierKeeps : Type 0
BarrierKeeps = (told : Option State) (r : ℕ) (kept : List (ℕ × List ℕ)) → Agrees told r kept → Agrees (option_map settled told) r kept
