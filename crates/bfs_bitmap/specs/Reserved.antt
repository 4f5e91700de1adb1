-- The bits that are kept for blocks which are reserved.
use Rattle.std.specs.Prelude.{◌≡◌, ◌≤◌, ◌<◌, ℕ, ◌*◌, List, length, not}
use Rattle.bfs_bitmap.specs.declared.given.Given.{Given}
use Rattle.bfs_bitmap.specs.Bits.{is_clear}
use Rattle.bfs_bitmap.specs.Runs.{is_reserved}

-- The bits of the reserved blocks are set, and no others; where there are bytes at all, each block of the volume has a bit.
pub record HasReserved (blocks : ℕ) (given : List Given) (bytes : List ℕ) : Type 0 where
  pub few : length bytes ≤ 524289
  pub long : 0 < length bytes → blocks ≤ 8 * length bytes
  pub is : (k : ℕ) → is_clear bytes k ≡ not (is_reserved given k)
