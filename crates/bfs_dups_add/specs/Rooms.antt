-- Where a chain has room for a number.
use Rattle.std.specs.Prelude.{◌≡◌, ◌⊎◌, ◌≤◌, ◌<◌, ℕ, List}
use Rattle.bfs_base.specs.Lists.{times}
use Rattle.bfs_pages.specs.Trees.{page_in}
use Rattle.bfs_values.specs.Values.{page_count, next_of}
use Rattle.bfs_dups_add.specs.declared.scan.Room.{Room}

-- a page of these has room for a number, or none is told; and the last one is told
pub record IsRoom (bytes xs : List ℕ) (room : Room) : Type 0 where
  pub at : (room.at ≡ 0) ⊎ ((1 ≤ times room.at xs) × (page_count (page_in bytes room.at) < 125))
  pub last : 1 ≤ times room.last xs
  pub ends : next_of bytes room.last ≡ 0
