-- What a call of a device leaves of the contents of files' sectors.
use Rattle.std.specs.Prelude.{◌≡◌, ◌≤◌, ◌<◌, ◌+◌, ◌*◌, ℕ, List, take, None}
use Rattle.bfs_disk.specs.State.{State, IsOneOf}
use Rattle.bfs_device.specs.Layouts.{IsData, layout_of}
use Rattle.bfs_device.specs.Books.{Books, durable_of}
use Rattle.bfs_device.specs.Data.{newest_in}

-- A sector of a block of data that no waiting group has gets no content that it hadn't; and where more entries are durable since, it has the newest
-- one alone.
pub record KeepsContents (b new : Books) (st next : State) : Type 0 where
  pub low : durable_of b ≤ durable_of new
  pub fewer : (k j : ℕ) → IsData (layout_of b.sup) k → newest_in b.groups k ≡ None → j < (layout_of b.sup).sectors
      → (c : List ℕ) → IsOneOf (next.contents ((layout_of b.sup).sectors * k + j)) c → IsOneOf (st.contents ((layout_of b.sup).sectors * k + j)) c
  pub newest : durable_of b < durable_of new → (k j : ℕ) → IsData (layout_of b.sup) k → newest_in b.groups k ≡ None → j < (layout_of b.sup).sectors
      → next.contents ((layout_of b.sup).sectors * k + j) ≡ take 1 (st.contents ((layout_of b.sup).sectors * k + j))
