-- What a window shows.
use Rattle.std.specs.Prelude.{ℕ, List, Option, IfSome}
use Rattle.bfs_bitmap.specs.Runs.{Room, Shows}
use Rattle.bfs_bitmap.specs.declared.window.Window.{Window}

-- a window shows the block that it says it does
abbrev pub IsShown : Room → (ℕ → Option (List ℕ)) → Window → Type 0
IsShown v m w = IfSome w.shown (λ j. Shows v m j w.bytes.items)
