-- Which pages of a stream are marked.
use Rattle.std.specs.Prelude.{ℕ, ◌/◌, List, get_or, Bool, false, ◌&&◌, if◌then◌else◌}
use Rattle.bfs_pages.specs.Trees.{is_place}

-- so often the page that begins at this place is marked: once or never
unfoldable pub marked : ℕ → List Bool → ℕ → ℕ
marked size marks x = if is_place size x && get_or marks (x / 1024) false then 1 else 0
