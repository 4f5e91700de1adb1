-- The names that a listing answers.
use Rattle.std.specs.Prelude.{ℕ, List, [], ◌∷◌, if◌then◌else◌}
use Rattle.bfs_dir.specs.declared.rows.DirRow.{DirRow}
use Rattle.bfs_sound.specs.Inodes.{is_proper}

-- the name of a row, and nothing for `.` and `..`
abbrev pub proper_name : DirRow → List (List ℕ)
proper_name row = if is_proper row.name then row.name ∷ [] else []
