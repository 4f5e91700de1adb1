-- A directory: names and ids, in a tree of names that stands in the stream of an inode.
use Rattle.std.specs.Prelude.{ℕ, List, Option, map}
use Rattle.bfs_base.specs.declared.kind.KeyKind.TheVariants.{Text}
use Rattle.bfs_bitmap.specs.Runs.{Room}
use Rattle.bfs_node.specs.Page.{Row}
use Rattle.bfs_stream.specs.Sizes.{Origin}
use Rattle.bfs_super.specs.Conditions.{natural}
use Rattle.bfs_range.specs.declared.ranged.RangedRow.{RangedRow}
use Rattle.bfs_maps.specs.Mapped.{IsMap, rows_of}
use Rattle.bfs_dir.specs.declared.rows.DirRow.{DirRow}

-- the stream of the inode is held, and is a whole tree of names, each with an id
abbrev pub IsDirectory : Origin → Room → (ℕ → Option (List ℕ)) → Type 0
IsDirectory o v m = IsMap Text o v m

-- the rows of a directory, by name: `.` and `..` are among them
abbrev pub names_of : Origin → (ℕ → Option (List ℕ)) → List Row
names_of o m = rows_of Text o m

-- a name with its id, as a directory is listed
abbrev pub dir_row : Row → DirRow
dir_row r = record { name = r.0; id = natural r.1 }

abbrev pub listed : List Row → List DirRow
listed rows = map dir_row rows

-- a key with each of its numbers, as names with ids
abbrev pub dir_rows : RangedRow → List DirRow
dir_rows r = map (λ n. record { name = r.key; id = n }) r.numbers
