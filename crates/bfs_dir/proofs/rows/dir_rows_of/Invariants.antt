use Rattle.std.proofs.Common.{◌≡◌, ◌++◌, drop}
use Rattle.std.specs.List.{flat_map}
use Rattle.bfs_dir.specs.Directories.{dir_rows}
use Rattle.bfs_dir.proofs.rows.dir_rows_of.Given as goal

abbrev pub invariant-loop-row : goal.invariant-loop-row
invariant-loop-row l = l.rows.items ++ flat_map dir_rows (drop l.row-index l.ranged) ≡ flat_map dir_rows l.ranged
