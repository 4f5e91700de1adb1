use Rattle.std.proofs.Common.{◌≡◌, ◌++◌, drop, map}
use Rattle.bfs_dir.specs.Directories.{dir_rows}
use Rattle.bfs_dir.proofs.rows.add_row.Given as goal

abbrev pub invariant-loop-id : goal.invariant-loop-id
invariant-loop-id l = l.rows.items ++ map (λ n. record { name = l.row.key; id = n }) (drop l.id-index l.row.numbers) ≡ l.fn.rows.items ++ dir_rows l.row
