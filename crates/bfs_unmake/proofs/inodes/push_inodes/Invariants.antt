use Rattle.std.proofs.Common.{◌≡◌, ◌++◌, drop, map}
use Rattle.bfs_unmake.proofs.inodes.push_inodes.Given as goal

abbrev pub invariant-loop-row : goal.invariant-loop-row
invariant-loop-row l = l.ids.items ++ map (λ row. row.id) (drop l.row-index l.rows) ≡ l.fn.ids.items ++ map (λ row. row.id) l.rows
