use Rattle.std.proofs.Common.{take}
use Rattle.bfs_value_walk.specs.Plain.{ArePlain}
use Rattle.bfs_names_walk.specs.Rows.{as_rows}
use Rattle.bfs_names_walk.proofs.plain.are_plain.Given as goal

abbrev pub invariant-loop-i : goal.invariant-loop-i
invariant-loop-i l = ArePlain (as_rows (take l.i l.rows))
