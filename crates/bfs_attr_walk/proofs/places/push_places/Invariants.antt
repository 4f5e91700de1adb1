use Rattle.std.proofs.Common.{◌≡◌, ◌++◌, take}
use Rattle.bfs_attr_walk.specs.Attributed.{places_of_rows}
use Rattle.bfs_attr_walk.proofs.places.push_places.Given as goal

abbrev pub invariant-loop-i : goal.invariant-loop-i
invariant-loop-i l = l.places.items ≡ l.fn.places.items ++ places_of_rows l.role (take l.i l.rows)
