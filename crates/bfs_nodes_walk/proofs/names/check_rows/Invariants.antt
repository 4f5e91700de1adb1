use Rattle.std.proofs.Common.{◌≡◌, List, take, Some}
use Rattle.bfs_smalldata.specs.Items.{Item, items_of}
use Rattle.bfs_nodes_walk.specs.Attributes.{AreOthers}
use Rattle.bfs_nodes_walk.proofs.names.check_rows.Given as goal

abbrev pub invariant-loop-i : goal.invariant-loop-i
invariant-loop-i l = (items : List Item) → items_of l.area ≡ Some items → AreOthers items (take l.i l.rows)
