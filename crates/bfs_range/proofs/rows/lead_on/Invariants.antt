use Rattle.bfs_node.specs.Page.{rows_of}
use Rattle.bfs_range.specs.Meant.{AreNamed}
use Rattle.bfs_range.proofs.rows.lead_on.Given as goal

abbrev pub invariant-loop-at : goal.invariant-loop-at
invariant-loop-at l = AreNamed l.size (rows_of l.page) l.fn.places.0 l.at
