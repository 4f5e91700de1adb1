use Rattle.std.proofs.Common.{◌≡◌, ◌++◌, map, take}
use Rattle.bfs_nodes_walk.specs.Leads.{place_of}
use Rattle.bfs_nodes_walk.proofs.places.push_nodes.Given as goal

abbrev pub invariant-loop-i : goal.invariant-loop-i
invariant-loop-i l = l.places.items ≡ l.fn.places.items ++ map place_of (take l.i l.leads)
