use Rattle.std.proofs.Common.{◌≡◌, map as each}
use Rattle.bfs_tree.specs.Refusals.{has_children}
use Rattle.bfs_plain.specs.Plain.{node_entry}
use Rattle.bfs_plain.proofs.nodes.has_children.Given as goal

abbrev pub invariant-loop-id : goal.invariant-loop-id
invariant-loop-id l = has_children l.root l.dir (each node_entry l.nodes.entries) ≡ has_children l.root l.dir (each node_entry l.id-iterator)
