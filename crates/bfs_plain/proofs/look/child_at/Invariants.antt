use Rattle.std.proofs.Common.{◌≡◌, map as each}
use Rattle.bfs_tree.specs.Trees.{child_in}
use Rattle.bfs_plain.specs.Plain.{node_entry}
use Rattle.bfs_plain.proofs.look.child_at.Given as goal

abbrev pub invariant-loop-id : goal.invariant-loop-id
invariant-loop-id l = child_in l.root l.dir l.name (each node_entry l.nodes.entries) ≡ child_in l.root l.dir l.name (each node_entry l.id-iterator)
