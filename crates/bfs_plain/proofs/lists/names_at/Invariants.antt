use Rattle.std.proofs.Common.{◌≡◌, ◌++◌, map as each}
use Rattle.bfs_tree.specs.Trees.{children_in}
use Rattle.bfs_plain.specs.Plain.{node_entry}
use Rattle.bfs_plain.proofs.lists.names_at.Given as goal

abbrev pub invariant-loop-id : goal.invariant-loop-id
invariant-loop-id l =
    l.names.items ++ each (λ e. e.1.name) (children_in l.root l.dir (each node_entry l.id-iterator)) ≡ each (λ e. e.1.name) (children_in l.root l.dir (each node_entry l.nodes.entries))
