use Rattle.std.proofs.Common.{◌≡◌, ◌++◌, map as each}
use Rattle.bfs_tree.specs.Listings.{pairs_in}
use Rattle.bfs_plain.specs.Plain.{node_entry, pair_of}
use Rattle.bfs_plain.proofs.finds.pairs_at.Given as goal

abbrev pub invariant-loop-id : goal.invariant-loop-id
invariant-loop-id l =
    each pair_of l.pairs.items ++ pairs_in l.root l.index l.kind (each node_entry l.id-iterator) ≡ pairs_in l.root l.index l.kind (each node_entry l.nodes.entries)
