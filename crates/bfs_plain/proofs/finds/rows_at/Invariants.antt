use Rattle.std.proofs.Common.{◌≡◌, ◌++◌, drop, map as each}
use Rattle.std.specs.List.{filter}
use Rattle.bfs_tree.specs.Listings.{is_between, found_row}
use Rattle.bfs_plain.specs.Plain.{nodes_of, pair_of}
use Rattle.bfs_plain.proofs.finds.rows_at.Given as goal

abbrev pub invariant-loop-pair : goal.invariant-loop-pair
invariant-loop-pair l =
    l.rows.items ++ each (found_row (nodes_of l.nodes.entries) l.kind) (filter (is_between l.kind l.low l.high) (each pair_of (drop l.pair-index l.pairs)))
    ≡ each (found_row (nodes_of l.nodes.entries) l.kind) (filter (is_between l.kind l.low l.high) (each pair_of l.pairs))
