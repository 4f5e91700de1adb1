use Rattle.std.proofs.Common.{◌≡◌, ◌++◌, drop}
use Rattle.std.specs.List.{flat_map}
use Rattle.bfs_index.specs.Indices.{row_pairs}
use Rattle.bfs_index.proofs.found.pairs_of_rows.Given as goal

abbrev pub invariant-loop-row : goal.invariant-loop-row
invariant-loop-row l = l.pairs.items ++ flat_map row_pairs (drop l.row-index l.ranged) ≡ flat_map row_pairs l.ranged
