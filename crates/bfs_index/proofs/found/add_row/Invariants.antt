use Rattle.std.proofs.Common.{◌≡◌, ◌++◌, drop, map}
use Rattle.bfs_index.specs.Indices.{row_pairs}
use Rattle.bfs_index.proofs.found.add_row.Given as goal

abbrev pub invariant-loop-id : goal.invariant-loop-id
invariant-loop-id l = l.pairs.items ++ map (λ n. record { key = l.row.key; id = n }) (drop l.id-index l.row.numbers) ≡ l.fn.pairs.items ++ row_pairs l.row
