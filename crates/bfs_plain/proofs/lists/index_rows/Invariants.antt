use Rattle.std.proofs.Common.{◌≡◌, ◌++◌, map as each}
use Rattle.bfs_tree.specs.Answers.{rows_of_indices}
use Rattle.bfs_plain.specs.Plain.{index_entry}
use Rattle.bfs_plain.proofs.lists.index_rows.Given as goal

abbrev pub invariant-loop-name : goal.invariant-loop-name
invariant-loop-name l = l.rows.items ++ rows_of_indices (each index_entry l.name-iterator) ≡ rows_of_indices (each index_entry l.indices.entries)
