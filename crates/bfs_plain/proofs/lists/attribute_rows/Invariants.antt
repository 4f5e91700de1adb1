use Rattle.std.proofs.Common.{◌≡◌, ◌++◌, map as each}
use Rattle.bfs_tree.specs.Answers.{rows_of_attributes}
use Rattle.bfs_plain.specs.Plain.{attribute_entry}
use Rattle.bfs_plain.proofs.lists.attribute_rows.Given as goal

abbrev pub invariant-loop-name : goal.invariant-loop-name
invariant-loop-name l = l.rows.items ++ rows_of_attributes (each attribute_entry l.name-iterator) ≡ rows_of_attributes (each attribute_entry l.attributes.entries)
