use Rattle.std.proofs.Common.{ap, sym, ◌∙◌, ◌++◌, append-nil, map as each}
use Rattle.bfs_tree.specs.Answers.{rows_of_attributes}
use Rattle.bfs_plain.specs.Plain.{attribute_entry}
use Rattle.bfs_plain.proofs.Maps.{entries-attributes}
use Rattle.bfs_plain.proofs.lists.attribute_rows.Goals as goal

pub returns : goal.returns
returns c =
    sym (append-nil c.loop-name.rows.items) ∙ ap (λ es. c.loop-name.rows.items ++ rows_of_attributes (each attribute_entry es)) (sym c.in-None.ensures.steps.0) ∙ c.loop-name.invariant
    ∙ sym (ap rows_of_attributes (entries-attributes c.args.attributes.now.entries c.iter-name-items.ensures.ordered))
