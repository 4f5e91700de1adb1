use Rattle.std.proofs.Common.{ap, sym, ◌∙◌, ◌++◌, append-nil, map as each}
use Rattle.bfs_tree.specs.Answers.{rows_of_indices}
use Rattle.bfs_plain.specs.Plain.{index_entry}
use Rattle.bfs_plain.proofs.Maps.{entries-indices}
use Rattle.bfs_plain.proofs.lists.index_rows.Goals as goal

pub returns : goal.returns
returns c =
    sym (append-nil c.loop-name.rows.items) ∙ ap (λ es. c.loop-name.rows.items ++ rows_of_indices (each index_entry es)) (sym c.in-None.ensures.steps.0) ∙ c.loop-name.invariant
    ∙ sym (ap rows_of_indices (entries-indices c.args.indices.now.entries c.iter-name-items.ensures.ordered))
