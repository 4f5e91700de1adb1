use Rattle.std.proofs.Common.{rules, ◌≡◌, ◌∙◌, w64, to_z, of_z}
use Rattle.bfs_nodes_walk.proofs.Walking.{row_outside}
use Rattle.bfs_nodes_walk.proofs.lead.block_of.Goals as goal

pub returns-in-Err-clause-wrong : goal.returns-in-Err-clause-wrong
returns-in-Err-clause-wrong c v few row =
    let signed : to_z w64 (of_z w64 c.in-Err.value) ≡ c.in-Err.value = search rules in
    let same : to_z w64 (of_z w64 c.args.lead.now.row.value) ≡ c.args.lead.now.row.value = search rules in
    row_outside v c.args.lead.now c.args.blocks _ (signed ∙ c.in-Err.ensures.outside.0 ∙ same) few row (λ k e. c.in-Err.ensures.outside.1 k (same ∙ e))
