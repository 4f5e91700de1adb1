use Rattle.std.proofs.Common.{rules, ◌≡◌, ◌∙◌, w64, to_z, of_z}
use Rattle.bfs_nodes_walk.proofs.lead.lead_by.Goals as goal

pub returns-in-Ok-clause-lead : goal.returns-in-Ok-clause-lead
returns-in-Ok-clause-lead c =
    let slice : c.as_slice.result.now ≡ c.args.row.now.name = search rules in
    let name : c.in-Ok.name ≡ c.args.row.now.name = c.in-Ok.ensures ∙ slice in
    let value : to_z w64 (of_z w64 c.args.row.now.value) ≡ c.args.row.now.value = search rules in
    λ t. record { dir = c.args.dir; row = record { name = name t; value = value t } }
