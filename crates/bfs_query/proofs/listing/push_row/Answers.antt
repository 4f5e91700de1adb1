use Rattle.std.proofs.Common.{◌∙◌, ◌++◌, ◌∷◌, [], ap, List, ℕ}
use Rattle.bfs_base.specs.declared.kind.KeyKind.{KeyKind}
use Rattle.bfs_query.proofs.Indexed.{index_readable, index_tree, index_inside}
use Rattle.bfs_query.proofs.listing.push_row.Goals as goal

pub returns-in-Err-clause-row : goal.returns-in-Err-clause-row
returns-in-Err-clause-row g c v m tree lists told ready at =
    let s = c.args.site.sup in
    let r = c.args.row.now in
    c.in-Err.ensures.kind m (lists.kinds r.name) told (index_inside s v m tree lists c.requires.valid ready r.name r.id at) (index_readable s v m tree lists c.requires.valid ready r.name r.id at) (index_tree s v m tree lists c.requires.valid ready r.name r.id at)

pub returns-in-Ok-add-clause-row : goal.returns-in-Ok-add-clause-row
returns-in-Ok-add-clause-row g c v m tree lists told ready at =
    let s = c.args.site.sup in
    let r = c.args.row.now in
    let kind = c.in-Ok.ensures.kind m (lists.kinds r.name) told (index_inside s v m tree lists c.requires.valid ready r.name r.id at) (index_readable s v m tree lists c.requires.valid ready r.name r.id at) (index_tree s v m tree lists c.requires.valid ready r.name r.id at) in
    c.in-Ok-add.ensures
    ∙ ap (λ (k : KeyKind). c.args.rows.now.items ++ record { kind = k; name = c.as_slice.result.now } ∷ []) kind
    ∙ ap (λ (b : List ℕ). c.args.rows.now.items ++ record { kind = lists.kinds r.name; name = b } ∷ []) c.as_slice.ensures
