use Rattle.std.proofs.Common.{rules, ◌≡◌, ◌++◌, ◌∷◌, [], ◌∙◌, ℤ, List, sym, ap, subst, w64, to_z, of_z}
use Rattle.bfs_node.specs.Page.{Row, rows_of, row_in}
use Rattle.bfs_names_walk.specs.Rows.{as_rows}
use Rattle.bfs_names_walk.specs.declared.row.NameRow.{NameRow}
use Rattle.bfs_names_walk.proofs.Gathered.{more_row}
use Rattle.bfs_names_walk.proofs.rows.take_row.Goals as goal

pub returns-in-Ok-push : goal.returns-in-Ok-push
returns-in-Ok-push c =
    let r : Row = row_in (rows_of c.args.page.now) c.args.i in
    let signed : to_z w64 (of_z w64 c.row_value-value.result) ≡ c.row_value-value.result = search rules in
    let value : to_z w64 (of_z w64 c.row_value-value.result) ≡ r.1 = signed ∙ c.row_value-value.ensures in
    let name : c.in-Ok.name ≡ r.0 = c.in-Ok.ensures ∙ c.row_key.ensures in
    let same : (c.in-Ok.name, to_z w64 (of_z w64 c.row_value-value.result)) ≡ r = λ t. (name t, value t) in
    ap as_rows c.in-Ok-push.ensures.items
    ∙ more_row c.args.rows.now.items (record { name = c.in-Ok.name; value = to_z w64 (of_z w64 c.row_value-value.result) })
    ∙ ap (λ (x : Row). as_rows c.args.rows.now.items ++ x ∷ []) same
