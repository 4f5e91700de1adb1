use Rattle.std.proofs.Common.{◌≡◌, ap, sym, ◌∙◌, Some, rules, w64, to_z, of_z, ℤ}
use Rattle.bfs_node.specs.Page.{rows_of}
use Rattle.bfs_pages.proofs.Sorted.{by-index, assoc-found, assoc-missed}
use Rattle.bfs_pages.proofs.look.look_up.Goals as goal

pub returns-in-Ok : goal.returns-in-Ok
returns-in-Ok c up =
    let found = assoc-found c.args.kind (rows_of c.args.page.now) c.args.key.now c.in-Ok.i up (c.in-Ok.ensures.place (by-index c.args.kind (rows_of c.args.page.now) up)) in
    let signed : to_z w64 (of_z w64 c.row_value.result) ≡ c.row_value.result = search rules in
    ap (λ (z : ℤ). Some z) (signed ∙ c.row_value.ensures) ∙ sym found

pub returns-in-Err : goal.returns-in-Err
returns-in-Err c up = sym (assoc-missed c.args.kind (rows_of c.args.page.now) c.args.key.now c.in-Err.field-0 (c.in-Err.ensures.place (by-index c.args.kind (rows_of c.args.page.now) up)))
