use Rattle.std.proofs.Common.{◌≡◌, ◌+◌, ℕ, suc, List, take, remove, ap, ◌∙◌, arith}
use Rattle.bfs_node.specs.Page.{Row, rows_of}
use Rattle.bfs_insert.proofs.Dividing.{rows-some, take-removed}
use Rattle.bfs_insert.proofs.divide.divide_interior.Goals as goal

pub overflow_add-i : goal.overflow_add-i
overflow_add-i c = omega (arith, c.requires.row, rows-some c.args.page.now c.requires.page)

pub returns-clause-rows : goal.returns-clause-rows
returns-clause-rows c =
    let next : c.args.i + 1 ≡ suc c.args.i = omega arith in
    c.set_overflow_link.ensures.rows ∙ c.remove_row.ensures.rows ∙ ap (λ (l : List Row). remove l c.args.i) (c.split_rows.ensures.rows ∙ ap (λ (n : ℕ). take n (rows_of c.args.page.now)) next)
    ∙ take-removed (rows_of c.args.page.now) c.args.i c.requires.row
