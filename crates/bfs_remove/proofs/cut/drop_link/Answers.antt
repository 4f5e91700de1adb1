use Rattle.std.proofs.Common.{◌≡◌, ◌-◌, ℕ, remove, ap, sym, ◌∙◌, arith, rules, w64, to_z, of_z}
use Rattle.bfs_node.specs.Page.{rows_of, links_of, row_in, value_of}
use Rattle.bfs_node.specs.declared.links.Links.{Links}
use Rattle.bfs_remove.proofs.Less.{less-in, less-end}
use Rattle.bfs_remove.proofs.cut.drop_link.Goals as goal

pub returns-then-i-count-clause-rows : goal.returns-then-i-count-clause-rows
returns-then-i-count-clause-rows c =
    c.remove_row.ensures.rows ∙ (less-in (rows_of c.args.page.now) (links_of c.args.page.now).overflow c.args.i (omega (arith, c.if-i-count.true, c.row_count-count.ensures))).0

pub returns-then-i-count-clause-last : goal.returns-then-i-count-clause-last
returns-then-i-count-clause-last c =
    ap (λ (z : Links). z.overflow) c.remove_row.ensures.links
    ∙ sym (less-in (rows_of c.args.page.now) (links_of c.args.page.now).overflow c.args.i (omega (arith, c.if-i-count.true, c.row_count-count.ensures))).1

pub returns-then-count-gt0-clause-rows : goal.returns-then-count-gt0-clause-rows
returns-then-count-gt0-clause-rows c =
    c.set_overflow_link.ensures.rows ∙ c.remove_row-then-count-gt0.ensures.rows ∙ ap (λ (n : ℕ). remove (rows_of c.args.page.now) (n - 1)) c.row_count-count.ensures
    ∙ (less-end (rows_of c.args.page.now) (links_of c.args.page.now).overflow c.args.i (omega (arith, c.if-count-gt0.true, c.row_count-count.ensures)) (omega (arith, c.if-i-count.false, c.row_count-count.ensures))).0

pub returns-then-count-gt0-clause-last : goal.returns-then-count-gt0-clause-last
returns-then-count-gt0-clause-last c =
    let signed : to_z w64 (of_z w64 c.row_value-last.result) ≡ c.row_value-last.result = search rules in
    ap (λ (z : Links). z.overflow) c.set_overflow_link.ensures.links ∙ signed ∙ c.row_value-last.ensures ∙ ap (λ (n : ℕ). value_of (row_in (rows_of c.args.page.now) (n - 1))) c.row_count-count.ensures
    ∙ (less-end (rows_of c.args.page.now) (links_of c.args.page.now).overflow c.args.i (omega (arith, c.if-count-gt0.true, c.row_count-count.ensures)) (omega (arith, c.if-i-count.false, c.row_count-count.ensures))).1
