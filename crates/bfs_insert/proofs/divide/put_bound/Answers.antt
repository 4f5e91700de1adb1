use Rattle.std.proofs.Common.{◌≡◌, ◌+◌, ℕ, ℤ, suc, List, insert, set, ap, sym, ◌∙◌, arith, rules, w64, to_z, of_z}
use Rattle.bfs_node.specs.Page.{Row, rows_of, row_in, key_of, links_of}
use Rattle.bfs_node.specs.declared.links.Links.{Links}
use Rattle.bfs_pages.specs.Ways.{link_at}
use Rattle.bfs_insert.proofs.Dividing.{bound-inner, bound-inner_last, bound-end, bound-end_last}
use Rattle.bfs_insert.proofs.divide.put_bound.Goals as goal

pub returns-then-i-row_count-clause-rows : goal.returns-then-i-row_count-clause-rows
returns-then-i-row_count-clause-rows c =
    let signed : to_z w64 (of_z w64 c.child_link-child.result) ≡ c.child_link-child.result = search rules in
    let sign : to_z w64 (of_z w64 c.args.right) ≡ c.args.right = search rules in
    let next : c.args.i + 1 ≡ suc c.args.i = omega arith in
    let inserted : rows_of c.insert_row.new.page ≡ insert (rows_of c.args.page.now) c.args.i (c.args.bound.now, link_at (rows_of c.args.page.now) (links_of c.args.page.now).overflow c.args.i) =
    c.insert_row.ensures.rows ∙ ap (λ (v : ℤ). insert (rows_of c.args.page.now) c.args.i (c.args.bound.now, v)) (signed ∙ c.child_link-child.ensures) in
    c.set_row_value.ensures.rows
    ∙ ap (λ (v : ℤ). set (rows_of c.insert_row.new.page) (c.args.i + 1) (key_of (row_in (rows_of c.insert_row.new.page) (c.args.i + 1)), v)) sign
    ∙ ap (λ (n : ℕ). set (rows_of c.insert_row.new.page) n (key_of (row_in (rows_of c.insert_row.new.page) n), c.args.right)) next
    ∙ ap (λ (l : List Row). set l (suc c.args.i) (key_of (row_in l (suc c.args.i)), c.args.right)) inserted
    ∙ bound-inner (rows_of c.args.page.now) (links_of c.args.page.now).overflow c.args.i c.args.bound.now c.args.right (omega (arith, c.row_count.ensures, c.if-i-row_count.true))

pub returns-then-i-row_count-clause-last : goal.returns-then-i-row_count-clause-last
returns-then-i-row_count-clause-last c =
    ap (λ (l : Links). l.overflow) (c.set_row_value.ensures.links ∙ c.insert_row.ensures.links)
    ∙ sym (bound-inner_last (rows_of c.args.page.now) (links_of c.args.page.now).overflow c.args.i c.args.right (omega (arith, c.row_count.ensures, c.if-i-row_count.true)))

pub returns-else-i-row_count-clause-rows : goal.returns-else-i-row_count-clause-rows
returns-else-i-row_count-clause-rows c =
    let signed : to_z w64 (of_z w64 c.child_link-child.result) ≡ c.child_link-child.result = search rules in
    c.set_overflow_link.ensures.rows ∙ c.insert_row-else-i-row_count.ensures.rows
    ∙ ap (λ (v : ℤ). insert (rows_of c.args.page.now) c.args.i (c.args.bound.now, v)) (signed ∙ c.child_link-child.ensures)
    ∙ bound-end (rows_of c.args.page.now) (links_of c.args.page.now).overflow c.args.i c.args.bound.now c.args.right (omega (arith, c.row_count.ensures, c.if-i-row_count.false, c.requires.place))

pub returns-else-i-row_count-clause-last : goal.returns-else-i-row_count-clause-last
returns-else-i-row_count-clause-last c =
    let sign : to_z w64 (of_z w64 c.args.right) ≡ c.args.right = search rules in
    ap (λ (l : Links). l.overflow) c.set_overflow_link.ensures.links ∙ sign
    ∙ sym (bound-end_last (rows_of c.args.page.now) (links_of c.args.page.now).overflow c.args.i c.args.right (omega (arith, c.row_count.ensures, c.if-i-row_count.false, c.requires.place)))
