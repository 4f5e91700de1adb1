use Rattle.std.proofs.Common.{◌≡◌, sym, ◌∙◌, arith, rules, w64, to_z, of_z}
use Rattle.bfs_node.specs.Page.{rows_of, links_of}
use Rattle.bfs_pages.proofs.Sorted.{link-in, link-end}
use Rattle.bfs_pages.proofs.look.child_link.Goals as goal

pub returns-then-i-row_count : goal.returns-then-i-row_count
returns-then-i-row_count c =
    let signed : to_z w64 (of_z w64 c.row_value.result) ≡ c.row_value.result = search rules in
    signed ∙ c.row_value.ensures ∙ sym (link-in (rows_of c.args.page.now) (links_of c.args.page.now).overflow c.args.i (omega (arith, c.row_count.ensures, c.if-i-row_count.true)))

pub returns-else-i-row_count : goal.returns-else-i-row_count
returns-else-i-row_count c =
    let signed : to_z w64 (of_z w64 c.overflow_link.result) ≡ c.overflow_link.result = search rules in
    signed ∙ c.overflow_link.ensures ∙ sym (link-end (rows_of c.args.page.now) (links_of c.args.page.now).overflow c.args.i (omega (arith, c.row_count.ensures, c.if-i-row_count.false)))
