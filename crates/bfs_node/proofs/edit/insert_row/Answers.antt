use Rattle.std.proofs.Common.{◌≡◌, ap, sym, ◌∙◌, subst, ℤ, insert, rules, to_z, of_z}
use Rattle.std.specs.Int.{w64}
use Rattle.bfs_node.specs.Page.{rows_of, links_of, HasLayout}
use Rattle.bfs_node.proofs.PageLayout.{layout-of}
use Rattle.bfs_node.proofs.RowsRead.{rows_of-is}
use Rattle.bfs_node.proofs.edit.insert_row.Goals as goal

pub returns-clause-page : goal.returns-clause-page
returns-clause-page c =
    subst HasLayout (sym c.copy_from_slice.ensures.after) (layout-of c.make_with_row.new.page (insert (rows_of c.args.page.now) c.args.i (c.args.key.now, to_z w64 (of_z w64 c.args.value))) c.make_with_row.ensures.rows)

pub returns-clause-rows : goal.returns-clause-rows
returns-clause-rows c =
    let whole : to_z w64 (of_z w64 c.args.value) ≡ c.args.value = search rules in
    ap rows_of c.copy_from_slice.ensures.after
    ∙ rows_of-is c.make_with_row.new.page (insert (rows_of c.args.page.now) c.args.i (c.args.key.now, to_z w64 (of_z w64 c.args.value))) c.make_with_row.ensures.rows
    ∙ ap (λ (v : ℤ). insert (rows_of c.args.page.now) c.args.i (c.args.key.now, v)) whole

pub returns-clause-links : goal.returns-clause-links
returns-clause-links c = ap links_of c.copy_from_slice.ensures.after ∙ c.make_with_row.ensures.links
