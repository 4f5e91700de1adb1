use Rattle.std.proofs.Common.{◌≡◌, ◌-◌, ap, sym, ◌∙◌, subst, take, drop, arith, length-drop}
use Rattle.std.proofs.lemmas.List.{take_all}
use Rattle.bfs_node.specs.Page.{rows_of, HasLayout}
use Rattle.bfs_node.proofs.PageLayout.{layout-of}
use Rattle.bfs_node.proofs.RowsRead.{rows_of-is}
use Rattle.bfs_node.proofs.edit.split_rows.Goals as goal

pub returns-clause-page : goal.returns-clause-page
returns-clause-page c =
    subst HasLayout (sym c.copy_from_slice.ensures.after) (layout-of c.make_part.new.page (take (c.args.at - 0) (rows_of c.args.page.now)) c.make_part.ensures.rows)

pub returns-clause-rows : goal.returns-clause-rows
returns-clause-rows c =
    let minus : c.args.at - 0 ≡ c.args.at = omega arith in
    ap rows_of c.copy_from_slice.ensures.after ∙ rows_of-is c.make_part.new.page (take (c.args.at - 0) (rows_of c.args.page.now)) c.make_part.ensures.rows ∙ ap (λ k. take k (rows_of c.args.page.now)) minus

pub returns-clause-into : goal.returns-clause-into
returns-clause-into c =
    subst HasLayout (sym c.copy_from_slice-2.ensures.after)
    (layout-of c.make_part-2.new.page (take (c.row_count-count.result - c.args.at) (drop c.args.at (rows_of c.args.page.now))) c.make_part-2.ensures.rows)

pub returns-clause-moved : goal.returns-clause-moved
returns-clause-moved c =
    ap rows_of c.copy_from_slice-2.ensures.after
    ∙ rows_of-is c.make_part-2.new.page (take (c.row_count-count.result - c.args.at) (drop c.args.at (rows_of c.args.page.now))) c.make_part-2.ensures.rows
    ∙ take_all (c.row_count-count.result - c.args.at) (drop c.args.at (rows_of c.args.page.now)) (omega (arith, length-drop c.args.at (rows_of c.args.page.now), c.row_count-count.ensures))
