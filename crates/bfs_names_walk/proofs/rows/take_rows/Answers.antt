use Rattle.std.proofs.Common.{◌≡◌, ◌≤◌, ◌<◌, ◌+◌, ◌++◌, ◌∷◌, [], ◌∙◌, pos, List, length, take, sym, ap, arith, append_assoc, append-nil}
use Rattle.std.proofs.lemmas.List.{take_more, take_all}
use Rattle.bfs_node.specs.Page.{Row, rows_of, row_in}
use Rattle.bfs_names_walk.specs.Rows.{as_rows}
use Rattle.bfs_names_walk.proofs.rows.take_rows.Goals as goal

pub take_row-requires-clause-inside : goal.take_row-requires-clause-inside
take_row-requires-clause-inside c = let e = c.row_count-i-end.ensures in let t = c.loop-i-test.true in omega (arith, e, t)

pub loop-i-init : goal.loop-i-init
loop-i-init c = sym (append-nil (as_rows c.args.rows.now.items))

pub loop-i-preserved : goal.loop-i-preserved
loop-i-preserved c =
    let rows : List Row = rows_of c.args.page.now in
    let i = c.loop-i.i in
    let h : i < length rows = let e = c.row_count-i-end.ensures in let t = c.loop-i-test.true in omega (arith, e, t) in
    c.in-Ok.ensures
    ∙ ap (λ (l : List Row). l ++ row_in rows i ∷ []) c.loop-i.invariant
    ∙ append_assoc (as_rows c.args.rows.now.items) (take i rows) (row_in rows i ∷ [])
    ∙ ap (λ (l : List Row). as_rows c.args.rows.now.items ++ l) (sym (take_more rows i ([], pos 0) h))

pub returns : goal.returns
returns c =
    let rows : List Row = rows_of c.args.page.now in
    let behind : length rows ≤ c.loop-i.i = let e = c.row_count-i-end.ensures in let t = c.loop-i-test.false in omega (arith, e, t) in
    c.loop-i.invariant ∙ ap (λ (l : List Row). as_rows c.args.rows.now.items ++ l) (take_all c.loop-i.i rows behind)
