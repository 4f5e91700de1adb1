use Rattle.std.proofs.Common.{◌≡◌, ◌-◌, ◌∙◌, ap, arith, suc}
use Rattle.bfs_base.specs.Images.{IsBytes}
use Rattle.bfs_node.specs.Page.{rows_of, start_at}
use Rattle.bfs_node.proofs.PageLayout.{holds-rows, length-rows_of}
use Rattle.bfs_node.proofs.RowsRead.{start-at}
use Rattle.bfs_node.proofs.read.key_start.Goals as goal

pub returns-else-i-eq0-clause-rows : goal.returns-else-i-eq0-clause-rows
returns-else-i-eq0-clause-rows c =
    let small : IsBytes c.args.page.now = λ i. omega (arith, c.type_inv.page i) in
    let e : suc (c.args.i - 1) ≡ c.args.i = omega arith in
    c.key_end.ensures.end ∙ ap (start_at c.args.page.now) e
    ∙ start-at c.args.page.now (rows_of c.args.page.now) c.args.i (holds-rows c.args.page.now c.requires.page small) c.requires.place

pub key_end-requires-clause-place : goal.key_end-requires-clause-place
key_end-requires-clause-place c = omega (arith, length-rows_of c.args.page.now, c.requires.place)
