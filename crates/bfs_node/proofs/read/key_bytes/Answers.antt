use Rattle.std.proofs.Common.{◌∙◌, arith}
use Rattle.bfs_base.specs.Images.{IsBytes}
use Rattle.bfs_node.specs.Page.{rows_of}
use Rattle.bfs_node.proofs.PageLayout.{holds-rows}
use Rattle.bfs_node.proofs.RowsRead.{key_bytes-is}
use Rattle.bfs_node.proofs.read.key_bytes.Goals as goal

pub returns-clause-rows : goal.returns-clause-rows
returns-clause-rows c =
    let small : IsBytes c.args.page.now = λ i. omega (arith, c.type_inv.page i) in
    c.u16_at.ensures ∙ key_bytes-is c.args.page.now (rows_of c.args.page.now) (holds-rows c.args.page.now c.requires small)
