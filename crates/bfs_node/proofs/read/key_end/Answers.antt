use Rattle.std.proofs.Common.{◌≡◌, ◌+◌, ◌*◌, ◌∙◌, ap, arith}
use Rattle.bfs_bytes.specs.Fields.{unsigned_at}
use Rattle.bfs_node.specs.Page.{end_at}
use Rattle.bfs_node.proofs.PageLayout.{end-within}
use Rattle.bfs_node.proofs.read.key_end.Goals as goal

pub returns-clause-within : goal.returns-clause-within
returns-clause-within c =
    let e : c.u16_at.result ≡ end_at c.args.page.now c.args.i = c.u16_at.ensures ∙ ap (λ b. unsigned_at 2 c.args.page.now (b + 2 * c.args.i)) c.ends_base.ensures in
    omega (arith, e, end-within c.args.page.now c.requires.page c.args.i c.requires.place)
