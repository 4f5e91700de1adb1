use Rattle.std.proofs.Common.{◌∙◌, sym}
use Rattle.bfs_node.proofs.PageLayout.{length-rows_of}
use Rattle.bfs_node.proofs.read.row_count.Goals as goal

pub returns : goal.returns
returns c = c.u16_at.ensures ∙ sym (length-rows_of c.args.page.now)
