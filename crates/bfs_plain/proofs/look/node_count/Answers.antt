use Rattle.std.proofs.Common.{◌∙◌}
use Rattle.bfs_plain.proofs.Maps.{len-nodes}
use Rattle.bfs_plain.proofs.look.node_count.Goals as goal

pub returns : goal.returns
returns c = c.len.ensures.len ∙ len-nodes c.args.nodes.now.entries c.len.ensures.ordered
