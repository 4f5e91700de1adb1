use Rattle.bfs_plain.proofs.Maps.{node-seen}
use Rattle.bfs_plain.proofs.look.node_at.Goals as goal

pub returns : goal.returns
returns c = node-seen c.args.id c.args.nodes.now.entries c.get.result c.get.ensures.value
