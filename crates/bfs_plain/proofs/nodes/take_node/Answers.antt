use Rattle.bfs_plain.proofs.Maps.{nodes-taken}
use Rattle.bfs_plain.proofs.nodes.take_node.Goals as goal

pub returns : goal.returns
returns c = nodes-taken c.args.id c.args.nodes.now.entries c.remove.new.self.entries c.remove.ensures.updates.0
