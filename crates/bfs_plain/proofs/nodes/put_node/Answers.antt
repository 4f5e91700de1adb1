use Rattle.bfs_plain.proofs.Maps.{nodes-put}
use Rattle.bfs_plain.proofs.nodes.put_node.Goals as goal

pub returns-in-Ok-clause-ok : goal.returns-in-Ok-clause-ok
returns-in-Ok-clause-ok c = nodes-put c.args.id c.args.nodes.now.entries c.insert.new.self.entries c.args.node c.in-Ok.ensures.updates.0
