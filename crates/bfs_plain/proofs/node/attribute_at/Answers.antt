use Rattle.bfs_plain.proofs.Maps.{attribute-seen}
use Rattle.bfs_plain.proofs.node.attribute_at.Goals as goal

pub returns : goal.returns
returns c = attribute-seen c.args.name.now c.args.attributes.now.entries c.get.result c.get.ensures.value
