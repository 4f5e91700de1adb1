use Rattle.bfs_plain.proofs.Maps.{attributes-put}
use Rattle.bfs_plain.proofs.named.put_attribute.Goals as goal

pub returns-in-Ok-clause-ok : goal.returns-in-Ok-clause-ok
returns-in-Ok-clause-ok c = attributes-put c.args.attributes.now.entries c.insert.new.self.entries c.args.name c.args.attribute c.in-Ok.ensures.entries
