use Rattle.std.proofs.Common.{rules, ap}
use Rattle.bfs_plain.specs.Plain.{without_attribute}
use Rattle.bfs_plain.proofs.Maps.{node-written, node-missing}
use Rattle.bfs_plain.proofs.named.remove_attribute.Goals as goal

pub returns-in-None : goal.returns-in-None
returns-in-None c =
    node-missing c.args.id c.args.nodes.now.entries _ (without_attribute c.args.name.now c.args.stamp) c.get_mut.result c.in-None.is c.get_mut.ensures.value (ap (λ m. m.entries) c.get_mut.follows.holds-at-none)

pub returns-in-Some : goal.returns-in-Some
returns-in-Some c =
    node-written c.args.id c.args.nodes.now.entries _ (without_attribute c.args.name.now c.args.stamp) c.get_mut.result c.in-Some.node c.remove_attribute.new.self c.in-Some.is c.get_mut.ensures.value (search (rules, c.remove_attribute.ensures))
    (c.get_mut.follows.holds c.remove_attribute.new.self).0
