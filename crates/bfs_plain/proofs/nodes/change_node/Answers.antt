use Rattle.std.proofs.Common.{rules, ap}
use Rattle.bfs_plain.specs.Plain.{node_after}
use Rattle.bfs_plain.proofs.Maps.{node-written, node-missing}
use Rattle.bfs_plain.proofs.nodes.change_node.Goals as goal

pub returns-in-None : goal.returns-in-None
returns-in-None c =
    node-missing c.args.id c.args.nodes.now.entries _ (node_after c.args.change c.args.stamp) c.get_mut.result c.in-None.is c.get_mut.ensures.value (ap (λ m. m.entries) c.get_mut.follows.holds-at-none)

pub returns-in-Some : goal.returns-in-Some
returns-in-Some c =
    node-written c.args.id c.args.nodes.now.entries _ (node_after c.args.change c.args.stamp) c.get_mut.result c.in-Some.node c.change.new.self c.in-Some.is c.get_mut.ensures.value (search (rules, c.change.ensures))
    (c.get_mut.follows.holds c.change.new.self).0
