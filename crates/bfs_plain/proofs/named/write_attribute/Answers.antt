use Rattle.std.proofs.Common.{rules, ap, ◌≡◌}
use Rattle.bfs_plain.specs.Plain.{node_of, attribute_of, with_attribute}
use Rattle.bfs_plain.proofs.Maps.{node-written, node-missing, node-kept, on_ok, on_err}
use Rattle.bfs_plain.proofs.named.write_attribute.Goals as goal

pub returns-in-None-clause-ok : goal.returns-in-None-clause-ok
returns-in-None-clause-ok c =
    node-missing c.args.id c.args.nodes.now.entries _ (with_attribute c.args.name.items (attribute_of c.args.attribute) c.args.stamp) c.get_mut.result c.in-None.is c.get_mut.ensures.value (ap (λ m. m.entries) c.get_mut.follows.holds-at-none)

pub returns-in-Some-clause-ok : goal.returns-in-Some-clause-ok
returns-in-Some-clause-ok c =
    on_ok (node_of c.write_attribute.new.self ≡ with_attribute c.args.name.items (attribute_of c.args.attribute) c.args.stamp (node_of c.in-Some.node.now)) _ c.write_attribute.result
    (λ same. node-written c.args.id c.args.nodes.now.entries _ (with_attribute c.args.name.items (attribute_of c.args.attribute) c.args.stamp) c.get_mut.result c.in-Some.node c.write_attribute.new.self c.in-Some.is c.get_mut.ensures.value same (c.get_mut.follows.holds c.write_attribute.new.self).0)
    (search (rules, c.write_attribute.ensures.ok))

pub returns-in-Some-clause-err : goal.returns-in-Some-clause-err
returns-in-Some-clause-err c =
    on_err _ _ c.write_attribute.result
    (λ same. node-kept c.args.id c.args.nodes.now.entries _ c.get_mut.result c.in-Some.node c.write_attribute.new.self c.in-Some.is c.get_mut.ensures.value same (c.get_mut.follows.holds c.write_attribute.new.self).0)
    c.write_attribute.ensures.err
