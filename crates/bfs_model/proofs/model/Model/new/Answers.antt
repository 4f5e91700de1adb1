use Rattle.std.proofs.Common.{rules, ◌≡◌, sym, subst}
use Rattle.bfs_tree.specs.Trees.{Tree, IsPlain, empty_tree}
use Rattle.bfs_plain.specs.Plain.{nodes_of, indices_of}
use Rattle.bfs_model.proofs.model.Model.new.Goals as goal

pub returns-clause-plain : goal.returns-clause-plain
returns-clause-plain c =
    let made : Tree = record { root = c.args.root; nodes = nodes_of c.put_node.new.nodes.entries; indices = indices_of c.in_ok-built_in_indices.field-0.entries } in
    let same : made ≡ empty_tree c.args.root c.args.stamp = search rules in
    subst IsPlain (sym same) (c.empty_is_plain.ensures c.args.root c.args.stamp)
