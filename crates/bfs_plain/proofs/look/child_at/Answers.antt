use Rattle.std.proofs.Common.{ap, sym, ◌∙◌, map as each}
use Rattle.bfs_tree.specs.Trees.{child_in}
use Rattle.bfs_plain.specs.Plain.{node_entry}
use Rattle.bfs_plain.proofs.Maps.{entries-nodes}
use Rattle.bfs_plain.proofs.Children.{child-first}
use Rattle.bfs_plain.proofs.look.child_at.Goals as goal

pub returns-then-is_child_named : goal.returns-then-is_child_named
returns-then-is_child_named c =
    ap (child_in c.args.root c.args.dir c.args.name.now) (entries-nodes c.args.nodes.now.entries c.iter-id-items.ensures.ordered)
    ∙ c.loop-id.invariant ∙ ap (λ es. child_in c.args.root c.args.dir c.args.name.now (each node_entry es)) c.in-Some.ensures.steps
    ∙ child-first c.args.root c.args.dir c.args.name.now (node_entry (c.in-Some.id.now, c.in-Some.node.now)) (each node_entry c.next.new.self)
    (sym c.is_child_named.ensures ∙ c.if-is_child_named.true)

pub returns : goal.returns
returns c =
    ap (child_in c.args.root c.args.dir c.args.name.now) (entries-nodes c.args.nodes.now.entries c.iter-id-items.ensures.ordered)
    ∙ c.loop-id.invariant ∙ ap (λ es. child_in c.args.root c.args.dir c.args.name.now (each node_entry es)) c.in-None.ensures.steps.0
