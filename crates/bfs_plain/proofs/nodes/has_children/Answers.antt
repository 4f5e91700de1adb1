use Rattle.std.proofs.Common.{ap, sym, ◌∙◌, map as each}
use Rattle.bfs_tree.specs.Refusals.{has_children}
use Rattle.bfs_plain.specs.Plain.{node_entry}
use Rattle.bfs_plain.proofs.Maps.{entries-nodes}
use Rattle.bfs_plain.proofs.Children.{children-first}
use Rattle.bfs_plain.proofs.nodes.has_children.Goals as goal

pub returns-then-is_child : goal.returns-then-is_child
returns-then-is_child c =
    sym (ap (has_children c.args.root c.args.dir) (entries-nodes c.args.nodes.now.entries c.iter-id-items.ensures.ordered)
    ∙ c.loop-id.invariant ∙ ap (λ es. has_children c.args.root c.args.dir (each node_entry es)) c.in-Some.ensures.steps
    ∙ children-first c.args.root c.args.dir (node_entry (c.in-Some.id.now, c.in-Some.node.now)) (each node_entry c.next.new.self) (sym c.is_child.ensures ∙ c.if-is_child.true))

pub returns : goal.returns
returns c =
    sym (ap (has_children c.args.root c.args.dir) (entries-nodes c.args.nodes.now.entries c.iter-id-items.ensures.ordered)
    ∙ c.loop-id.invariant ∙ ap (λ es. has_children c.args.root c.args.dir (each node_entry es)) c.in-None.ensures.steps.0)
