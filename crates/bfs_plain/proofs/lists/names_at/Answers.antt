use Rattle.std.proofs.Common.{◌≡◌, ◌++◌, ap, sym, ◌∙◌, append-nil, map as each}
use Rattle.bfs_base.specs.Keys.{text_cmp}
use Rattle.bfs_tree.specs.Orders.{in_order}
use Rattle.bfs_tree.specs.Trees.{children_in}
use Rattle.bfs_tree.specs.Answers.{names_among}
use Rattle.bfs_plain.specs.Plain.{node_entry}
use Rattle.bfs_plain.proofs.Maps.{entries-nodes}
use Rattle.bfs_plain.proofs.lists.names_at.Goals as goal

pub returns : goal.returns
returns c =
    let all : c.loop-id.names.items ≡ each (λ e. e.1.name) (children_in c.args.root c.args.dir (each node_entry c.args.nodes.now.entries)) =
    sym (append-nil c.loop-id.names.items) ∙ ap (λ es. c.loop-id.names.items ++ each (λ e. e.1.name) (children_in c.args.root c.args.dir (each node_entry es))) (sym c.in-None.ensures.steps.0) ∙ c.loop-id.invariant in
    c.in_ok-sort_names.ensures ∙ ap (in_order text_cmp) all ∙ sym (ap (names_among c.args.root c.args.dir) (entries-nodes c.args.nodes.now.entries c.iter-id-items.ensures.ordered))
