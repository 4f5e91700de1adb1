use Rattle.std.proofs.Common.{◌≡◌, ◌++◌, ap, sym, ◌∙◌, append-nil, map as each}
use Rattle.bfs_tree.specs.Orders.{in_order}
use Rattle.bfs_tree.specs.Listings.{pair_cmp, key_in, pairs_in, listed_among}
use Rattle.bfs_plain.specs.Plain.{node_of, node_entry, pair_of}
use Rattle.bfs_plain.proofs.Maps.{entries-nodes}
use Rattle.bfs_tree.proofs.Sorting.{pair-added}
use Rattle.bfs_plain.proofs.finds.pairs_at.Goals as goal

pub loop-id-preserved : goal.loop-id-preserved
loop-id-preserved c =
    ap (λ ps. ps ++ pairs_in c.args.root c.args.index.now c.args.kind (each node_entry c.next.new.self)) c.in_ok-visit_pair.ensures
    ∙ pair-added (each pair_of c.loop-id.pairs.items) c.in-Some.id.now (key_in c.args.root c.args.index.now c.args.kind c.in-Some.id.now (node_of c.in-Some.node.now)) (pairs_in c.args.root c.args.index.now c.args.kind (each node_entry c.next.new.self))
    ∙ ap (λ es. each pair_of c.loop-id.pairs.items ++ pairs_in c.args.root c.args.index.now c.args.kind (each node_entry es)) (sym c.in-Some.ensures.steps) ∙ c.loop-id.invariant

pub returns : goal.returns
returns c =
    let all : each pair_of c.loop-id.pairs.items ≡ pairs_in c.args.root c.args.index.now c.args.kind (each node_entry c.args.nodes.now.entries) =
    sym (append-nil (each pair_of c.loop-id.pairs.items)) ∙ ap (λ es. each pair_of c.loop-id.pairs.items ++ pairs_in c.args.root c.args.index.now c.args.kind (each node_entry es)) (sym c.in-None.ensures.steps.0) ∙ c.loop-id.invariant in
    c.in_ok-sort_pairs.ensures ∙ ap (in_order (pair_cmp c.args.kind)) all ∙ sym (ap (listed_among c.args.root c.args.index.now c.args.kind) (entries-nodes c.args.nodes.now.entries c.iter-id-items.ensures.ordered))
