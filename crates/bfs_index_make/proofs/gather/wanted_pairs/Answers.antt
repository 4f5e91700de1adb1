use Rattle.std.proofs.Common.{◌≡◌, ◌∙◌, [], sym, ap, subst}
use Rattle.bfs_index_check.specs.Compared.{pairs_of}
use Rattle.bfs_look.specs.Ready.{HasNodeAt}
use Rattle.bfs_index_make.specs.Gathered.{AreNodes}
use Rattle.bfs_index_make.proofs.InOrder.{named_nodes, not_built_in, gathered_is}
use Rattle.bfs_index_make.proofs.gather.wanted_pairs.Goals as goal

pub returns-in-Err-clause-wanted : goal.returns-in-Err-clause-wanted
returns-in-Err-clause-wanted g c m tree lists told ready = c.in-Err.ensures.named m tree lists told ready (c.requires.fresh m tree lists told ready).built_in

pub gather_node-requires-clause-node : goal.gather_node-requires-clause-node
gather_node-requires-clause-node g c m told =
    let h = c.requires.ready m (sym c.in-Ok.ensures.told ∙ told) in
    let root = h.ready.plain.nodes.root in
    record {
      room = c.args.bitmap.now;
      tree = h.tree;
      lists = h.lists;
      ready = h.ready;
      nodes = (subst (HasNodeAt h.tree) (h.ready.root ∙ sym c.block_of.ensures) (root.0, root.1), tt);
    }

pub returns-in-Err-gather_node-clause-wanted : goal.returns-in-Err-gather_node-clause-wanted
returns-in-Err-gather_node-clause-wanted g c m tree lists told ready =
    let root = ready.plain.nodes.root in
    c.in-Err-gather_node.ensures.gathered c.args.bitmap.now m tree lists (c.in-Ok.ensures.told ∙ told) ready (subst (HasNodeAt tree) (ready.root ∙ sym c.block_of.ensures) (root.0, root.1))
    (not_built_in tree c.args.name.now (c.requires.fresh m tree lists told ready))

pub gather_nodes-requires-clause-nodes : goal.gather_nodes-requires-clause-nodes
gather_nodes-requires-clause-nodes g c m told =
    let before = sym (c.in-Ok-gather_node.ensures.told ∙ c.in-Ok.ensures.told) ∙ told in
    let h = c.requires.ready m before in
    record {
      room = c.args.bitmap.now;
      tree = h.tree;
      lists = h.lists;
      ready = h.ready;
      nodes = subst (AreNodes h.tree) (sym (c.deref.ensures.value ∙ c.in-Ok.ensures.named m h.tree h.lists before h.ready (c.requires.fresh m h.tree h.lists before h.ready).built_in)) (named_nodes h.tree);
    }

pub returns-in-Err-gather_nodes-clause-wanted : goal.returns-in-Err-gather_nodes-clause-wanted
returns-in-Err-gather_nodes-clause-wanted g c m tree lists told ready =
    let new = c.requires.fresh m tree lists told ready in
    c.in-Err-gather_nodes.ensures.gathered c.args.bitmap.now m tree lists (c.in-Ok-gather_node.ensures.told ∙ c.in-Ok.ensures.told ∙ told) ready
    (subst (AreNodes tree) (sym (c.deref.ensures.value ∙ c.in-Ok.ensures.named m tree lists told ready new.built_in)) (named_nodes tree))
    (not_built_in tree c.args.name.now new)

pub returns-in-Ok-sort_pairs-clause-wanted : goal.returns-in-Ok-sort_pairs-clause-wanted
returns-in-Ok-sort_pairs-clause-wanted g c m tree lists told ready =
    let name = c.args.name.now in
    let v = c.args.bitmap.now in
    let new = c.requires.fresh m tree lists told ready in
    let other = not_built_in tree name new in
    let root = ready.plain.nodes.root in
    let ids = c.deref.ensures.value ∙ c.in-Ok.ensures.named m tree lists told ready new.built_in in
    let one = c.in-Ok-gather_node.ensures.gathered v m tree lists (c.in-Ok.ensures.told ∙ told) ready (subst (HasNodeAt tree) (ready.root ∙ sym c.block_of.ensures) (root.0, root.1)) other in
    let rest = c.in-Ok-gather_nodes.ensures.gathered v m tree lists (c.in-Ok-gather_node.ensures.told ∙ c.in-Ok.ensures.told ∙ told) ready (subst (AreNodes tree) (sym ids) (named_nodes tree)) other in
    let none : pairs_of c.new-pairs.result.items ≡ [] = ap pairs_of c.new-pairs.ensures.items in
    gathered_is tree name c.args.kind c.block_of.result c.deref.result.now (pairs_of c.new-pairs.result.items) (pairs_of c.gather_node.new.pairs.items) (pairs_of c.gather_nodes.new.pairs.items) (pairs_of c.sort_pairs.new.pairs.items)
    (c.block_of.ensures ∙ sym ready.root) ids none one rest c.in-Ok-sort_pairs.ensures
