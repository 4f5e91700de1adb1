use Rattle.std.proofs.Common.{◌≡◌, ◌∙◌, ◌++◌, List, sym, ap}
use Rattle.bfs_stream.specs.Told.{contents}
use Rattle.bfs_sound.specs.Whole.{volume_of}
use Rattle.bfs_tree.specs.Listings.{key_in}
use Rattle.bfs_index.specs.declared.found.Pair as kept
use Rattle.bfs_index_check.specs.Compared.{pairs_of}
use Rattle.bfs_key_walk.proofs.Gathers.{own_number}
use Rattle.bfs_key_walk.specs.Gathered.{oldest_first, pair_with}
use Rattle.bfs_key_walk.proofs.Toured.{top_known, are_for, root_name, wanted_are}
use Rattle.bfs_key_walk.proofs.wanted.wanted_pairs.Goals as goal

pub gather_node-requires-clause-known : goal.gather_node-requires-clause-known
gather_node-requires-clause-known g c m told =
    let k = c.requires.known m (sym c.in-Ok.ensures.told ∙ told) in
    (k.0.1, top_known (volume_of c.args.sup.now (contents m)) c.args.root c.args.leads.now k.0 k.1 k.2)

pub returns-in-Err-gather_node-clause-unread : goal.returns-in-Err-gather_node-clause-unread
returns-in-Err-gather_node-clause-unread g c m told =
    let k = c.requires.known m told in
    c.in-Err-gather_node.ensures.unread m k.0.1 (c.in-Ok.ensures.told ∙ told) (top_known (volume_of c.args.sup.now (contents m)) c.args.root c.args.leads.now k.0 k.1 k.2)

pub gather_leads-requires-clause-known : goal.gather_leads-requires-clause-known
gather_leads-requires-clause-known g c m told =
    let k = c.requires.known m (sym c.in-Ok.ensures.told ∙ sym c.in-Ok-gather_node.ensures.told ∙ told) in
    (c.args.root, oldest_first k.1, are_for (volume_of c.args.sup.now (contents m)) c.args.root c.args.leads.now k.0 k.1 k.2)

pub returns-in-Err-gather_leads-clause-unread : goal.returns-in-Err-gather_leads-clause-unread
returns-in-Err-gather_leads-clause-unread g c m told =
    let k = c.requires.known m told in
    c.in-Err-gather_leads.ensures.unread m c.args.root (oldest_first k.1) (c.in-Ok-gather_node.ensures.told ∙ c.in-Ok.ensures.told ∙ told) (are_for (volume_of c.args.sup.now (contents m)) c.args.root c.args.leads.now k.0 k.1 k.2)

pub returns-in-Ok-sort_pairs-clause-wanted : goal.returns-in-Ok-sort_pairs-clause-wanted
returns-in-Ok-sort_pairs-clause-wanted g c m top visits told gone keys =
    let v = volume_of c.args.sup.now (contents m) in
    let first : pairs_of c.gather_node.new.pairs.items ≡ pair_with (key_in c.args.root c.args.index.now c.args.kind c.args.root top.1) c.args.root =
    c.in-Ok-gather_node.ensures.gathered m c.args.root top.1 (c.in-Ok.ensures.told ∙ told) (top_known v c.args.root c.args.leads.now top visits gone) (root_name v c.args.root c.args.leads.now top visits gone) (own_number c.args.root)
    (c.in-Ok.ensures.keys m top.1 told (top_known v c.args.root c.args.leads.now top visits gone).node)
    ∙ ap (λ (ps : List kept.Pair). pairs_of ps ++ pair_with (key_in c.args.root c.args.index.now c.args.kind c.args.root top.1) c.args.root) c.new-pairs.ensures.items in
    wanted_are v c.args.root c.args.leads.now top visits gone c.args.index.now c.args.kind (pairs_of c.gather_node.new.pairs.items) (pairs_of c.gather_leads.new.pairs.items) (pairs_of c.sort_pairs.new.pairs.items) first
    (c.in-Ok-gather_leads.ensures.gathered m c.args.root (oldest_first visits) (c.in-Ok-gather_node.ensures.told ∙ c.in-Ok.ensures.told ∙ told) (are_for v c.args.root c.args.leads.now top visits gone) keys)
    c.in-Ok-sort_pairs.ensures
