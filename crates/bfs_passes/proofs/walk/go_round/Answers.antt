use Rattle.std.proofs.Common.{◌∙◌, List, ◌∷◌, ◌++◌, subst, sym}
use Rattle.std.specs.List.{flat_map}
use Rattle.bfs_stream.specs.Told.{contents}
use Rattle.bfs_sound.specs.Owners.{node_blocks}
use Rattle.bfs_sound.specs.Whole.{volume_of}
use Rattle.bfs_inode_walk.specs.Visited.{IsClaimedFirst, IsTakenFirst}
use Rattle.bfs_nodes_walk.specs.declared.lead.NodeLead.{NodeLead}
use Rattle.bfs_indices_check.specs.Passes.{IsWhole, IsWholeOf}
use Rattle.bfs_indices_check.specs.Indices.{IsIndexWay}
use Rattle.bfs_indices_check.specs.Laws.{system_blocks}
use Rattle.bfs_passes.specs.Passed.{IsFaultOf}
use Rattle.bfs_passes.proofs.walk.go_round.Goals as goal

pub returns-in-Ok-visit_indices-clause-gone : goal.returns-in-Ok-visit_indices-clause-gone
returns-in-Ok-visit_indices-clause-gone g c m told are =
    let v = volume_of c.args.sup.now (contents m) in
    let whole = c.in-Ok.ensures.whole m told are in
    record {
      nodes = c.go_over_nodes.new.claims;
      whole = whole;
      indices = c.in-Ok-visit_indices.ensures.walked m (system_blocks v ++ flat_map (node_blocks v) (whole.top ∷ whole.visits)) (c.in-Ok.ensures.told ∙ told) whole.claimed;
    }

pub returns-in-Err-Taken-clause-wrong : goal.returns-in-Err-Taken-clause-wrong
returns-in-Err-Taken-clause-wrong g c m told are log =
    let v = volume_of c.args.sup.now (contents m) in
    let on = c.in-Ok.ensures.told ∙ told in
    let whole = c.in-Ok.ensures.whole m told are in
    let first = system_blocks v ++ flat_map (node_blocks v) (whole.top ∷ whole.visits) in
    let taken : IsClaimedFirst IsIndexWay v first c.in-Err-Taken.block c.in-Err-Taken.owner =
    subst (IsTakenFirst IsIndexWay v first) c.in-Err-Taken.field-0-is (c.in-Err-Taken.ensures.taken m first on whole.claimed) in
    subst (λ (l : List NodeLead). (w : IsWhole v (system_blocks v) c.go_over_nodes.new.claims l)
    → IsClaimedFirst IsIndexWay v (system_blocks v ++ flat_map (node_blocks v) (w.top ∷ w.visits)) c.in-Err-Taken.block c.in-Err-Taken.owner → IsFaultOf c.args.sup.now v c.shared_index.result)
    c.deref-rows.ensures.value (λ w t. c.shared_index.ensures.wrong m c.go_over_nodes.new.claims (c.in-Err-Taken.ensures.told ∙ on) log w t) whole taken

pub shared_index-requires-clause-whole : goal.shared_index-requires-clause-whole
shared_index-requires-clause-whole g c m told =
    let v = volume_of c.args.sup.now (contents m) in
    subst (IsWholeOf v) (sym c.deref-rows.ensures.value) (c.in-Ok.ensures.some m (sym (c.in-Err-Taken.ensures.told ∙ c.in-Ok.ensures.told) ∙ told))
