use Rattle.std.proofs.Common.{rules, ◌∙◌, List, subst, sym}
use Rattle.bfs_stream.specs.Told.{contents}
use Rattle.bfs_sound.specs.Whole.{volume_of}
use Rattle.bfs_inode_walk.specs.Visited.{IsVisitCause}
use Rattle.bfs_nodes_walk.specs.Facts.{AreFactsOf}
use Rattle.bfs_nodes_walk.specs.Walks.{IsWalked}
use Rattle.bfs_nodes_walk.specs.declared.lead.NodeLead.{NodeLead}
use Rattle.bfs_indices_check.specs.Passes.{IsWhole}
use Rattle.bfs_indices_check.specs.Laws.{system_blocks}
use Rattle.bfs_passes.proofs.Sharing.{node_shared, attribute_shared}
use Rattle.bfs_passes.proofs.walk.go_over_nodes.Goals as goal

pub returns-in-Err-clause-wrong : goal.returns-in-Err-clause-wrong
returns-in-Err-clause-wrong g c m told are log =
    let v = volume_of c.args.sup.now (contents m) in
    c.walked.ensures.told c.args.sup.now v log (c.in-Err.ensures.wrong m (system_blocks v) told are) (node_shared v c.in-Err.fault (c.in-Err.ensures.taken m (system_blocks v) told are))

pub returns-in-Err-clause-cause : goal.returns-in-Err-clause-cause
returns-in-Err-clause-cause g c = c.walked.ensures.cause (g.B.Blocks.counts c.args.under.now) (g.B.Blocks.counts c.walk_nodes.new.under) c.in-Err.ensures.cause

pub returns-in-Ok-visit_all-clause-whole : goal.returns-in-Ok-visit_all-clause-whole
returns-in-Ok-visit_all-clause-whole g c m told are =
    let v = volume_of c.args.sup.now (contents m) in
    let walked = subst (IsWalked v (system_blocks v) c.walk_nodes.new.claims) (sym c.deref.ensures.value) (c.in-Ok.ensures.walked m (system_blocks v) told are) in
    subst (IsWhole v (system_blocks v) c.visit_all.new.claims) c.deref.ensures.value (c.in-Ok-visit_all.ensures.whole m (system_blocks v) (c.in-Ok.ensures.told ∙ told) walked)

pub returns-in-Err-visit_all-clause-wrong : goal.returns-in-Err-visit_all-clause-wrong
returns-in-Err-visit_all-clause-wrong g c m told are log =
    let v = volume_of c.args.sup.now (contents m) in
    let on = c.in-Ok.ensures.told ∙ told in
    let walked = subst (IsWalked v (system_blocks v) c.walk_nodes.new.claims) (sym c.deref.ensures.value) (c.in-Ok.ensures.walked m (system_blocks v) told are) in
    c.walked-in-Err-visit_all.ensures.told c.args.sup.now v log (c.in-Err-visit_all.ensures.wrong m (system_blocks v) on walked)
    (attribute_shared v c.in-Err-visit_all.fault (c.in-Err-visit_all.ensures.taken m (system_blocks v) on walked))

pub returns-in-Err-visit_all-clause-cause : goal.returns-in-Err-visit_all-clause-cause
returns-in-Err-visit_all-clause-cause g c =
    let cause : IsVisitCause (g.B.Blocks.counts c.args.under.now) (g.B.Blocks.counts c.visit_all.new.under) c.in-Err-visit_all.fault = search rules in
    c.walked-in-Err-visit_all.ensures.cause (g.B.Blocks.counts c.args.under.now) (g.B.Blocks.counts c.visit_all.new.under) cause

pub returns-in-Ok-visit_all-clause-some : goal.returns-in-Ok-visit_all-clause-some
returns-in-Ok-visit_all-clause-some g c m told =
    let v = volume_of c.args.sup.now (contents m) in
    let listed = c.count.ensures.listed in
    let walked = subst (IsWalked v listed.0 c.walk_nodes.new.claims) (sym c.deref.ensures.value) (c.in-Ok.ensures.walked m listed.0 told listed.1) in
    (listed.0, c.visit_all.new.claims, subst (IsWhole v listed.0 c.visit_all.new.claims) c.deref.ensures.value (c.in-Ok-visit_all.ensures.whole m listed.0 (c.in-Ok.ensures.told ∙ told) walked))

pub visit_all-requires-clause-facts : goal.visit_all-requires-clause-facts
visit_all-requires-clause-facts g c m told =
    let v = volume_of c.args.sup.now (contents m) in
    subst (AreFactsOf v c.deref.result.now) (sym c.deref-2.ensures.value)
    (subst (λ (l : List NodeLead). AreFactsOf v l c.in-Ok.all.facts.items) (sym c.deref.ensures.value) (c.in-Ok.ensures.facts m (sym c.in-Ok.ensures.told ∙ told)))
