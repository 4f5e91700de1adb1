use Rattle.std.proofs.Common.{rules, ◌≡◌, List, ℕ, sym, subst}
use Rattle.bfs_stream.specs.Told.{contents}
use Rattle.bfs_sound.specs.Volumes.{Volume}
use Rattle.bfs_sound.specs.Whole.{volume_of}
use Rattle.bfs_finding.specs.Ways.{Arrives, to_child}
use Rattle.bfs_node_walk.specs.Nodes.{IsNamedBy}
use Rattle.bfs_nodes_walk.proofs.Walking.{taken_named, untaken_by, arrives_by}
use Rattle.bfs_nodes_walk.proofs.step.visit_lead.Goals as goal

pub returns-in-Err-clause-wrong : goal.returns-in-Err-clause-wrong
returns-in-Err-clause-wrong g c m told row = c.in-Err.ensures.wrong (volume_of c.args.sup.now (contents m)) (sym c.blocks_in.ensures) row

pub returns-in-Err-clause-taken : goal.returns-in-Err-clause-taken
returns-in-Err-clause-taken g c m xs told a = untaken_by (volume_of c.args.sup.now (contents m)) xs c.args.lead.now c.in-Err.fault c.in-Err.ensures.untaken

pub returns-in-Err-clause-cause : goal.returns-in-Err-clause-cause
returns-in-Err-clause-cause g c = c.in-Err.ensures.cause (g.B.Blocks.counts c.args.under.now) (g.B.Blocks.counts c.args.under.now)

pub returns-in-Ok-visit_child-clause-named : goal.returns-in-Ok-visit_child-clause-named
returns-in-Ok-visit_child-clause-named g c m told =
    let slice : c.as_slice.result.now ≡ c.args.lead.now.row.name = search rules in
    subst (λ (x : List ℕ). IsNamedBy (volume_of c.args.sup.now (contents m)) c.in-Ok.id c.args.lead.now.dir x) slice (c.in-Ok-visit_child.ensures.named m told)

pub returns-in-Err-visit_child-clause-wrong : goal.returns-in-Err-visit_child-clause-wrong
returns-in-Err-visit_child-clause-wrong g c m told row =
    let v : Volume = volume_of c.args.sup.now (contents m) in
    let slice : c.as_slice.result.now ≡ c.args.lead.now.row.name = search rules in
    c.in-Err-visit_child.ensures.wrong m told
    (subst (λ (x : List ℕ). Arrives v (to_child c.args.lead.now.dir x) c.in-Ok.id) (sym slice) (arrives_by v c.args.lead.now c.in-Ok.id c.in-Ok.ensures.is.0 row))

pub returns-in-Err-visit_child-clause-taken : goal.returns-in-Err-visit_child-clause-taken
returns-in-Err-visit_child-clause-taken g c m xs told a =
    taken_named (volume_of c.args.sup.now (contents m)) xs c.args.lead.now c.in-Ok.id c.in-Ok.ensures.is.0 c.in-Err-visit_child.fault (c.in-Err-visit_child.ensures.taken m xs told a)
